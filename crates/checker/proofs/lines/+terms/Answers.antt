use Rattle.std.proofs.Common.{sym, ap, ◌∙◌}
use Rattle.checker.specs.Refusals.{left_out, names_in, refused_by}
use Rattle.checker.proofs.Terms.{term_deep, term_plain, term_two}
use Rattle.checker.proofs.lines.+terms.Goals as goal

pub check_term-returns-then-depth-eq0 : goal.check_term-returns-then-depth-eq0
check_term-returns-then-depth-eq0 t c =
    term_deep (names_in c.args.names.now) c.args.depth c.args.text.now c.if-depth-eq0.true ∙ ap (λ f. refused_by {A = Unit {0}} f) (sym c.at.ensures)

pub check_term-returns-in-Ok : goal.check_term-returns-in-Ok
check_term-returns-in-Ok t c =
    ap (λ g. left_out g) (term_two (names_in c.args.names.now) c.args.depth c.args.text.now c.in-Ok.rest.now c.if-depth-eq0.false c.in-Ok.ensures) ∙ c.check_two.ensures

pub check_term-returns-in-Err : goal.check_term-returns-in-Err
check_term-returns-in-Err t c =
    ap (λ g. left_out g) (term_plain (names_in c.args.names.now) c.args.depth c.args.text.now c.in-Err.field-0.now c.if-depth-eq0.false c.in-Err.ensures) ∙ c.check_plain.ensures
