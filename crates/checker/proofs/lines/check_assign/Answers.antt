use Rattle.std.proofs.Common.{◌≡◌, sym, ap, ◌∙◌, codes, true, false, arith, rules}
use Rattle.grammar.specs.Syntax.{among}
use Rattle.grammar.specs.Check.{then, check_literal, check_value}
use Rattle.words.specs.Words.{unpack}
use Rattle.words.proofs.Packs.{packed_again}
use Rattle.checker.specs.Refusals.{left_out, ended, names_in, refused_by}
use Rattle.checker.proofs.Terms.{known}
use Rattle.checker.proofs.Heads.{assign_unknown, assign_known}
use Rattle.checker.proofs.lines.check_assign.Goals as goal

pub returns-then-not-contains : goal.returns-then-not-contains
returns-then-not-contains c =
    let names = names_in c.args.names.now in
    let k : among (unpack c.args.name) names ≡ false =
    sym (known c.args.name c.args.names.now (packed_again c.args.name (omega arith)) (λ i. omega (arith, c.type_inv.names i))) ∙ sym c.if-not-contains.ensures.value
    in
    assign_unknown names c.args.text.now (unpack c.args.name) c.args.rest.now k ∙ ap (λ f. refused_by {A = Unit {0}} f) (sym c.at.ensures)

pub returns-in_err-rest : goal.returns-in_err-rest
returns-in_err-rest c =
    let names = names_in c.args.names.now in
    let k : among (unpack c.args.name) names ≡ true =
    sym (known c.args.name c.args.names.now (packed_again c.args.name (omega arith)) (λ i. omega (arith, c.type_inv.names i))) ∙ sym c.if-not-contains.ensures.value
    in
    let g : left_out (then (check_literal (codes " = ") c.args.rest.now) (λ _ d. check_value names (unpack c.args.name) d)) ≡ ended c.from_residual.result = search rules in
    ap (λ g. left_out g) (assign_known names c.args.text.now (unpack c.args.name) c.args.rest.now k) ∙ g

pub returns : goal.returns
returns c =
    let names = names_in c.args.names.now in
    let k : among (unpack c.args.name) names ≡ true =
    sym (known c.args.name c.args.names.now (packed_again c.args.name (omega arith)) (λ i. omega (arith, c.type_inv.names i))) ∙ sym c.if-not-contains.ensures.value
    in
    let g : left_out (then (check_literal (codes " = ") c.args.rest.now) (λ _ d. check_value names (unpack c.args.name) d)) ≡ ended c.check_value.result = search rules in
    ap (λ g. left_out g) (assign_known names c.args.text.now (unpack c.args.name) c.args.rest.now k) ∙ g
