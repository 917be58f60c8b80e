use Rattle.std.proofs.Common.{true, false, sym, refl, ap, ◌∙◌, arith}
use Rattle.checker.specs.Refusals.{names_in, refused_by}
use Rattle.checker.proofs.Terms.{operand_own, operand_name, operand_none}
use Rattle.checker.proofs.lines.check_operand.Goals as goal

pub returns-in-It : goal.returns-in-It
returns-in-It c = operand_own (names_in c.args.names.now) c.args.text.now c.in_ok-word.word c.in_ok-word.rest.now c.in_ok-word.ensures c.in-It.is

pub returns-then-contains : goal.returns-then-contains
returns-then-contains c =
    operand_name (names_in c.args.names.now) c.args.text.now c.in_ok-word.word c.in_ok-word.rest.now c.in_ok-word.ensures c.in-Name.name c.args.names.now refl (λ i. omega (arith, c.type_inv.names i)) c.in-Name.is
    true c.if-contains.ensures.value

pub returns-else-contains : goal.returns-else-contains
returns-else-contains c =
    operand_name (names_in c.args.names.now) c.args.text.now c.in_ok-word.word c.in_ok-word.rest.now c.in_ok-word.ensures c.in-Name.name c.args.names.now refl (λ i. omega (arith, c.type_inv.names i)) c.in-Name.is
    false c.if-contains.ensures.value
    ∙ ap (λ f. refused_by {A = Unit {0}} f) (sym c.at.ensures)

pub returns-in_default : goal.returns-in_default
returns-in_default c =
    operand_none (names_in c.args.names.now) c.args.text.now c.in_ok-word.word c.in_ok-word.rest.now c.in_ok-word.ensures c.in_default.not-It c.in_default.not-Me c.in_default.not-Now c.in_default.not-Name
    ∙ ap (λ f. refused_by {A = Unit {0}} f) (sym c.at-in_default.ensures)
