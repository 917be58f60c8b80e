use Rattle.std.proofs.Common.{[], ◌∷◌, ap, ◌∙◌}
use Rattle.text.specs.Slots.{row_in}
use Rattle.text.specs.Writes.{writes}
use Rattle.text.proofs.FillTerms.{operand_it, operand_me, operand_now, operand_name, operand_none, no_number}
use Rattle.text.proofs.loader.fill_operand.Goals as goal

pub returns-in-It-clause-is : goal.returns-in-It-clause-is
returns-in-It-clause-is c =
    operand_it c.args.names.now c.args.word (row_in c.args.code.now) (row_in c.push.new.self) c.in-It.is (c.push.ensures.is ∙ ap (λ x. writes (x ∷ []) (row_in c.args.code.now)) c.from.ensures)

pub returns-in-Me-clause-is : goal.returns-in-Me-clause-is
returns-in-Me-clause-is c =
    operand_me c.args.names.now c.args.word (row_in c.args.code.now) (row_in c.push-in-Me.new.self) c.in-Me.is (c.push-in-Me.ensures.is ∙ ap (λ x. writes (x ∷ []) (row_in c.args.code.now)) c.from-in-Me.ensures)

pub returns-in-Now-clause-is : goal.returns-in-Now-clause-is
returns-in-Now-clause-is c =
    operand_now c.args.names.now c.args.word (row_in c.args.code.now) (row_in c.push-in-Now.new.self) c.in-Now.is (c.push-in-Now.ensures.is ∙ ap (λ x. writes (x ∷ []) (row_in c.args.code.now)) c.from-in-Now.ensures)

pub returns-in-Name-clause-is : goal.returns-in-Name-clause-is
unfolding writes
returns-in-Name-clause-is c =
    operand_name c.args.names.now c.args.word (row_in c.args.code.now) (row_in c.push-in-Name-2.new.self) c.in-Name.name c.place_of.result c.in-Name.is c.place_of.ensures.is (c.push-in-Name-2.ensures.is ∙ ap (writes (c.place_of.result ∷ [])) (c.push-in-Name.ensures.is ∙ ap (λ x. writes (x ∷ []) (row_in c.args.code.now)) c.from-in-Name.ensures))

pub returns-in_default-clause-is : goal.returns-in_default-clause-is
returns-in_default-clause-is c =
    operand_none c.args.names.now c.args.word _ _ (no_number c.args.word c.in_default.not-It c.in_default.not-Me c.in_default.not-Now c.in_default.not-Name)
