use Rattle.std.proofs.Common.{[], ◌∷◌, ap, ◌∙◌, sym}
use Rattle.text.specs.Slots.{row_in}
use Rattle.text.specs.Writes.{writes}
use Rattle.grammar.specs.Syntax.{is_digit}
use Rattle.text.proofs.FillTerms.{plain_digits, plain_word}
use Rattle.text.proofs.loader.fill_plain.Goals as goal

pub returns-then-is_ascii_digit-clause-is : goal.returns-then-is_ascii_digit-clause-is
unfolding writes
returns-then-is_ascii_digit-clause-is c =
    plain_digits c.args.names.now c.args.text.now c.number_at-number.result.1.now (row_in c.args.code.now) (row_in c.push-then-is_ascii_digit.new.self) c.number_at-number.result.0 (ap is_digit (sym c.nth.ensures) ∙ sym c.if-is_ascii_digit.ensures.value) c.number_at-number.ensures
    (c.push-then-is_ascii_digit.ensures.is ∙ ap (writes (c.number_at-number.result.0 ∷ [])) (c.push.ensures.is ∙ ap (λ x. writes (x ∷ []) (row_in c.args.code.now)) c.from.ensures))

pub returns-clause-is : goal.returns-clause-is
returns-clause-is c =
    plain_word c.args.names.now c.args.text.now c.word_at-word.result.1.now (row_in c.args.code.now) (row_in c.fill_operand.new.code) c.word_at-word.result.0 (ap is_digit (sym c.nth.ensures) ∙ sym c.if-is_ascii_digit.ensures.value) c.word_at-word.ensures c.fill_operand.ensures.is
