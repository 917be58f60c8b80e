use Rattle.std.proofs.Common.{◌∙◌}
use Rattle.checker.specs.Refusals.{names_in}
use Rattle.checker.proofs.Terms.{plain_word, plain_number}
use Rattle.checker.proofs.lines.check_plain.Goals as goal

pub returns-then-begins_with_letter : goal.returns-then-begins_with_letter
returns-then-begins_with_letter c = plain_word (names_in c.args.names.now) c.args.text.now c.if-begins_with_letter.ensures ∙ c.check_operand.ensures

pub returns-else-begins_with_letter : goal.returns-else-begins_with_letter
returns-else-begins_with_letter c = plain_number (names_in c.args.names.now) c.args.text.now c.if-begins_with_letter.ensures ∙ c.check_below.ensures
