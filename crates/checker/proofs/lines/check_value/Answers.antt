use Rattle.std.proofs.Common.{◌∙◌}
use Rattle.grammar.specs.Check.{draws}
use Rattle.checker.specs.Refusals.{names_in}
use Rattle.checker.proofs.Heads.{value_expr, value_draw, value_other}
use Rattle.checker.proofs.lines.check_value.Goals as goal

pub returns-then-not-begins_with_letter : goal.returns-then-not-begins_with_letter
returns-then-not-begins_with_letter c = λ w. value_expr (names_in c.args.names.now) w c.args.text.now c.if-not-begins_with_letter.ensures ∙ c.check_last.ensures

pub returns-in-Draw : goal.returns-in-Draw
returns-in-Draw c = λ w.
    value_draw (names_in c.args.names.now) w c.args.text.now c.if-not-begins_with_letter.ensures c.in_ok-word.word c.in_ok-word.rest.now c.in_ok-word.ensures c.in-Draw.is
    ∙ c.check_rest.ensures (draws w)

pub returns-in_default : goal.returns-in_default
returns-in_default c = λ w.
    value_other (names_in c.args.names.now) w c.args.text.now c.if-not-begins_with_letter.ensures c.in_ok-word.word c.in_ok-word.rest.now c.in_ok-word.ensures c.in_default.not-Draw
    ∙ c.check_last-in_default.ensures
