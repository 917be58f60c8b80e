use Rattle.text.proofs.Simple.{draw_no_letter, draw_so, draw_not}
use Rattle.text.proofs.loader.is_draw.Goals as goal

pub returns-then-not-begins_with_letter : goal.returns-then-not-begins_with_letter
returns-then-not-begins_with_letter c =
    draw_no_letter c.args.text.now c.if-not-begins_with_letter.ensures

pub returns-in-Draw : goal.returns-in-Draw
returns-in-Draw c =
    draw_so c.args.text.now c.word_at-word.result.1.now c.word_at-word.result.0 c.word_at-word.ensures c.if-not-begins_with_letter.ensures c.in-Draw.is

pub returns-in_default : goal.returns-in_default
returns-in_default c =
    draw_not c.args.text.now c.word_at-word.result.1.now c.word_at-word.result.0 c.word_at-word.ensures c.in_default.not-Draw
