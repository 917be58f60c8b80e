use Rattle.std.proofs.Common.{◌∙◌, ap, ap₂, sym}
use Rattle.std.proofs.lemmas.List.{take_rest}
use Rattle.grammar.specs.Parse.{got, bad}
use Rattle.words.specs.Reads.{map_got}
use Rattle.words.specs.Words.{word_by, word_of}
use Rattle.words.proofs.Fronts.{word_none, word_long, word_some}
use Rattle.words.proofs.read_word.Goals as goal

pub returns-then-not-begins_with_letter : goal.returns-then-not-begins_with_letter
returns-then-not-begins_with_letter c = ap (map_got word_of) (word_none c.args.text.now c.if-not-begins_with_letter.ensures)

pub returns-then-len-gt-LONGEST : goal.returns-then-len-gt-LONGEST
returns-then-len-gt-LONGEST c =
    ap (map_got word_of) (word_long c.args.text.now c.word_len-len.result c.if-not-begins_with_letter.ensures c.word_len-len.ensures.value c.if-len-gt-LONGEST.true)
    ∙ ap bad (sym (take_rest c.args.text.now 8))

pub returns : goal.returns
returns c =
    ap (map_got word_of) (word_some c.args.text.now c.word_len-len.result c.if-not-begins_with_letter.ensures c.word_len-len.ensures.value c.if-len-gt-LONGEST.false)
    ∙ ap₂ got (sym (c.from.ensures ∙ ap word_by c.packed.ensures ∙ ap word_of c.split_at.ensures.front)) (sym c.split_at.ensures.back)
