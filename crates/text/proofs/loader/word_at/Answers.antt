use Rattle.text.proofs.Leaves.{word_or}
use Rattle.text.proofs.loader.word_at.Goals as goal

pub returns : goal.returns
returns c = word_or c.args.text.now c.read_word.result c.unwrap_or_else.result _ c.read_word.ensures c.unwrap_or_else.ensures
