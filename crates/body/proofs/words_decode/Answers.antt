use Rattle.body.proofs.Encode.{decodes}
use Rattle.body.proofs.words_decode.Goals as goal

pub returns : goal.returns
returns c = decodes
