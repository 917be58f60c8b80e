use Rattle.letters.proofs.Reading.{formed_parts, letter_back, last_carried}
use Rattle.letters.proofs.read_back.Goals as goal

pub returns : goal.returns
returns c = λ l c h. let f = formed_parts l c h in (letter_back l c f, last_carried l c f.long)
