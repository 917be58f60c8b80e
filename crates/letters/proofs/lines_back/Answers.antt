use Rattle.letters.specs.Back.{line_back}
use Rattle.letters.proofs.lines_back.Goals as goal

pub returns : goal.returns
returns c = line_back
