use Rattle.letters.proofs.Reading.{read_so}
use Rattle.letters.proofs.read_so.Goals as goal

pub returns : goal.returns
returns c = read_so
