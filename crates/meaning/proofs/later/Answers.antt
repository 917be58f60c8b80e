use Rattle.meaning.proofs.Exec.{later}
use Rattle.meaning.proofs.later.Goals as goal

pub returns : goal.returns
returns c = later
