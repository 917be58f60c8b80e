use Rattle.net.proofs.Told.{same_said}
use Rattle.net.proofs.same_said.Goals as goal

pub returns : goal.returns
returns c = same_said
