use Rattle.text.proofs.Holds.{filled_holds}
use Rattle.text.proofs.filled_holds.Goals as goal

pub returns : goal.returns
returns c = filled_holds
