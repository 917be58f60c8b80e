use Rattle.net.proofs.Told.{never_back}
use Rattle.net.proofs.never_back.Goals as goal

pub returns : goal.returns
returns c = never_back
