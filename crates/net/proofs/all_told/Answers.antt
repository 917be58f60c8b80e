use Rattle.net.proofs.Told.{all_told}
use Rattle.net.proofs.all_told.Goals as goal

pub returns : goal.returns
returns c = all_told
