use Rattle.net.proofs.Ends.{comes_to_end}
use Rattle.net.proofs.comes_to_end.Goals as goal

pub returns : goal.returns
returns c = comes_to_end
