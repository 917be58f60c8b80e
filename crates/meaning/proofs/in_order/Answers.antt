use Rattle.meaning.proofs.States.{in_order}
use Rattle.meaning.proofs.in_order.Goals as goal

pub returns : goal.returns
returns c = in_order
