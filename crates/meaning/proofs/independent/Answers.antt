use Rattle.meaning.proofs.Commute.{independent}
use Rattle.meaning.proofs.independent.Goals as goal

pub returns : goal.returns
returns c = independent
