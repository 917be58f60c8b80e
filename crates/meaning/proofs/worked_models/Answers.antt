use Rattle.meaning.proofs.Worked.{worked}
use Rattle.meaning.proofs.worked_models.Goals as goal

pub returns : goal.returns
returns c = worked
