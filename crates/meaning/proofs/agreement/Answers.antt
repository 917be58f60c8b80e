use Rattle.meaning.proofs.Agree.{agreement}
use Rattle.meaning.proofs.agreement.Goals as goal

pub returns : goal.returns
returns c = agreement
