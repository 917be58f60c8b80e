use Rattle.meaning.proofs.Forget.{may_forget}
use Rattle.meaning.proofs.may_forget.Goals as goal

pub returns : goal.returns
returns c = may_forget
