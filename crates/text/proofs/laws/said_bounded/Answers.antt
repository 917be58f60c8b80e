use Rattle.text.proofs.LawSaid.{said_bounded}
use Rattle.text.proofs.laws.said_bounded.Goals as goal

pub returns : goal.returns
returns c = said_bounded
