use Rattle.text.proofs.LawSaid.{written_anew}
use Rattle.text.proofs.laws.written_anew.Goals as goal

pub returns : goal.returns
returns c = written_anew
