use Rattle.meaning.proofs.Certificate.{whole_run}
use Rattle.meaning.proofs.whole_run.Goals as goal

pub returns : goal.returns
returns c = whole_run
