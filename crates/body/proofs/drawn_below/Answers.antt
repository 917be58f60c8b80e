use Rattle.std.proofs.Common.{rules}
use Rattle.meaning.specs.Model.{drawn}
use Rattle.body.proofs.drawn_below.Goals as goal

pub returns : goal.returns
unfolding drawn
returns c = search rules
