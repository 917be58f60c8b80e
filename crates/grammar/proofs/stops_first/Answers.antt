use Rattle.grammar.proofs.Texts.{stops_first}
use Rattle.grammar.proofs.stops_first.Goals as goal

pub returns : goal.returns
returns c = stops_first
