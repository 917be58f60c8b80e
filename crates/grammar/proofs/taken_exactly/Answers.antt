use Rattle.grammar.proofs.Exact.{taken_exactly}
use Rattle.grammar.proofs.taken_exactly.Goals as goal

pub returns : goal.returns
returns c = taken_exactly
