-- Where the earlier keys are the same, the first that differs decides.
use Rattle.std.proofs.Common.{arith}
use Rattle.std.proofs.lemmas.Bool.Decides.{nat_tests}
use Rattle.meaning.specs.Model.{before}
use Rattle.queue.proofs.is_before.Goals as goal

pub returns-then-a-b : goal.returns-then-a-b
unfolding before
returns-then-a-b c = grind (arith, nat_tests)

pub returns-else-a-b : goal.returns-else-a-b
unfolding before
returns-else-a-b c = let e = c.lt.ensures in grind (arith, nat_tests, e)
