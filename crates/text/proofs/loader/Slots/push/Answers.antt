use Rattle.std.proofs.Common.{sym}
use Rattle.std.proofs.lemmas.Bool.{cond-true, cond-false, lt-ltb, le-ltb}
use Rattle.text.specs.Writes.{writes}
use Rattle.text.proofs.loader.Slots.push.Goals as goal

pub returns-then-self-clause-is : goal.returns-then-self-clause-is
unfolding writes
returns-then-self-clause-is g c =
    sym (cond-true _ _ _ (lt-ltb _ _ c.if-self.true))

pub returns-else-self-clause-is : goal.returns-else-self-clause-is
unfolding writes
returns-else-self-clause-is g c =
    sym (cond-false _ _ _ (le-ltb _ _ c.if-self.false))
