use Rattle.std.proofs.Common.{◌≡◌, ◌++◌, take, drop}
use Rattle.sequential.specs.Memory.{started}
use Rattle.sequential.proofs.start_all.Given as goal

abbrev pub invariant-loop-k : goal.invariant-loop-k
invariant-loop-k l = take l.k l.processes ++ started l.luck l.k (drop l.k l.processes) ≡ started l.luck 0 l.initial.processes
