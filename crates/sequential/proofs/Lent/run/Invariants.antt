use Rattle.std.proofs.Common.{length}
use Rattle.sequential.specs.Memory.{memory_in, SameLent}
use Rattle.sequential.proofs.Runs.{Reached}
use Rattle.sequential.proofs.Lent.run.Given as goal

abbrev pub invariant-loop-steps : goal.invariant-loop-steps
invariant-loop-steps l =
    SameLent l.initial.self l.self
    × Reached l.program.code.now l.program.kinds.now l.end (length l.initial.sends) (memory_in l.initial.self) l.steps (memory_in l.self)
