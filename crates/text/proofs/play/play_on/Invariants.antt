use Rattle.std.proofs.Common.{length}
use Rattle.sequential.specs.Memory.{SameLent, memory_in}
use Rattle.text.proofs.Onward.{Going}
use Rattle.text.proofs.play.play_on.Given as goal

abbrev pub invariant-loop-piece : goal.invariant-loop-piece
invariant-loop-piece g l =
    goal.F-IsAlwaysCallable g l.handled × SameLent l.initial.lent l.lent
    × Going l.program.code.now l.program.kinds.now l.end (length l.initial.sends) l._piece (memory_in l.initial.lent) (memory_in l.lent)
