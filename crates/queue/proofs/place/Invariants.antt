use Rattle.queue.proofs.place.Given as goal
use Rattle.queue.proofs.Shift.{Shifted}

abbrev pub invariant-loop-at : goal.invariant-loop-at
invariant-loop-at l = Shifted l.m l.initial.row l.len l.row l.at
