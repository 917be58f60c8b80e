use Rattle.queue.proofs.insert_all.Given as goal
use Rattle.queue.proofs.Many.{Part}

abbrev pub invariant-loop-m : goal.invariant-loop-m
invariant-loop-m l = Part l.more l.initial.row l.initial.len l.m-index l.row l.len
