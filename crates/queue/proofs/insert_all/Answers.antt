use Rattle.std.proofs.Common.{arith}
use Rattle.queue.proofs.insert_all.Goals as goal
use Rattle.queue.proofs.Many.{part_more, part_all}

pub loop-m-preserved : goal.loop-m-preserved
loop-m-preserved c = part_more _ _ _ _ _ _ _ _ c.loop-m-test.true c.loop-m.invariant c.place.ensures

pub returns : goal.returns
returns c =
    part_all c.args.more.now c.args.row.now c.args.len.now c.loop-m.m-index c.loop-m.row c.loop-m.len
    (omega arith) (omega arith) c.loop-m.invariant
