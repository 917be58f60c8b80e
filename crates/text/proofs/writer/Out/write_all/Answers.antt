use Rattle.std.proofs.Common.{refl, arith}
use Rattle.std.proofs.lemmas.List.{drop_more}
use Rattle.text.proofs.Spills.{ahead_all, ahead_more}
use Rattle.text.proofs.writer.Out.write_all.Goals as goal

pub loop-b-init : goal.loop-b-init
loop-b-init c =
    ahead_all refl

pub loop-b-preserved : goal.loop-b-preserved
loop-b-preserved c =
    ahead_more c.loop-b.invariant (drop_more c.args.bytes.now c.loop-b.b-index 0 (omega arith)) c.in_ok-put.ensures
