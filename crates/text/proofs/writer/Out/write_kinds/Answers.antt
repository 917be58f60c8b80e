use Rattle.std.proofs.Common.{refl, arith}
use Rattle.text.proofs.Texts.{kinds_turn, kinds_none}
use Rattle.text.proofs.Spills.{lost, ahead_all, ahead_more, ahead_passed, ahead_done}
use Rattle.text.proofs.writer.Out.write_kinds.Goals as goal

pub loop-start-init : goal.loop-start-init
loop-start-init c =
    ahead_all refl

pub returns-in_err-write_kind : goal.returns-in_err-write_kind
returns-in_err-write_kind c =
    lost _ c.from_residual.ensures (ahead_passed c.loop-start.invariant _ (kinds_turn c.args.model.code.now c.args.model.kinds.now c.loop-start.rows.now _ c.loop-start.start-index (omega arith) refl) c.in_err-write_kind.ensures)

pub loop-start-preserved : goal.loop-start-preserved
loop-start-preserved c =
    ahead_more c.loop-start.invariant (kinds_turn c.args.model.code.now c.args.model.kinds.now c.loop-start.rows.now _ c.loop-start.start-index (omega arith) c.skip-rows.ensures) c.in_ok-write_kind.ensures

pub returns : goal.returns
returns c =
    ahead_done c.loop-start.invariant (kinds_none c.args.model.code.now c.args.model.kinds.now c.loop-start.rows.now c.loop-start.start-index (omega arith))
