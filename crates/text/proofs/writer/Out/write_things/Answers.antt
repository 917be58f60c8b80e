use Rattle.std.proofs.Common.{take, refl, ap, ◌∙◌, arith}
use Rattle.text.proofs.Texts.{things_turn, things_none}
use Rattle.text.proofs.Spills.{lost, ahead_all, ahead_more, ahead_passed, ahead_done}
use Rattle.text.proofs.writer.Out.write_things.Goals as goal

pub loop-p-init : goal.loop-p-init
loop-p-init c =
    ahead_all refl

pub returns-in_err-write_thing : goal.returns-in_err-write_thing
returns-in_err-write_thing c =
    lost _ c.from_residual.ensures (ahead_passed c.loop-p.invariant _ (things_turn c.args.model.kinds.now c.args.model.names.now c.args.model.processes.now c.loop-p.rows.now _ c.first-row.result.now c.loop-p.p-index _ c.kind_name-name.result
    (omega arith) c.kind_name-name.ensures (c.first-row.ensures ∙ ap (λ k. take k c.loop-p.rows.now) c.min.ensures) refl) c.in_err-write_thing.ensures)

pub loop-p-preserved : goal.loop-p-preserved
loop-p-preserved c =
    ahead_more c.loop-p.invariant (things_turn c.args.model.kinds.now c.args.model.names.now c.args.model.processes.now c.loop-p.rows.now _ c.first-row.result.now c.loop-p.p-index _ c.kind_name-name.result
    (omega arith) c.kind_name-name.ensures (c.first-row.ensures ∙ ap (λ k. take k c.loop-p.rows.now) c.min.ensures) c.skip-rows.ensures) c.in_ok-write_thing.ensures

pub returns : goal.returns
returns c =
    ahead_done c.loop-p.invariant (things_none c.args.model.kinds.now c.args.model.names.now c.args.model.processes.now c.loop-p.rows.now c.loop-p.p-index (omega arith))
