use Rattle.std.proofs.Common.{refl, arith}
use Rattle.text.proofs.Texts.{notes_more, notes_none}
use Rattle.text.proofs.Spills.{lost, ahead_all, ahead_more, ahead_passed, ahead_done}
use Rattle.text.proofs.writer.Out.write_notes.Goals as goal

pub loop-m-init : goal.loop-m-init
loop-m-init c =
    ahead_all refl

pub returns-in_err-write_note : goal.returns-in_err-write_note
returns-in_err-write_note c =
    lost _ c.from_residual.ensures (ahead_passed c.loop-m.invariant _ (notes_more c.args.messages.now c.loop-m.m-index _ (omega arith)) c.in_err-write_note.ensures)

pub loop-m-preserved : goal.loop-m-preserved
loop-m-preserved c =
    ahead_more c.loop-m.invariant (notes_more c.args.messages.now c.loop-m.m-index _ (omega arith)) c.in_ok-write_note.ensures

pub returns : goal.returns
returns c =
    ahead_done c.loop-m.invariant (notes_none c.args.messages.now c.loop-m.m-index (omega arith))
