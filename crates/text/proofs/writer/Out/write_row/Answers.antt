use Rattle.std.proofs.Common.{refl, arith}
use Rattle.text.proofs.Texts.{row_more, row_none}
use Rattle.text.proofs.Spills.{lost, ahead_all, ahead_more, ahead_told, ahead_passed, ahead_done}
use Rattle.text.proofs.writer.Out.write_row.Goals as goal

pub loop-entry-init : goal.loop-entry-init
loop-entry-init g c = ahead_all refl

pub returns-in_err-put : goal.returns-in_err-put
returns-in_err-put g c =
    lost _ c.from_residual.ensures (ahead_passed (ahead_told c.loop-entry.invariant (row_more g.T.Entry.bytes c.args.row.now c.loop-entry.entry-index c.entry-item.result (omega arith) c.entry-item.is)) _ refl c.in_err-put.ensures)

pub returns-in_err-write : goal.returns-in_err-write
returns-in_err-write g c =
    lost _ c.from_residual-in_err-write.ensures
    (ahead_passed (ahead_more (ahead_told c.loop-entry.invariant (row_more g.T.Entry.bytes c.args.row.now c.loop-entry.entry-index c.entry-item.result (omega arith) c.entry-item.is)) refl c.in_ok-put.ensures) _ refl c.in_err-write.ensures)

pub loop-entry-preserved : goal.loop-entry-preserved
loop-entry-preserved g c =
    ahead_more (ahead_more (ahead_told c.loop-entry.invariant (row_more g.T.Entry.bytes c.args.row.now c.loop-entry.entry-index c.entry-item.result (omega arith) c.entry-item.is)) refl c.in_ok-put.ensures) refl c.in_ok-write.ensures

pub returns : goal.returns
returns g c = ahead_done c.loop-entry.invariant (row_none g.T.Entry.bytes c.args.row.now c.loop-entry.entry-index (omega arith))
