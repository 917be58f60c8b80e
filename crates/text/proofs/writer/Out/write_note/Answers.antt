use Rattle.std.proofs.Common.{refl}
use Rattle.grammar.specs.Syntax.{show_notes}
use Rattle.text.proofs.Spills.{lost, ahead_all, ahead_more, ahead_passed, ahead_writes}
use Rattle.text.proofs.writer.Out.write_note.Goals as goal

pub returns-in_err-write_all : goal.returns-in_err-write_all
unfolding show_notes
returns-in_err-write_all c =
    lost _ c.from_residual.ensures (ahead_passed (ahead_all refl) _ refl c.in_err-write_all.ensures)

pub returns-in_err-write_number : goal.returns-in_err-write_number
unfolding show_notes
returns-in_err-write_number c =
    lost _ c.from_residual-in_err-write_number.ensures (ahead_passed (ahead_more (ahead_all refl) refl c.in_ok-write_all.ensures) _ refl c.in_err-write_number.ensures)

pub returns-in_err-put : goal.returns-in_err-put
unfolding show_notes
returns-in_err-put c =
    lost _ c.from_residual-in_err-put.ensures (ahead_passed (ahead_more (ahead_more (ahead_all refl) refl c.in_ok-write_all.ensures) refl c.in_ok-write_number.ensures) _ refl c.in_err-put.ensures)

pub returns-in_err-write_number-2 : goal.returns-in_err-write_number-2
unfolding show_notes
returns-in_err-write_number-2 c =
    lost _ c.from_residual-in_err-write_number-2.ensures (ahead_passed (ahead_more (ahead_more (ahead_more (ahead_all refl) refl c.in_ok-write_all.ensures) refl c.in_ok-write_number.ensures) refl c.in_ok-put.ensures) _ refl c.in_err-write_number-2.ensures)

pub returns-in_err-put-2 : goal.returns-in_err-put-2
unfolding show_notes
returns-in_err-put-2 c =
    lost _ c.from_residual-in_err-put-2.ensures (ahead_passed (ahead_more (ahead_more (ahead_more (ahead_more (ahead_all refl) refl c.in_ok-write_all.ensures) refl c.in_ok-write_number.ensures) refl c.in_ok-put.ensures) refl c.in_ok-write_number-2.ensures) _ refl c.in_err-put-2.ensures)

pub returns-in_err-write_number-3 : goal.returns-in_err-write_number-3
unfolding show_notes
returns-in_err-write_number-3 c =
    lost _ c.from_residual-in_err-write_number-3.ensures (ahead_passed (ahead_more (ahead_more (ahead_more (ahead_more (ahead_more (ahead_all refl) refl c.in_ok-write_all.ensures) refl c.in_ok-write_number.ensures) refl c.in_ok-put.ensures) refl c.in_ok-write_number-2.ensures) refl c.in_ok-put-2.ensures) _ refl c.in_err-write_number-3.ensures)

pub returns : goal.returns
unfolding show_notes
returns c =
    ahead_writes (ahead_more (ahead_more (ahead_more (ahead_more (ahead_more (ahead_more (ahead_all refl) refl c.in_ok-write_all.ensures) refl c.in_ok-write_number.ensures) refl c.in_ok-put.ensures) refl c.in_ok-write_number-2.ensures) refl c.in_ok-put-2.ensures) refl c.in_ok-write_number-3.ensures) _ c.put-3.result c.put-3.ensures
