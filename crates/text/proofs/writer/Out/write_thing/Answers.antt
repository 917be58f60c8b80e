use Rattle.std.proofs.Common.{refl}
use Rattle.grammar.specs.Syntax.{show_things}
use Rattle.text.proofs.Spills.{lost, ahead_all, ahead_more, ahead_passed, ahead_writes}
use Rattle.text.proofs.writer.Out.write_thing.Goals as goal

pub returns-in_err-write_all : goal.returns-in_err-write_all
unfolding show_things
returns-in_err-write_all c =
    lost _ c.from_residual.ensures (ahead_passed (ahead_all refl) _ refl c.in_err-write_all.ensures)

pub returns-in_err-write_name : goal.returns-in_err-write_name
unfolding show_things
returns-in_err-write_name c =
    lost _ c.from_residual-in_err-write_name.ensures (ahead_passed (ahead_more (ahead_all refl) refl c.in_ok-write_all.ensures) _ refl c.in_err-write_name.ensures)

pub returns-in_err-write_row : goal.returns-in_err-write_row
unfolding show_things
returns-in_err-write_row c =
    lost _ c.from_residual-in_err-write_row.ensures (ahead_passed (ahead_more (ahead_more (ahead_all refl) refl c.in_ok-write_all.ensures) refl c.in_ok-write_name.ensures) _ refl c.in_err-write_row.ensures)

pub returns : goal.returns
unfolding show_things
returns c =
    ahead_writes (ahead_more (ahead_more (ahead_more (ahead_all refl) refl c.in_ok-write_all.ensures) refl c.in_ok-write_name.ensures) refl c.in_ok-write_row.ensures) _ c.put.result c.put.ensures
