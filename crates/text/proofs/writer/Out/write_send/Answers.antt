use Rattle.std.proofs.Common.{refl}
use Rattle.text.proofs.Lines.{send_bytes}
use Rattle.text.proofs.Spills.{lost, ahead_all, ahead_more, ahead_passed}
use Rattle.text.proofs.writer.Out.write_send.Goals as goal

pub returns-in_err-write_all : goal.returns-in_err-write_all
returns-in_err-write_all c =
    lost _ c.from_residual.ensures (ahead_passed (ahead_all (send_bytes c.args.names.now c.args.fuel c.args.code.now c.skip_term-to.ensures c.skip_term-what.ensures refl)) _ refl c.in_err-write_all.ensures)

pub returns-in_err-behind : goal.returns-in_err-behind
returns-in_err-behind c =
    lost _ c.from_residual-in_err-behind.ensures (ahead_passed (ahead_more (ahead_all (send_bytes c.args.names.now c.args.fuel c.args.code.now c.skip_term-to.ensures c.skip_term-what.ensures refl)) refl c.in_ok-write_all.ensures) _ refl c.in_err-behind.ensures)

pub returns-in_err-write_all-2 : goal.returns-in_err-write_all-2
returns-in_err-write_all-2 c =
    lost _ c.from_residual-in_err-write_all-2.ensures (ahead_passed (ahead_more (ahead_more (ahead_all (send_bytes c.args.names.now c.args.fuel c.args.code.now c.skip_term-to.ensures c.skip_term-what.ensures c.in_ok-behind.ensures.rest_is)) refl c.in_ok-write_all.ensures) refl c.in_ok-behind.ensures.spilled) _ refl c.in_err-write_all-2.ensures)

pub returns-in_err-write_term : goal.returns-in_err-write_term
returns-in_err-write_term c =
    lost _ c.from_residual-in_err-write_term.ensures (ahead_passed (ahead_more (ahead_more (ahead_more (ahead_all (send_bytes c.args.names.now c.args.fuel c.args.code.now c.skip_term-to.ensures c.skip_term-what.ensures c.in_ok-behind.ensures.rest_is)) refl c.in_ok-write_all.ensures) refl c.in_ok-behind.ensures.spilled) refl c.in_ok-write_all-2.ensures) _ refl c.in_err-write_term.ensures)

pub returns-in_err-write_all-3 : goal.returns-in_err-write_all-3
returns-in_err-write_all-3 c =
    lost _ c.from_residual-in_err-write_all-3.ensures (ahead_passed (ahead_more (ahead_more (ahead_more (ahead_more (ahead_all (send_bytes c.args.names.now c.args.fuel c.args.code.now c.skip_term-to.ensures c.skip_term-what.ensures c.in_ok-behind.ensures.rest_is)) refl c.in_ok-write_all.ensures) refl c.in_ok-behind.ensures.spilled) refl c.in_ok-write_all-2.ensures) refl c.in_ok-write_term.ensures.spilled) _ refl c.in_err-write_all-3.ensures)

pub returns-in_err-write_term-2 : goal.returns-in_err-write_term-2
returns-in_err-write_term-2 c =
    lost _ c.from_residual-in_err-write_term-2.ensures (ahead_passed (ahead_more (ahead_more (ahead_more (ahead_more (ahead_more (ahead_all (send_bytes c.args.names.now c.args.fuel c.args.code.now c.skip_term-to.ensures c.skip_term-what.ensures c.in_ok-behind.ensures.rest_is)) refl c.in_ok-write_all.ensures) refl c.in_ok-behind.ensures.spilled) refl c.in_ok-write_all-2.ensures) refl c.in_ok-write_term.ensures.spilled) refl c.in_ok-write_all-3.ensures) _ refl c.in_err-write_term-2.ensures)

pub returns-in_err-put : goal.returns-in_err-put
returns-in_err-put c =
    lost _ c.from_residual-in_err-put.ensures (ahead_passed (ahead_more (ahead_more (ahead_more (ahead_more (ahead_more (ahead_more (ahead_all (send_bytes c.args.names.now c.args.fuel c.args.code.now c.skip_term-to.ensures c.skip_term-what.ensures c.in_ok-behind.ensures.rest_is)) refl c.in_ok-write_all.ensures) refl c.in_ok-behind.ensures.spilled) refl c.in_ok-write_all-2.ensures) refl c.in_ok-write_term.ensures.spilled) refl c.in_ok-write_all-3.ensures) refl c.in_ok-write_term-2.ensures.spilled) _ refl c.in_err-put.ensures)

pub returns : goal.returns
returns c =
    ahead_more (ahead_more (ahead_more (ahead_more (ahead_more (ahead_more (ahead_more (ahead_all (send_bytes c.args.names.now c.args.fuel c.args.code.now c.skip_term-to.ensures c.skip_term-what.ensures c.in_ok-behind.ensures.rest_is)) refl c.in_ok-write_all.ensures) refl c.in_ok-behind.ensures.spilled) refl c.in_ok-write_all-2.ensures) refl c.in_ok-write_term.ensures.spilled) refl c.in_ok-write_all-3.ensures) refl c.in_ok-write_term-2.ensures.spilled) refl c.in_ok-put.ensures
