use Rattle.std.proofs.Common.{refl, inl, inr, arith}
use Rattle.body.specs.declared.LineOp.TheVariants.{Do, Branch, Repeat}
use Rattle.text.proofs.Lines.{branch_bytes, repeat_bytes, no_lines, no_body, is_stop, opened_are}
use Rattle.text.proofs.Spills.{lost, ahead_all, ahead_more, ahead_told, ahead_then, ahead_passed, ahead_then_passed, ahead_done}
use Rattle.text.proofs.writer.Out.+lines.Goals as goal

pub write_branch-returns-in_err-write_all : goal.write_branch-returns-in_err-write_all
write_branch-returns-in_err-write_all t c =
    lost _ c.from_residual.ensures (ahead_passed (ahead_all (branch_bytes c.args.names.now c.args.fuel c.args.code.now refl refl refl refl refl refl)) _ refl c.in_err-write_all.ensures)

pub write_branch-returns-in_err-then : goal.write_branch-returns-in_err-then
write_branch-returns-in_err-then t c =
    lost _ c.from_residual-in_err-then.ensures (ahead_passed (ahead_more (ahead_all (branch_bytes c.args.names.now c.args.fuel c.args.code.now c.skip.ensures refl refl refl refl refl)) refl c.in_ok-write_all.ensures) _ refl c.in_err-then.ensures)

pub write_branch-returns-in_err-put : goal.write_branch-returns-in_err-put
write_branch-returns-in_err-put t c =
    lost _ c.from_residual-in_err-put.ensures (ahead_passed (ahead_more (ahead_more (ahead_all (branch_bytes c.args.names.now c.args.fuel c.args.code.now c.skip.ensures c.in_ok-then.ensures.rest_is refl refl refl refl)) refl c.in_ok-write_all.ensures) refl c.in_ok-then.ensures.spilled) _ refl c.in_err-put.ensures)

pub write_branch-returns-in_err-write_lines : goal.write_branch-returns-in_err-write_lines
write_branch-returns-in_err-write_lines t c =
    lost _ c.from_residual-in_err-write_lines.ensures (ahead_passed (ahead_more (ahead_more (ahead_more (ahead_all (branch_bytes c.args.names.now c.args.fuel c.args.code.now c.skip.ensures c.in_ok-then.ensures.rest_is refl refl refl refl)) refl c.in_ok-write_all.ensures) refl c.in_ok-then.ensures.spilled) refl c.in_ok-put.ensures) _ refl c.in_err-write_lines.ensures)

pub write_branch-returns-in_err-write_else : goal.write_branch-returns-in_err-write_else
write_branch-returns-in_err-write_else t c =
    lost _ c.from_residual-in_err-write_else.ensures (ahead_passed (ahead_more (ahead_more (ahead_more (ahead_more (ahead_all (branch_bytes c.args.names.now c.args.fuel c.args.code.now c.skip.ensures c.in_ok-then.ensures.rest_is c.nth.ensures c.skip-otherwise.ensures refl refl)) refl c.in_ok-write_all.ensures) refl c.in_ok-then.ensures.spilled) refl c.in_ok-put.ensures) refl c.in_ok-write_lines.ensures) _ refl c.in_err-write_else.ensures)

pub write_branch-returns-in_err-write_lines-2 : goal.write_branch-returns-in_err-write_lines-2
write_branch-returns-in_err-write_lines-2 t c =
    lost _ c.from_residual-in_err-write_lines-2.ensures (ahead_passed (ahead_more (ahead_more (ahead_more (ahead_more (ahead_more (ahead_all (branch_bytes c.args.names.now c.args.fuel c.args.code.now c.skip.ensures c.in_ok-then.ensures.rest_is c.nth.ensures c.skip-otherwise.ensures refl refl)) refl c.in_ok-write_all.ensures) refl c.in_ok-then.ensures.spilled) refl c.in_ok-put.ensures) refl c.in_ok-write_lines.ensures) refl c.in_ok-write_else.ensures) _ refl c.in_err-write_lines-2.ensures)

pub write_branch-returns-in_err-write_all-2 : goal.write_branch-returns-in_err-write_all-2
write_branch-returns-in_err-write_all-2 t c =
    lost _ c.from_residual-in_err-write_all-2.ensures (ahead_passed (ahead_more (ahead_more (ahead_more (ahead_more (ahead_more (ahead_more (ahead_all (branch_bytes c.args.names.now c.args.fuel c.args.code.now c.skip.ensures c.in_ok-then.ensures.rest_is c.nth.ensures c.skip-otherwise.ensures refl refl)) refl c.in_ok-write_all.ensures) refl c.in_ok-then.ensures.spilled) refl c.in_ok-put.ensures) refl c.in_ok-write_lines.ensures) refl c.in_ok-write_else.ensures) refl c.in_ok-write_lines-2.ensures) _ refl c.in_err-write_all-2.ensures)

pub write_branch-returns : goal.write_branch-returns
write_branch-returns t c =
    ahead_more (ahead_more (ahead_more (ahead_more (ahead_more (ahead_more (ahead_more (ahead_all (branch_bytes c.args.names.now c.args.fuel c.args.code.now c.skip.ensures c.in_ok-then.ensures.rest_is c.nth.ensures c.skip-otherwise.ensures c.nth-2.ensures c.skip-2.ensures)) refl c.in_ok-write_all.ensures) refl c.in_ok-then.ensures.spilled) refl c.in_ok-put.ensures) refl c.in_ok-write_lines.ensures) refl c.in_ok-write_else.ensures) refl c.in_ok-write_lines-2.ensures) refl c.in_ok-write_all-2.ensures

pub write_repeat-returns-in_err-write_all : goal.write_repeat-returns-in_err-write_all
write_repeat-returns-in_err-write_all t c =
    lost _ c.from_residual.ensures (ahead_passed (ahead_all (repeat_bytes c.args.names.now c.args.fuel c.args.code.now refl refl refl refl)) _ refl c.in_err-write_all.ensures)

pub write_repeat-returns-in_err-body : goal.write_repeat-returns-in_err-body
write_repeat-returns-in_err-body t c =
    lost _ c.from_residual-in_err-body.ensures (ahead_passed (ahead_more (ahead_all (repeat_bytes c.args.names.now c.args.fuel c.args.code.now c.skip.ensures refl refl refl)) refl c.in_ok-write_all.ensures) _ refl c.in_err-body.ensures)

pub write_repeat-returns-in_err-put : goal.write_repeat-returns-in_err-put
write_repeat-returns-in_err-put t c =
    lost _ c.from_residual-in_err-put.ensures (ahead_passed (ahead_more (ahead_more (ahead_all (repeat_bytes c.args.names.now c.args.fuel c.args.code.now c.skip.ensures c.in_ok-body.ensures.rest_is refl refl)) refl c.in_ok-write_all.ensures) refl c.in_ok-body.ensures.spilled) _ refl c.in_err-put.ensures)

pub write_repeat-returns-in_err-write_lines : goal.write_repeat-returns-in_err-write_lines
write_repeat-returns-in_err-write_lines t c =
    lost _ c.from_residual-in_err-write_lines.ensures (ahead_passed (ahead_more (ahead_more (ahead_more (ahead_all (repeat_bytes c.args.names.now c.args.fuel c.args.code.now c.skip.ensures c.in_ok-body.ensures.rest_is refl refl)) refl c.in_ok-write_all.ensures) refl c.in_ok-body.ensures.spilled) refl c.in_ok-put.ensures) _ refl c.in_err-write_lines.ensures)

pub write_repeat-returns-in_err-write_all-2 : goal.write_repeat-returns-in_err-write_all-2
write_repeat-returns-in_err-write_all-2 t c =
    lost _ c.from_residual-in_err-write_all-2.ensures (ahead_passed (ahead_more (ahead_more (ahead_more (ahead_more (ahead_all (repeat_bytes c.args.names.now c.args.fuel c.args.code.now c.skip.ensures c.in_ok-body.ensures.rest_is refl refl)) refl c.in_ok-write_all.ensures) refl c.in_ok-body.ensures.spilled) refl c.in_ok-put.ensures) refl c.in_ok-write_lines.ensures) _ refl c.in_err-write_all-2.ensures)

pub write_repeat-returns : goal.write_repeat-returns
write_repeat-returns t c =
    ahead_more (ahead_more (ahead_more (ahead_more (ahead_more (ahead_all (repeat_bytes c.args.names.now c.args.fuel c.args.code.now c.skip.ensures c.in_ok-body.ensures.rest_is c.nth.ensures c.skip-2.ensures)) refl c.in_ok-write_all.ensures) refl c.in_ok-body.ensures.spilled) refl c.in_ok-put.ensures) refl c.in_ok-write_lines.ensures) refl c.in_ok-write_all-2.ensures

pub write_lines-loop-left-init : goal.write_lines-loop-left-init
write_lines-loop-left-init t c =
    (ahead_all refl, omega arith)

pub write_lines-returns-in_default : goal.write_lines-returns-in_default
write_lines-returns-in_default t c =
    ahead_done c.loop-left.invariant.0 (no_lines c.args.names.now _ (no_body c.loop-left.left c.loop-left.code.now (inr c.in_default.ensures.cases)))

pub write_lines-returns-in-Stop : goal.write_lines-returns-in-Stop
write_lines-returns-in-Stop t c =
    ahead_done c.loop-left.invariant.0 (no_lines c.args.names.now _ (is_stop c.args.names.now c.loop-left.left c.loop-left.code.now c.in-Some.first.now c.in-Some.rest.now c.loop-left-test.true c.in-Some.ensures.cases.0 c.in-Stop.ensures))

pub write_lines-returns-in_err-code-in-Do : goal.write_lines-returns-in_err-code-in-Do
write_lines-returns-in_err-code-in-Do t c =
    lost _ c.from_residual.ensures (ahead_then_passed (ahead_told c.loop-left.invariant.0 (opened_are c.args.names.now c.loop-left.left c.loop-left.code.now c.in-Some.first.now c.in-Some.rest.now c.loop-left-test.true c.in-Some.ensures.cases.0 (Do c.in-Do.act) c.in-Do.ensures)) c.in_err-code-in-Do.ensures)

pub write_lines-loop-left-preserved-in_ok-code-in-Do : goal.write_lines-loop-left-preserved-in_ok-code-in-Do
write_lines-loop-left-preserved-in_ok-code-in-Do t c =
    (ahead_then (ahead_told c.loop-left.invariant.0 (opened_are c.args.names.now c.loop-left.left c.loop-left.code.now c.in-Some.first.now c.in-Some.rest.now c.loop-left-test.true c.in-Some.ensures.cases.0 (Do c.in-Do.act) c.in-Do.ensures)) c.in_ok-code-in-Do.ensures, omega (arith, c.loop-left.invariant.1))

pub write_lines-returns-in_err-code-in-Branch : goal.write_lines-returns-in_err-code-in-Branch
write_lines-returns-in_err-code-in-Branch t c =
    lost _ c.from_residual-in_err-code-in-Branch.ensures (ahead_then_passed (ahead_told c.loop-left.invariant.0 (opened_are c.args.names.now c.loop-left.left c.loop-left.code.now c.in-Some.first.now c.in-Some.rest.now c.loop-left-test.true c.in-Some.ensures.cases.0 Branch c.in-Branch.ensures)) c.in_err-code-in-Branch.ensures)

pub write_lines-loop-left-preserved-in_ok-code-in-Branch : goal.write_lines-loop-left-preserved-in_ok-code-in-Branch
write_lines-loop-left-preserved-in_ok-code-in-Branch t c =
    (ahead_then (ahead_told c.loop-left.invariant.0 (opened_are c.args.names.now c.loop-left.left c.loop-left.code.now c.in-Some.first.now c.in-Some.rest.now c.loop-left-test.true c.in-Some.ensures.cases.0 Branch c.in-Branch.ensures)) c.in_ok-code-in-Branch.ensures, omega (arith, c.loop-left.invariant.1))

pub write_lines-returns-in_err-code-in-Repeat : goal.write_lines-returns-in_err-code-in-Repeat
write_lines-returns-in_err-code-in-Repeat t c =
    lost _ c.from_residual-in_err-code-in-Repeat.ensures (ahead_then_passed (ahead_told c.loop-left.invariant.0 (opened_are c.args.names.now c.loop-left.left c.loop-left.code.now c.in-Some.first.now c.in-Some.rest.now c.loop-left-test.true c.in-Some.ensures.cases.0 Repeat c.in-Repeat.ensures)) c.in_err-code-in-Repeat.ensures)

pub write_lines-loop-left-preserved : goal.write_lines-loop-left-preserved
write_lines-loop-left-preserved t c =
    (ahead_then (ahead_told c.loop-left.invariant.0 (opened_are c.args.names.now c.loop-left.left c.loop-left.code.now c.in-Some.first.now c.in-Some.rest.now c.loop-left-test.true c.in-Some.ensures.cases.0 Repeat c.in-Repeat.ensures)) c.in_ok-code-in-Repeat.ensures, omega (arith, c.loop-left.invariant.1))

pub write_lines-returns : goal.write_lines-returns
write_lines-returns t c =
    ahead_done c.loop-left.invariant.0 (no_lines c.args.names.now _ (no_body c.loop-left.left c.loop-left.code.now (inl (omega arith))))
