use Rattle.std.proofs.Common.{refl, ap, ◌∙◌}
use Rattle.body.specs.declared.LineOp.TheVariants.{Do}
use Rattle.text.specs.Written.{opened_bytes}
use Rattle.text.proofs.Lines.{assign_bytes, draw_bytes, say_bytes}
use Rattle.text.proofs.Spills.{lost, ahead_all, ahead_more, ahead_passed}
use Rattle.text.proofs.writer.Out.write_act.Goals as goal

pub returns-in_err-write_name-in-Assign : goal.returns-in_err-write_name-in-Assign
returns-in_err-write_name-in-Assign c =
    lost _ c.from_residual.ensures (ahead_passed (ahead_all (ap (λ a. opened_bytes c.args.names.now (Do a) c.args.fuel c.args.code.now) c.in-Assign.is ∙ assign_bytes c.args.names.now c.args.fuel c.args.code.now c.nth.ensures c.nth-in-Assign.ensures refl refl)) _ refl c.in_err-write_name-in-Assign.ensures)

pub returns-in_err-write_all-in-Assign : goal.returns-in_err-write_all-in-Assign
returns-in_err-write_all-in-Assign c =
    lost _ c.from_residual-in_err-write_all-in-Assign.ensures (ahead_passed (ahead_more (ahead_all (ap (λ a. opened_bytes c.args.names.now (Do a) c.args.fuel c.args.code.now) c.in-Assign.is ∙ assign_bytes c.args.names.now c.args.fuel c.args.code.now c.nth.ensures c.nth-in-Assign.ensures refl refl)) refl c.in_ok-write_name-in-Assign.ensures) _ refl c.in_err-write_all-in-Assign.ensures)

pub returns-in_err-behind-in-Assign : goal.returns-in_err-behind-in-Assign
returns-in_err-behind-in-Assign c =
    lost _ c.from_residual-in_err-behind-in-Assign.ensures (ahead_passed (ahead_more (ahead_more (ahead_all (ap (λ a. opened_bytes c.args.names.now (Do a) c.args.fuel c.args.code.now) c.in-Assign.is ∙ assign_bytes c.args.names.now c.args.fuel c.args.code.now c.nth.ensures c.nth-in-Assign.ensures c.skip.ensures refl)) refl c.in_ok-write_name-in-Assign.ensures) refl c.in_ok-write_all-in-Assign.ensures) _ refl c.in_err-behind-in-Assign.ensures)

pub returns-in_err-put-in-Assign : goal.returns-in_err-put-in-Assign
returns-in_err-put-in-Assign c =
    lost _ c.from_residual-in_err-put-in-Assign.ensures (ahead_passed (ahead_more (ahead_more (ahead_more (ahead_all (ap (λ a. opened_bytes c.args.names.now (Do a) c.args.fuel c.args.code.now) c.in-Assign.is ∙ assign_bytes c.args.names.now c.args.fuel c.args.code.now c.nth.ensures c.nth-in-Assign.ensures c.skip.ensures c.in_ok-behind-in-Assign.ensures.rest_is)) refl c.in_ok-write_name-in-Assign.ensures) refl c.in_ok-write_all-in-Assign.ensures) refl c.in_ok-behind-in-Assign.ensures.spilled) _ refl c.in_err-put-in-Assign.ensures)

pub returns-in_ok-put-in-Assign : goal.returns-in_ok-put-in-Assign
returns-in_ok-put-in-Assign c =
    ahead_more (ahead_more (ahead_more (ahead_more (ahead_all (ap (λ a. opened_bytes c.args.names.now (Do a) c.args.fuel c.args.code.now) c.in-Assign.is ∙ assign_bytes c.args.names.now c.args.fuel c.args.code.now c.nth.ensures c.nth-in-Assign.ensures c.skip.ensures c.in_ok-behind-in-Assign.ensures.rest_is)) refl c.in_ok-write_name-in-Assign.ensures) refl c.in_ok-write_all-in-Assign.ensures) refl c.in_ok-behind-in-Assign.ensures.spilled) refl c.in_ok-put-in-Assign.ensures

pub returns-in_err-write_name-in-Draw : goal.returns-in_err-write_name-in-Draw
returns-in_err-write_name-in-Draw c =
    lost _ c.from_residual-in_err-write_name-in-Draw.ensures (ahead_passed (ahead_all (ap (λ a. opened_bytes c.args.names.now (Do a) c.args.fuel c.args.code.now) c.in-Draw.is ∙ draw_bytes c.args.names.now c.args.fuel c.args.code.now c.nth-in-Draw.ensures c.nth-in-Draw-2.ensures refl refl)) _ refl c.in_err-write_name-in-Draw.ensures)

pub returns-in_err-write_all-in-Draw : goal.returns-in_err-write_all-in-Draw
returns-in_err-write_all-in-Draw c =
    lost _ c.from_residual-in_err-write_all-in-Draw.ensures (ahead_passed (ahead_more (ahead_all (ap (λ a. opened_bytes c.args.names.now (Do a) c.args.fuel c.args.code.now) c.in-Draw.is ∙ draw_bytes c.args.names.now c.args.fuel c.args.code.now c.nth-in-Draw.ensures c.nth-in-Draw-2.ensures refl refl)) refl c.in_ok-write_name-in-Draw.ensures) _ refl c.in_err-write_all-in-Draw.ensures)

pub returns-in_err-behind-in-Draw : goal.returns-in_err-behind-in-Draw
returns-in_err-behind-in-Draw c =
    lost _ c.from_residual-in_err-behind-in-Draw.ensures (ahead_passed (ahead_more (ahead_more (ahead_all (ap (λ a. opened_bytes c.args.names.now (Do a) c.args.fuel c.args.code.now) c.in-Draw.is ∙ draw_bytes c.args.names.now c.args.fuel c.args.code.now c.nth-in-Draw.ensures c.nth-in-Draw-2.ensures c.skip-in-Draw.ensures refl)) refl c.in_ok-write_name-in-Draw.ensures) refl c.in_ok-write_all-in-Draw.ensures) _ refl c.in_err-behind-in-Draw.ensures)

pub returns-in_err-put-in-Draw : goal.returns-in_err-put-in-Draw
returns-in_err-put-in-Draw c =
    lost _ c.from_residual-in_err-put-in-Draw.ensures (ahead_passed (ahead_more (ahead_more (ahead_more (ahead_all (ap (λ a. opened_bytes c.args.names.now (Do a) c.args.fuel c.args.code.now) c.in-Draw.is ∙ draw_bytes c.args.names.now c.args.fuel c.args.code.now c.nth-in-Draw.ensures c.nth-in-Draw-2.ensures c.skip-in-Draw.ensures c.in_ok-behind-in-Draw.ensures.rest_is)) refl c.in_ok-write_name-in-Draw.ensures) refl c.in_ok-write_all-in-Draw.ensures) refl c.in_ok-behind-in-Draw.ensures.spilled) _ refl c.in_err-put-in-Draw.ensures)

pub returns-in_ok-put-in-Draw : goal.returns-in_ok-put-in-Draw
returns-in_ok-put-in-Draw c =
    ahead_more (ahead_more (ahead_more (ahead_more (ahead_all (ap (λ a. opened_bytes c.args.names.now (Do a) c.args.fuel c.args.code.now) c.in-Draw.is ∙ draw_bytes c.args.names.now c.args.fuel c.args.code.now c.nth-in-Draw.ensures c.nth-in-Draw-2.ensures c.skip-in-Draw.ensures c.in_ok-behind-in-Draw.ensures.rest_is)) refl c.in_ok-write_name-in-Draw.ensures) refl c.in_ok-write_all-in-Draw.ensures) refl c.in_ok-behind-in-Draw.ensures.spilled) refl c.in_ok-put-in-Draw.ensures

pub returns-in_err-write_all-in-Say : goal.returns-in_err-write_all-in-Say
returns-in_err-write_all-in-Say c =
    lost _ c.from_residual-in_err-write_all-in-Say.ensures (ahead_passed (ahead_all (ap (λ a. opened_bytes c.args.names.now (Do a) c.args.fuel c.args.code.now) c.in-Say.is ∙ say_bytes c.args.names.now c.args.fuel c.args.code.now refl)) _ refl c.in_err-write_all-in-Say.ensures)

pub returns-in_err-behind-in-Say : goal.returns-in_err-behind-in-Say
returns-in_err-behind-in-Say c =
    lost _ c.from_residual-in_err-behind-in-Say.ensures (ahead_passed (ahead_more (ahead_all (ap (λ a. opened_bytes c.args.names.now (Do a) c.args.fuel c.args.code.now) c.in-Say.is ∙ say_bytes c.args.names.now c.args.fuel c.args.code.now refl)) refl c.in_ok-write_all-in-Say.ensures) _ refl c.in_err-behind-in-Say.ensures)

pub returns-in_err-put-in-Say : goal.returns-in_err-put-in-Say
returns-in_err-put-in-Say c =
    lost _ c.from_residual-in_err-put-in-Say.ensures (ahead_passed (ahead_more (ahead_more (ahead_all (ap (λ a. opened_bytes c.args.names.now (Do a) c.args.fuel c.args.code.now) c.in-Say.is ∙ say_bytes c.args.names.now c.args.fuel c.args.code.now c.in_ok-behind-in-Say.ensures.rest_is)) refl c.in_ok-write_all-in-Say.ensures) refl c.in_ok-behind-in-Say.ensures.spilled) _ refl c.in_err-put-in-Say.ensures)

pub returns-in_ok-put-in-Say : goal.returns-in_ok-put-in-Say
returns-in_ok-put-in-Say c =
    ahead_more (ahead_more (ahead_more (ahead_all (ap (λ a. opened_bytes c.args.names.now (Do a) c.args.fuel c.args.code.now) c.in-Say.is ∙ say_bytes c.args.names.now c.args.fuel c.args.code.now c.in_ok-behind-in-Say.ensures.rest_is)) refl c.in_ok-write_all-in-Say.ensures) refl c.in_ok-behind-in-Say.ensures.spilled) refl c.in_ok-put-in-Say.ensures
