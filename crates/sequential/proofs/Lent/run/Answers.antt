use Rattle.std.proofs.Common.{length, sym, subst}
use Rattle.sequential.specs.Memory.{memory_in, Stepped}
use Rattle.sequential.proofs.Runs.{shaped_facts, at_first, one_more, same_at_first, same_then}
use Rattle.sequential.proofs.Lent.run.Goals as goal

pub loop-steps-init : goal.loop-steps-init
loop-steps-init c = (
  same_at_first c.args.self.now,
  at_first c.args.program.code.now c.args.program.kinds.now c.args.end (length c.args.sends.now) (memory_in c.args.self.now)
      (shaped_facts (memory_in c.args.self.now) (length c.args.sends.now) (sym c.if-not-is_shaped.ensures)),
)

pub loop-steps-preserved : goal.loop-steps-preserved
loop-steps-preserved c =
    let s = c.loop-steps.invariant.0 in
    let t = c.step.ensures.same in (
      same_then s t,
      one_more c.args.program.code.now c.args.program.kinds.now c.args.end (length c.args.sends.now) (memory_in c.args.self.now) (memory_in c.loop-steps.self) c.loop-steps.steps c.loop-steps.invariant.1 (memory_in c.step.new.self)
          (subst (λ n. Stepped c.args.program.code.now c.args.program.kinds.now c.args.end n (memory_in c.loop-steps.self) (memory_in c.step.new.self)) c.loop-steps.auto.sends c.in_default.ensures.holds)
          c.in_default.ensures.answers t.row_places t.line_places,
    )
