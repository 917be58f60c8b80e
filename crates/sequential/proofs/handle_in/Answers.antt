use Rattle.std.proofs.Common.{rules, [], subst, ◌≡◌, ◌+◌, ◌-◌, ◌*◌, min, length, get_or, take, drop, refl, ◌∙◌, arith}
use Rattle.sequential.proofs.Stored.{answers_in, holds_in, nobody_answers, nobody_holds, absent}
use Rattle.body.specs.Play.{Lent, answer, does, lent_after}
use Rattle.sequential.proofs.handle_in.Goals as goal

pub returns : goal.returns
returns c =
    let width : c.args.m.to * 64 + c.width_of.result - c.args.m.to * 64 ≡ min (get_or c.args.processes.now c.args.m.to absent).width 64 =
    let e : c.args.m.to * 64 + c.width_of.result - c.args.m.to * 64 ≡ c.width_of.result = omega arith in e ∙ c.width_of.ensures in
    record {
      answers =
          answers_in c.args.program.code.now c.args.program.kinds.now c.args.processes.now c.args.vars.now c.args.m c.args.sends.now c.args.lines.now
          c.handle-done.new.process c.handle-done.new.vars (take (c.args.m.to * 64 + c.width_of.result - c.args.m.to * 64) (drop (c.args.m.to * 64) c.args.vars.now)) c.code_of-2.result.now
          (length c.args.processes.now) (c.args.m.to * 64 + c.width_of.result - c.args.m.to * 64) c.handle-done.result c.handle-done.new.sends c.handle-done.new.lines
          c.if-k-processes.false c.requires.wide width refl c.code_of-2.ensures refl c.handle-done.auto.vars c.handle-done.ensures.answers c.handle-done.ensures.holds;
      holds =
          holds_in c.args.program.code.now c.args.program.kinds.now c.args.processes.now c.args.vars.now c.args.m c.args.sends.now c.args.lines.now
          c.handle-done.new.process c.handle-done.new.vars (take (c.args.m.to * 64 + c.width_of.result - c.args.m.to * 64) (drop (c.args.m.to * 64) c.args.vars.now)) c.code_of-2.result.now
          (length c.args.processes.now) (c.args.m.to * 64 + c.width_of.result - c.args.m.to * 64) c.handle-done.result c.handle-done.new.sends c.handle-done.new.lines
          c.if-k-processes.false c.requires.wide width refl c.code_of-2.ensures refl c.handle-done.auto.vars c.handle-done.ensures.answers c.handle-done.ensures.holds;
    }

pub returns-then-k-processes : goal.returns-then-k-processes
returns-then-k-processes c =
    let is_absent : c.default-nobody.result ≡ absent = search rules in
    let answers =
    subst (λ p. c.handle.result ≡ answer (does c.code_of.result.now (length c.args.processes.now) p [] c.args.m) (length c.args.sends.now) (length c.args.lines.now)) is_absent
    c.handle.ensures.answers in
    let holds =
    subst (λ p. ◌≡◌ {A = Lent} (record { process = c.handle.new.process; vars = c.handle.new.vars; sends = c.handle.new.sends; lines = c.handle.new.lines })
    (lent_after c.handle.result (does c.code_of.result.now (length c.args.processes.now) p [] c.args.m) (record { process = p; vars = []; sends = c.args.sends.now; lines = c.args.lines.now }))) is_absent
    c.handle.ensures.holds in
    record {
      answers =
          nobody_answers c.args.program.code.now c.args.program.kinds.now c.args.processes.now c.args.vars.now c.args.m c.args.sends.now c.args.lines.now
          c.handle.new.process c.handle.new.vars c.code_of.result.now (length c.args.processes.now) c.handle.result c.handle.new.sends c.handle.new.lines
          c.if-k-processes.true c.code_of.ensures refl answers holds;
      holds =
          nobody_holds c.args.program.code.now c.args.program.kinds.now c.args.processes.now c.args.vars.now c.args.m c.args.sends.now c.args.lines.now
          c.handle.new.process c.handle.new.vars c.code_of.result.now (length c.args.processes.now) c.handle.result c.handle.new.sends c.handle.new.lines
          c.if-k-processes.true c.code_of.ensures refl answers holds;
    }
