use Rattle.std.proofs.Common.{◌≡◌, ◌-◌, ◌<◌, ◌≤◌, length, subst, arith, rules}
use Rattle.body.specs.Code.{body_of}
use Rattle.body.specs.Play.{room, room_in, plays, top, does}
use Rattle.body.proofs.Events.{does_sent, refuses_count, kept, lent_by}
use Rattle.body.proofs.handle.Goals as goal

pub returns-then-need-process-clause-answers : goal.returns-then-need-process-clause-answers
returns-then-need-process-clause-answers c =
    refuses_count (does c.args.code.now c.args.processes c.args.process.now c.args.vars.now c.args.m) c.args.process.now.sent
    (length c.args.sends.now) (length c.args.lines.now) (does_sent _ _ _ _) (omega arith) (omega arith)
    (subst (λ t. t.sends ≤ length c.args.sends.now) c.measure-need.ensures c.if-need-sends.false)
    (subst (λ t. t.lines ≤ length c.args.lines.now) c.measure-need.ensures c.if-need-lines.false)
    (omega arith)
    (subst (λ t. top - c.args.process.now.sent < t.sends) c.measure-need.ensures c.if-need-process.true)

pub overflow_add-process : goal.overflow_add-process
overflow_add-process c =
    let k =
    kept (record { it = c.args.m.number; me = c.args.m.to; clock = c.args.m.time; processes = c.args.processes; sent = c.args.process.now.sent })
    c.args.code.now c.args.process.now.seed c.args.vars.now c.args.sends.now c.args.lines.now
    (room_in c.play.new.self) c.measure-need.result
    (omega arith) (omega arith) (omega arith) c.measure-need.ensures c.if-need-sends.false c.if-need-lines.false c.if-need-process.false
    (subst (λ t. room_in c.play.new.self ≡ plays (record { it = c.args.m.number; me = c.args.m.to; clock = c.args.m.time; processes = c.args.processes; sent = c.args.process.now.sent })
    (body_of (length c.args.code.now) c.args.code.now) (room c.args.vars.now t c.args.sends.now c.args.lines.now)) c.new.ensures c.play.ensures.plays) in
    omega (arith, k.sent)

pub returns-clause-answers : goal.returns-clause-answers
returns-clause-answers c =
    let k =
    kept (record { it = c.args.m.number; me = c.args.m.to; clock = c.args.m.time; processes = c.args.processes; sent = c.args.process.now.sent })
    c.args.code.now c.args.process.now.seed c.args.vars.now c.args.sends.now c.args.lines.now
    (room_in c.play.new.self) c.measure-need.result
    (omega arith) (omega arith) (omega arith) c.measure-need.ensures c.if-need-sends.false c.if-need-lines.false c.if-need-process.false
    (subst (λ t. room_in c.play.new.self ≡ plays (record { it = c.args.m.number; me = c.args.m.to; clock = c.args.m.time; processes = c.args.processes; sent = c.args.process.now.sent })
    (body_of (length c.args.code.now) c.args.code.now) (room c.args.vars.now t c.args.sends.now c.args.lines.now)) c.new.ensures c.play.ensures.plays) in
    k.answer_is

pub returns-clause-holds : goal.returns-clause-holds
returns-clause-holds c =
    let k =
    kept (record { it = c.args.m.number; me = c.args.m.to; clock = c.args.m.time; processes = c.args.processes; sent = c.args.process.now.sent })
    c.args.code.now c.args.process.now.seed c.args.vars.now c.args.sends.now c.args.lines.now
    (room_in c.play.new.self) c.measure-need.result
    (omega arith) (omega arith) (omega arith) c.measure-need.ensures c.if-need-sends.false c.if-need-lines.false c.if-need-process.false
    (subst (λ t. room_in c.play.new.self ≡ plays (record { it = c.args.m.number; me = c.args.m.to; clock = c.args.m.time; processes = c.args.processes; sent = c.args.process.now.sent })
    (body_of (length c.args.code.now) c.args.code.now) (room c.args.vars.now t c.args.sends.now c.args.lines.now)) c.new.ensures c.play.ensures.plays) in
    lent_by _ _ _ c.play.new.self.vars.now _ _ c.play.new.self.sends.now _ _ c.play.new.self.lines.now _
    (λ i. record { kind = c.args.process.now.kind; width = c.args.process.now.width; seed = k.held.seed i; sent = k.count i })
    (search rules) k.held.vars (search rules) k.held.sends (search rules) k.held.lines
