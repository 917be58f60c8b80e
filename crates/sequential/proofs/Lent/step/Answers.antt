use Rattle.std.proofs.Common.{rules, ◌≡◌, ◌-◌, ◌≤◌, length, take, drop, Some, refl, ap, ◌∙◌, arith}
use Rattle.std.proofs.lemmas.List.{length-take, length-drop}
use Rattle.sequential.specs.Memory.{state_of, model_of, memory_in}
use Rattle.sequential.proofs.Steps.{stops_none, stops_late, stops_answer, from_answer, stepped}
use Rattle.sequential.proofs.Lent.step.Goals as goal

pub returns-in_default-clause-answers : goal.returns-in_default-clause-answers
returns-in_default-clause-answers c ns =
    stops_none (model_of c.args.program.code.now c.args.program.kinds.now c.args.self.now.processes.now ns) c.args.end (length c.args.self.now.row.now) (length c.args.self.now.lines.now)
    (state_of (memory_in c.args.self.now)) (c.in_default.ensures.none_waits c.requires.in_row)

pub returns-then-m-from-clause-answers : goal.returns-then-m-from-clause-answers
returns-then-m-from-clause-answers c ns =
    stops_late (model_of c.args.program.code.now c.args.program.kinds.now c.args.self.now.processes.now ns) c.args.end (length c.args.self.now.row.now) (length c.args.self.now.lines.now)
    (state_of (memory_in c.args.self.now)) c.in-Some.m _ c.in-Some.ensures.was_first (omega (arith, c.from.ensures, c.if-m-from.true))

pub returns-in-Ok-clause-answers : goal.returns-in-Ok-clause-answers
returns-in-Ok-clause-answers c ns =
    let t = c.in-Some.ensures in
    let lw : c.in-Some.waiting ≤ length c.args.self.now.row.now = omega (arith, t.one_fewer, c.requires.in_row) in
    let lS : length (take (length c.args.self.now.row.now - c.in-Some.waiting) c.args.sends.now) ≡ length c.args.self.now.row.now - c.in-Some.waiting =
    omega (arith, length-take (length c.args.self.now.row.now - c.in-Some.waiting) c.args.sends.now, c.requires.scratch) in
    let lL : length (take (length c.args.self.now.lines.now - c.args.self.now.progress.now.said) (drop c.args.self.now.progress.now.said c.args.self.now.lines.now)) ≡ length c.args.self.now.lines.now - c.args.self.now.progress.now.said =
    omega (arith, length-take (length c.args.self.now.lines.now - c.args.self.now.progress.now.said) (drop c.args.self.now.progress.now.said c.args.self.now.lines.now), length-drop c.args.self.now.progress.now.said c.args.self.now.lines.now) in
    ap (from_answer c.args.self.now.progress.now.said) c.in-Ok.ensures.answers
    ∙ stops_answer c.args.program.code.now c.args.program.kinds.now c.args.end (memory_in c.args.self.now) ns c.in-Some.m c.in-Some.waiting _ _ lS lL t.was_first lw (omega (arith, c.from.ensures, c.if-m-from.false)) c.requires.in_lines

pub returns-in-Ok-clause-holds : goal.returns-in-Ok-clause-holds
returns-in-Ok-clause-holds c =
    let t = c.in-Some.ensures in
    let lw : c.in-Some.waiting ≤ length c.args.self.now.row.now = omega (arith, t.one_fewer, c.requires.in_row) in
    let lS : length (take (length c.args.self.now.row.now - c.in-Some.waiting) c.args.sends.now) ≡ length c.args.self.now.row.now - c.in-Some.waiting =
    omega (arith, length-take (length c.args.self.now.row.now - c.in-Some.waiting) c.args.sends.now, c.requires.scratch) in
    let lL : length (take (length c.args.self.now.lines.now - c.args.self.now.progress.now.said) (drop c.args.self.now.progress.now.said c.args.self.now.lines.now)) ≡ length c.args.self.now.lines.now - c.args.self.now.progress.now.said =
    omega (arith, length-take (length c.args.self.now.lines.now - c.args.self.now.progress.now.said) (drop c.args.self.now.progress.now.said c.args.self.now.lines.now), length-drop c.args.self.now.progress.now.said c.args.self.now.lines.now) in
    stepped c.args.program.code.now c.args.program.kinds.now c.args.end (length c.args.sends.now) (memory_in c.args.self.now) c.in-Some.m c.in-Some.waiting
    c.handle_in.new.processes c.handle_in.new.vars (take (length c.args.self.now.row.now - c.in-Some.waiting) c.args.sends.now) c.handle_in.new.sends (take (length c.args.self.now.lines.now - c.args.self.now.progress.now.said) (drop c.args.self.now.progress.now.said c.args.self.now.lines.now)) c.handle_in.new.lines c.in-Ok.counts _ c.insert_all.new.row c.insert_all.new.len _ _ c.insert_all.result
    c.requires t.was_first lw (omega (arith, c.from.ensures, c.if-m-from.false)) lS lL c.in-Ok.ensures.answers c.in-Ok.ensures.holds (drop (length c.args.self.now.row.now - c.in-Some.waiting) c.args.sends.now) refl c.insert_all.ensures
    c.handle_in.auto.processes c.handle_in.auto.vars c.insert_all.auto.row c.handle_in.auto.lines

pub returns-in-Err-clause-answers : goal.returns-in-Err-clause-answers
returns-in-Err-clause-answers c ns =
    let t = c.in-Some.ensures in
    let said = c.args.self.now.progress.now.said in
    let lw : c.in-Some.waiting ≤ length c.args.self.now.row.now = omega (arith, t.one_fewer, c.requires.in_row) in
    let lS : length (take (length c.args.self.now.row.now - c.in-Some.waiting) c.args.sends.now) ≡ length c.args.self.now.row.now - c.in-Some.waiting =
    omega (arith, length-take (length c.args.self.now.row.now - c.in-Some.waiting) c.args.sends.now, c.requires.scratch) in
    let lL : length (take (length c.args.self.now.lines.now - c.args.self.now.progress.now.said) (drop c.args.self.now.progress.now.said c.args.self.now.lines.now)) ≡ length c.args.self.now.lines.now - c.args.self.now.progress.now.said =
    omega (arith, length-take (length c.args.self.now.lines.now - c.args.self.now.progress.now.said) (drop c.args.self.now.progress.now.said c.args.self.now.lines.now), length-drop c.args.self.now.progress.now.said c.args.self.now.lines.now) in
    ap Some c.outcome_of.ensures
    ∙ ap (from_answer said) c.in-Err.ensures.answers
    ∙ stops_answer c.args.program.code.now c.args.program.kinds.now c.args.end (memory_in c.args.self.now) ns c.in-Some.m c.in-Some.waiting _ _ lS lL t.was_first lw (omega (arith, c.from.ensures, c.if-m-from.false)) c.requires.in_lines

pub returns-in-Ok-clause-same : goal.returns-in-Ok-clause-same
returns-in-Ok-clause-same c =
    record {
      processes = refl;
      vars = refl;
      row = refl;
      lines = refl;
      progress = refl;
      process_places = c.handle_in.auto.processes;
      var_places = c.handle_in.auto.vars;
      row_places = c.insert_all.auto.row;
      line_places = search rules;
    }
