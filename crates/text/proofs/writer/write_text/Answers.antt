use Rattle.std.proofs.Common.{sym, refl, ◌∙◌, append-nil, rules}
use Rattle.grammar.specs.Syntax.{show}
use Rattle.text.specs.Written.{Spilled, text_bytes}
use Rattle.text.proofs.Texts.{things_are}
use Rattle.text.proofs.Spills.{told, passed_told, ahead_all, ahead_more, ahead_passed, ahead_then_passed, ahead_done, text_lost, text_done}
use Rattle.text.proofs.writer.write_text.Goals as goal

pub returns-in_err-write_kinds : goal.returns-in_err-write_kinds
unfolding show
returns-in_err-write_kinds c =
    text_lost _ c.from_residual.ensures refl (ahead_passed (ahead_all refl) _ refl c.in_err-write_kinds.ensures)

pub returns-in_err-write_things : goal.returns-in_err-write_things
unfolding show
returns-in_err-write_things c =
    text_lost _ c.from_residual-in_err-write_things.ensures refl (ahead_passed (ahead_more (ahead_all refl) refl c.in_ok-write_kinds.ensures) _ refl (passed_told (things_are c.args.model.code.now c.args.model.kinds.now c.args.model.names.now c.args.model.processes.now c.args.model.vars.now) c.in_err-write_things.ensures))

pub returns-in_err-write_notes : goal.returns-in_err-write_notes
unfolding show
returns-in_err-write_notes c =
    text_lost _ c.from_residual-in_err-write_notes.ensures refl (ahead_then_passed (ahead_more (ahead_more (ahead_all refl) refl c.in_ok-write_kinds.ensures) refl (told (things_are c.args.model.code.now c.args.model.kinds.now c.args.model.names.now c.args.model.processes.now c.args.model.vars.now) c.in_ok-write_things.ensures)) c.in_err-write_notes.ensures)

pub returns : goal.returns
unfolding show
returns c =
    let w : Spilled (text_bytes c.args.model.code.now c.args.model.kinds.now c.args.model.names.now c.args.model.processes.now c.args.model.vars.now c.args.model.messages.now) _ c.write_notes.new.self =
    ahead_done (ahead_more (ahead_more (ahead_more (ahead_all refl) refl c.in_ok-write_kinds.ensures) refl (told (things_are c.args.model.code.now c.args.model.kinds.now c.args.model.names.now c.args.model.processes.now c.args.model.vars.now) c.in_ok-write_things.ensures)) (sym (append-nil _)) c.in_ok-write_notes.ensures) refl in
    let d = text_done refl w in
    (d.0, d.1, ◌∙◌ {b = c.write_notes.new.self.bytes.now} (search rules) d.2)
