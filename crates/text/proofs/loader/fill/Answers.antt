use Rattle.std.proofs.Common.{rules, ◌∙◌}
use Rattle.text.specs.Slices.{slices}
use Rattle.text.proofs.Fills.{fills, same_slices}
use Rattle.text.proofs.loader.fill.Goals as goal

pub returns-clause-is : goal.returns-clause-is
returns-clause-is c =
    let l = c.args.lent.now in
    λ t i k lk lt ln r.
    ◌∙◌ {b = slices c.fill_kinds-things.new.code c.fill_kinds-things.new.kinds c.fill_kinds-things.new.names c.fill_things-notes.new.processes c.fill_things-notes.new.vars c.fill_notes.new.messages}
    (same_slices (search rules) (search rules) (search rules) (search rules) (search rules) (search rules))
    (fills c.args.bytes.now c.args.amounts.kinds c.args.amounts.things c.args.amounts.notes l.code.now l.kinds.now l.names.now l.processes.now
    l.vars.now l.messages.now c.fill_kinds-things.new.code c.fill_kinds-things.new.kinds c.fill_kinds-things.new.names c.fill_things-notes.new.processes
    c.fill_things-notes.new.vars c.fill_notes.new.messages c.fill_kinds-things.result.now c.fill_things-notes.result.now
    c.fill_kinds-things.ensures c.fill_things-notes.ensures c.fill_notes.ensures t i k lk lt ln r)
