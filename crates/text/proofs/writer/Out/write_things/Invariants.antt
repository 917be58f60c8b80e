use Rattle.std.proofs.Common.{drop}
use Rattle.text.specs.Written.{Ahead, things_bytes}
use Rattle.text.proofs.writer.Out.write_things.Given as goal

abbrev pub invariant-loop-p : goal.invariant-loop-p
invariant-loop-p l =
    Ahead (things_bytes l.model.kinds.now l.model.names.now l.model.processes.now l.model.vars.now)
    (things_bytes l.model.kinds.now l.model.names.now (drop l.p-index l.model.processes.now) l.rows) l.initial.self l.self
