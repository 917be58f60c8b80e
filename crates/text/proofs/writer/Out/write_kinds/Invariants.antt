use Rattle.std.proofs.Common.{drop}
use Rattle.text.specs.Written.{Ahead, kinds_bytes}
use Rattle.text.proofs.writer.Out.write_kinds.Given as goal

abbrev pub invariant-loop-start : goal.invariant-loop-start
invariant-loop-start l =
    Ahead (kinds_bytes l.model.code.now l.model.kinds.now l.model.names.now)
    (kinds_bytes l.model.code.now (drop l.start-index l.model.kinds.now) l.rows) l.initial.self l.self
