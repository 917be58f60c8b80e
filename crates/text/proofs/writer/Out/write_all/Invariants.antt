use Rattle.std.proofs.Common.{drop}
use Rattle.text.specs.Written.{Ahead}
use Rattle.text.proofs.writer.Out.write_all.Given as goal

abbrev pub invariant-loop-b : goal.invariant-loop-b
invariant-loop-b l = Ahead l.bytes (drop l.b-index l.bytes) l.initial.self l.self
