use Rattle.std.proofs.Common.{drop}
use Rattle.text.specs.Written.{Ahead, notes_bytes}
use Rattle.text.proofs.writer.Out.write_notes.Given as goal

abbrev pub invariant-loop-m : goal.invariant-loop-m
invariant-loop-m l = Ahead (notes_bytes l.messages) (notes_bytes (drop l.m-index l.messages)) l.initial.self l.self
