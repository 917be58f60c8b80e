use Rattle.std.proofs.Common.{map, drop}
use Rattle.grammar.specs.Syntax.{show_row}
use Rattle.text.specs.Written.{Ahead}
use Rattle.text.proofs.writer.Out.write_row.Given as goal

abbrev pub invariant-loop-entry : goal.invariant-loop-entry
invariant-loop-entry g l = Ahead (show_row (map g.T.Entry.bytes l.row)) (show_row (map g.T.Entry.bytes (drop l.entry-index l.row))) l.initial.self l.self
