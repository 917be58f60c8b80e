use Rattle.std.proofs.Common.{◌-◌}
use Rattle.words.specs.Words.{unpack, unpack_upto}
use Rattle.text.specs.Written.{Ahead}
use Rattle.text.proofs.writer.Out.write_name.Given as goal

abbrev pub invariant-loop-turn : goal.invariant-loop-turn
invariant-loop-turn l = Ahead (unpack l.packed) (unpack_upto (8 - l._turn) l.p) l.initial.self l.self
