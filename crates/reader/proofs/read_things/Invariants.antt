use Rattle.std.proofs.Common.{◌≡◌, ◌-◌}
use Rattle.grammar.specs.Parse.{read_things}
use Rattle.reader.specs.Rests.{forget}
use Rattle.reader.proofs.read_things.Given as goal

abbrev pub invariant-loop-i : goal.invariant-loop-i
invariant-loop-i l = forget (read_things (l.most - l.i) l.rest) ≡ forget (read_things l.most l.text)
