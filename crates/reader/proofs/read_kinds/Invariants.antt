use Rattle.std.proofs.Common.{◌≡◌, ◌-◌}
use Rattle.grammar.specs.Parse.{read_kinds}
use Rattle.reader.specs.Rests.{forget}
use Rattle.reader.proofs.read_kinds.Given as goal

abbrev pub invariant-loop-i : goal.invariant-loop-i
invariant-loop-i l = forget (read_kinds (l.most - l.i) l.rest) ≡ forget (read_kinds l.most l.text)
