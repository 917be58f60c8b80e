use Rattle.std.proofs.Common.{◌≡◌, ◌-◌}
use Rattle.grammar.specs.Parse.{read_notes}
use Rattle.reader.specs.Rests.{forget}
use Rattle.reader.proofs.read_notes.Given as goal

abbrev pub invariant-loop : goal.invariant-loop
invariant-loop l = forget (read_notes (l.most - l.counter) l.rest) ≡ forget (read_notes l.most l.text)
