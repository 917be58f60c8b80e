use Rattle.std.proofs.Common.{◌≡◌, ◌-◌}
use Rattle.grammar.specs.Parse.{read_row, read_number}
use Rattle.reader.specs.Rests.{forget}
use Rattle.reader.proofs.read_numbers.Given as goal

abbrev pub invariant-loop : goal.invariant-loop
invariant-loop l = forget (read_row read_number (l.most - l.counter) l.rest) ≡ forget (read_row read_number l.most l.text)
