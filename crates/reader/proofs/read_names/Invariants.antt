use Rattle.std.proofs.Common.{◌≡◌, ◌-◌}
use Rattle.grammar.specs.Parse.{read_upto, read_name}
use Rattle.reader.specs.Rests.{forget}
use Rattle.reader.proofs.read_names.Given as goal

abbrev pub invariant-loop : goal.invariant-loop
invariant-loop l = forget (read_upto read_name (l.most - l.counter) l.rest) ≡ forget (read_upto read_name l.most l.text)
