use Rattle.std.proofs.Common.{◌≡◌, ◌<◌, drop}
use Rattle.grammar.specs.Check.{decimal}
use Rattle.words.proofs.number_of.Given as goal

abbrev pub invariant-loop-d : goal.invariant-loop-d
invariant-loop-d l = (decimal l.n (drop l.d-index l.digits) ≡ decimal 0 l.digits) × (l.n < 4294967296)
