use Rattle.std.proofs.Common.{◌≡◌, drop}
use Rattle.checker.specs.Texts.{counted_by, known_in}
use Rattle.words.specs.Words.{unpack}
use Rattle.checker.proofs.texts.count_of.Given as goal

abbrev pub invariant-loop-kind : goal.invariant-loop-kind
invariant-loop-kind l = counted_by (unpack l.name) (known_in (drop l.kind-index l.kinds)) ≡ counted_by (unpack l.name) (known_in l.kinds)
