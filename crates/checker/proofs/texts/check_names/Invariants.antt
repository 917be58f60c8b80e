use Rattle.std.proofs.Common.{◌≡◌, ◌-◌, [], length, take}
use Rattle.grammar.specs.Check.{check_names, most_names}
use Rattle.checker.specs.Refusals.{names_in}
use Rattle.checker.proofs.Tables.{before}
use Rattle.checker.proofs.texts.check_names.Given as goal

abbrev pub invariant-loop-count : goal.invariant-loop-count
invariant-loop-count l =
    (before (names_in (take l.count l.names)) (check_names (names_in (take l.count l.names)) (most_names - l.count) l.rest) ≡ check_names [] most_names l.text)
    × (length l.names ≡ 64)
