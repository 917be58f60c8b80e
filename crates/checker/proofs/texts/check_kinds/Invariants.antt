use Rattle.std.proofs.Common.{◌≡◌, ◌-◌, ◌≤◌, [], length, take}
use Rattle.grammar.specs.Check.{check_kinds}
use Rattle.checker.specs.Refusals.{map_checked}
use Rattle.checker.specs.Texts.{sizes, known_in}
use Rattle.checker.proofs.texts.check_kinds.Given as goal

abbrev pub invariant-loop-table : goal.invariant-loop-table
invariant-loop-table l =
    (map_checked (sizes (length l.text - length l.rest) l.kinds) (check_kinds (4097 - l.kinds) (known_in (take l.kinds l.table)) l.left l.rest)
    ≡ map_checked (sizes 0 0) (check_kinds 4097 [] 4096 l.text))
    × (length l.rest ≤ length l.text) × (l.kinds ≤ 4096) × (length l.table ≡ 4096)

abbrev pub decreases-loop-table : goal.decreases-loop-table
decreases-loop-table l = 4097 - l.kinds
