use Rattle.std.proofs.Common.{◌≡◌, ◌-◌, None}
use Rattle.grammar.specs.Check.{check_row}
use Rattle.checker.specs.Refusals.{map_checked}
use Rattle.checker.specs.Texts.{row_length, rest_of}
use Rattle.checker.proofs.texts.check_row.Given as goal

abbrev pub invariant-loop-count : goal.invariant-loop-count
invariant-loop-count l =
    map_checked (row_length l.count) (check_row (l.most - l.count) (rest_of l.large) l.rest) ≡ map_checked (row_length 0) (check_row l.most None l.text)
