use Rattle.std.proofs.Common.{◌≡◌, ◌-◌}
use Rattle.grammar.specs.Check.{check_notes, most_notes}
use Rattle.checker.specs.Refusals.{map_checked}
use Rattle.checker.specs.Texts.{sized}
use Rattle.checker.proofs.texts.check_notes.Given as goal

abbrev pub invariant-loop-count : goal.invariant-loop-count
invariant-loop-count l =
    map_checked (sized l.count) (check_notes l.things (most_notes - l.count) l.rest) ≡ map_checked (sized 0) (check_notes l.things most_notes l.text)
