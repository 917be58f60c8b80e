use Rattle.std.proofs.Common.{◌≡◌, ◌-◌}
use Rattle.grammar.specs.Check.{check_things, most_things}
use Rattle.checker.specs.Refusals.{map_checked}
use Rattle.checker.specs.Texts.{amounts, known_in}
use Rattle.checker.proofs.texts.check_things.Given as goal

abbrev pub invariant-loop-things : goal.invariant-loop-things
invariant-loop-things l =
    map_checked (amounts l.things) (check_things (known_in l.kinds) l.things (most_things - l.things) l.rest)
    ≡ map_checked (amounts 0) (check_things (known_in l.kinds) 0 most_things l.text)
