use Rattle.std.proofs.Common.{◌≡◌, ◌+◌, ◌-◌}
use Rattle.text.specs.Parts.{place_of}
use Rattle.text.specs.Tables.{firsts}
use Rattle.text.proofs.loader.kind_of.Given as goal

abbrev pub invariant-loop-j : goal.invariant-loop-j
invariant-loop-j l = place_of l.name (firsts l.count l.names) ≡ l.j + place_of l.name (firsts (l.count - l.j) l.rows)
