use Rattle.std.proofs.Common.{◌≡◌, ℕ, ◌<◌, true, List, ◌++◌, length}
use Rattle.grammar.specs.Syntax.{every, Thing, show_things, spelled_thing}
use Rattle.text.specs.Slots.{row_in}
use Rattle.text.specs.Writes.{row_of}
use Rattle.text.specs.Parts.{Packed}
use Rattle.text.specs.Tables.{firsts, fit_thing}
use Rattle.text.proofs.Things.{ThingsLeft}
use Rattle.text.proofs.loader.fill_things.Given as goal

abbrev pub invariant-loop-i : goal.invariant-loop-i
invariant-loop-i l =
    (l.things.items.ghost_name ≡ l.initial.things.items.ghost_name) × (l.rows.items.ghost_name ≡ l.initial.rows.items.ghost_name)
    × ((ks : List (List ℕ)) (xs : List Thing) (k : List ℕ) → Packed ks (firsts l.kinds l.names) → l.kinds < 4294967296 → l.text ≡ show_things xs ++ k →
    every spelled_thing xs ≡ true → every fit_thing xs ≡ true → length xs ≡ l.count →
    ThingsLeft l.rest l._i l.count ks xs k (row_in l.things) (row_of 0 l.initial.things.items.now) (row_in l.rows) (row_of 0 l.initial.rows.items.now))
