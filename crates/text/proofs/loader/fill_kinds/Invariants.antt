use Rattle.std.proofs.Common.{◌≡◌, ℕ, ◌*◌, ◌<◌, ◌≤◌, true, List, ◌++◌, length}
use Rattle.grammar.specs.Syntax.{every, Kind, show_kinds, spelled_kind}
use Rattle.grammar.specs.Rules.{right_kind}
use Rattle.text.specs.Slices.{words}
use Rattle.text.specs.Slots.{row_in}
use Rattle.text.specs.Writes.{row_of}
use Rattle.text.proofs.Wholes.{KindsLeft}
use Rattle.text.proofs.loader.fill_kinds.Given as goal

abbrev pub invariant-loop-i : goal.invariant-loop-i
invariant-loop-i l =
    (l.words.items.ghost_name ≡ l.initial.words.items.ghost_name) × (l.starts.items.ghost_name ≡ l.initial.starts.items.ghost_name) × (l.rows.items.ghost_name ≡ l.initial.rows.items.ghost_name)
    × ((ks : List Kind) (k : List ℕ) → l.text ≡ show_kinds ks ++ k → every spelled_kind ks ≡ true → every right_kind ks ≡ true → length (words ks) ≤ length l.initial.words.items.now →
    length (words ks) < 4294967296 → 65 * length ks ≤ length l.initial.rows.items.now → length ks ≡ l.count →
    KindsLeft l.rest l._i l.count ks k (row_in l.words) (row_of 0 l.initial.words.items.now) (row_in l.starts) (row_of 0 l.initial.starts.items.now)
    (row_in l.rows) (row_of 0 l.initial.rows.items.now))
