use Rattle.std.proofs.Common.{◌≡◌, ◌≤◌, true, List, length}
use Rattle.grammar.specs.Syntax.{every, Note, show_notes, spelled_note}
use Rattle.grammar.specs.Rules.{right_note}
use Rattle.text.specs.Slots.{row_in}
use Rattle.text.specs.Writes.{row_of}
use Rattle.text.proofs.Notes.{NotesLeft}
use Rattle.text.proofs.loader.fill_notes.Given as goal

abbrev pub invariant-loop-k : goal.invariant-loop-k
invariant-loop-k l =
    (l.notes.items.ghost_name ≡ l.initial.notes.items.ghost_name)
    × ((ns : List Note) → l.text ≡ show_notes ns → every spelled_note ns ≡ true → every (right_note l.things) ns ≡ true → l.things ≤ 65536 → length ns ≡ l.count →
    NotesLeft l.rest l.things l.k l.count ns (row_in l.notes) (row_of 0 l.initial.notes.items.now))
