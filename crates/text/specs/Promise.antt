-- What is promised of texts, of models with names and of lent slices. Each statement is a type, and some function's contract is that statement.
use Rattle.std.specs.Prelude.{◌≡◌, ℕ, ◌<◌, true, length}
use Rattle.grammar.specs.Syntax.{Text, is_number, spelled}
use Rattle.grammar.specs.Check.{decimal}
use Rattle.grammar.specs.Rules.{Keeps}
use Rattle.text.specs.Named.{digits, named}
use Rattle.text.specs.Slices.{Slices, filled, roomy, held, used}

-- The digits of a number below 2^64 are read as that number.
abbrev pub DigitsRead : Type 0
DigitsRead = (n : ℕ) → n < 18446744073709551616 → (decimal 0 (digits n) ≡ n) × (is_number (digits n) ≡ true)

-- Slices that a text fills hold what the text says, in the part that is then in use.
abbrev pub FilledHolds : Type 0
FilledHolds =
    (t : Text) (s : Slices) → spelled t ≡ true → Keeps t → roomy t s ≡ true →
    held (used (length t.kinds) (length t.things) (length t.notes) (filled t s)) ≡ named t
