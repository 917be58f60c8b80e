-- What is promised of letters.
use Rattle.std.specs.Prelude.{◌≡◌, ℕ, ◌<◌, ◌≤◌, Bool, true, List, length, Some}
use Rattle.std.specs.List.{AllByRecursion}
use Rattle.meaning.specs.declared.Message.{Message}
use Rattle.meaning.specs.declared.Line.{Line}
use Rattle.letters.specs.declared.Letter.{Letter}
use Rattle.letters.specs.Letters.{letter_bytes, well_formed, letter_of, carries, last, IsLetter, message_bytes, message_of, message_fits, line_bytes, line_of, line_fits}

-- Reading what is written gives the same letter, and what it carries are its last bytes.
abbrev pub ReadBack : Type 0
ReadBack = (l : Letter) (c : List ℕ) → well_formed l c ≡ true → (letter_of (letter_bytes l c) ≡ Some l) × (last (carries l) (letter_bytes l c) ≡ c)

-- What is read from bytes is the letter that they are.
abbrev pub ReadSo : Type 0
ReadSo = (bs : List ℕ) → AllByRecursion (λ b. b < 256) bs → (l : Letter) → letter_of bs ≡ Some l → IsLetter bs l (last (carries l) bs)

-- No two letters have the same bytes.
abbrev pub NoTwo : Type 0
NoTwo =
    (l m : Letter) (c d : List ℕ) → well_formed l c ≡ true → well_formed m d ≡ true → letter_bytes l c ≡ letter_bytes m d → (l ≡ m) × (c ≡ d)

-- A letter has at most 1,024 bytes.
abbrev pub AtMost : Type 0
AtMost = (l : Letter) (c : List ℕ) → well_formed l c ≡ true → length (letter_bytes l c) ≤ 1024

-- What fits its type has so many bytes, and is read back from them.
abbrev pub IsReadBack : {X : Type 0} → ℕ → (X → List ℕ) → (List ℕ → X) → (X → Bool) → Type 0
IsReadBack {X} size bytes_of of_bytes fits = (x : X) → fits x ≡ true → (length (bytes_of x) ≡ size) × (of_bytes (bytes_of x) ≡ x)

-- A message has 28 bytes, and is read back from them.
abbrev pub MessagesBack : Type 0
MessagesBack = (m : Message) → message_fits m ≡ true → (length (message_bytes m) ≡ 28) × (message_of (message_bytes m) ≡ m)

-- A line has 16 bytes, and is read back from them.
abbrev pub LinesBack : Type 0
LinesBack = (l : Line) → line_fits l ≡ true → (length (line_bytes l) ≡ 16) × (line_of (line_bytes l) ≡ l)
