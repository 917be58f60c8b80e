-- What the functions that check names, kinds, things and messages answer, with the trees left out and their lengths kept.
use Rattle.std.specs.Prelude.{◌≡◌, ℕ, ◌+◌, ◌≤◌, cond, List, [], ◌∷◌, map, length, take, drop, Some, None, Ok, Err, Option, Result}
use Rattle.std.specs.Borrow.{Bor}
use Rattle.grammar.specs.Syntax.{same, Text, show_kinds}
use Rattle.grammar.specs.Check.{Checked, taken, refused, Known, known}
use Rattle.grammar.specs.Check as check
use Rattle.words.specs.Words.{unpack}
use Rattle.checker.specs.declared.Refusal.{Refusal}
use Rattle.checker.specs.declared.texts.Kept.{Kept}
use Rattle.checker.specs.declared.texts.Row.{Row}
use Rattle.checker.specs.declared.texts.Counts.{Counts}
use Rattle.checker.specs.declared.texts.Extent.{Extent}
use Rattle.checker.specs.Refusals.{number_of, names_in}

-- A kind that was read, and a table of them.
abbrev pub known_by : Kept → Known
known_by k = record { name = unpack k.name; count = k.count }

abbrev pub known_in : List Kept → List Known
known_in ks = map known_by ks

-- How many numbers the kind of that name has, if there is one.
unfoldable pub counted_by : List ℕ → List Known → Option ℕ
counted_by w [] = None
counted_by w (k ∷ ks) = cond (same w k.name) (Some k.count) (counted_by w ks)

-- The names in the first places of a table, and the first line of a kind with these.
abbrev pub names_from : List ℕ → ℕ → List (List ℕ)
names_from ps n = names_in (take n ps)

abbrev pub first_from : List ℕ → Kept → check.First
first_from ps k = record { name = unpack k.name; numbers = names_from ps k.count }

-- A kind without its lines, and how many lines may still come behind it.
pub record Seen : Type 0 where
  pub kind : Known
  pub left : ℕ

abbrev pub seen : check.Counted → Seen
seen k = record { kind = known k.kind; left = k.left }

abbrev pub seen_read : Kept × ℕ → Seen
seen_read k = record { kind = known_by k.0; left = k.1 }

-- A row of numbers by how many there are, n of them before, and where the first begins that is too large.
pub record Length : Type 0 where
  pub count : ℕ
  pub large : Option (List ℕ)

abbrev pub row_length : ℕ → check.Row → Length
row_length n r = record { count = n + length r.numbers; large = r.large }

-- The bytes from there on, if there is such a number.
abbrev pub rest_of : Option (Bor (List ℕ)) → Option (List ℕ)
rest_of None = None
rest_of (Some rest) = Some rest.now

abbrev pub length_of : Row → Length
length_of r = record { count = r.count; large = rest_of r.large }

-- How many were read, behind n.
abbrev pub sized : {A : Type 0} → ℕ → List A → ℕ
sized n xs = n + length xs

-- How many things and messages, behind n things.
pub record Amounts : Type 0 where
  pub things : ℕ
  pub notes : ℕ

abbrev pub amounts : ℕ → Text → Amounts
amounts n x = record { things = n + length x.things; notes = length x.notes }

abbrev pub amounts_of : Counts → Amounts
amounts_of n = record { things = n.things; notes = n.notes }

-- How many bytes the kinds take, and how many kinds, things and messages; behind k kinds of n bytes.
pub record Sizes : Type 0 where
  pub lines : ℕ
  pub kinds : ℕ
  pub things : ℕ
  pub notes : ℕ

abbrev pub sizes : ℕ → ℕ → Text → Sizes
sizes n k x = record { lines = n + length (show_kinds x.kinds); kinds = k + length x.kinds; things = length x.things; notes = length x.notes }

abbrev pub sizes_of : Extent → Sizes
sizes_of e = record { lines = e.lines; kinds = e.kinds; things = e.things; notes = e.notes }

-- What is answered of a whole text: how large the tree is that was taken; or the refusal, and its place in the bytes.
pub record Measures (t : Text) (e : Extent) : Type 0 where
  pub lines : e.lines ≡ length (show_kinds t.kinds)
  pub kinds : e.kinds ≡ length t.kinds
  pub things : e.things ≡ length t.things
  pub notes : e.notes ≡ length t.notes

pub record Refused (bs : List ℕ) (n : ℕ) (c : List ℕ) (f : Refusal) : Type 0 where
  pub rule : number_of f.rule ≡ n
  pub rest : c ≡ drop f.place bs
  pub inside : f.place ≤ length bs

abbrev pub Answered : List ℕ → Result Extent Refusal → Checked Text → Type 0
Answered bs (Ok e) (taken t c) = Measures t e
Answered bs (Ok e) (refused n c) = ⊥
Answered bs (Err f) (taken t c) = ⊥
Answered bs (Err f) (refused n c) = Refused bs n c f
