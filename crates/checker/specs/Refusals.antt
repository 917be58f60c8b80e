-- Refusals by number, and what a function that reads answers, in the grammar's words.
use Rattle.std.specs.Prelude.{ℕ, List, [], map, Ok, Err, Result}
use Rattle.std.specs.Borrow.{Bor}
use Rattle.grammar.specs.Check.{Checked, taken, refused}
use Rattle.words.specs.Words.{unpack}
use Rattle.checker.specs.declared.Rule.{Rule}
use Rattle.checker.specs.declared.Rule.TheVariants.{Form, Name, Number, Limit, Lent, Letter}
use Rattle.checker.specs.declared.limits.Refused.{Refused}

-- The number of a refusal.
abbrev pub number_of : Rule → ℕ
number_of Form = 1
number_of Name = 2
number_of Number = 3
number_of Limit = 4
number_of Lent = 5
number_of Letter = 6

-- What was read, in other words.
abbrev pub map_checked : {A B : Type 0} → (A → B) → Checked A → Checked B
map_checked f (taken a c) = taken (f a) c
map_checked f (refused n c) = refused n c

-- What was read is left out.
abbrev pub left_out : {A : Type 0} → Checked A → Checked (Unit {0})
left_out r = map_checked (λ _. tt) r

-- A refusal.
abbrev pub refused_by : {A : Type 0} → Refused → Checked A
refused_by f = refused (number_of f.rule) f.from.now

-- What was read and the bytes behind it, or the refusal.
abbrev pub read : {A : Type 0} → Result (A × Bor (List ℕ)) Refused → Checked A
read (Ok r) = taken r.0 r.1.now
read (Err f) = refused_by f

-- Just the bytes behind.
abbrev pub ended : Result (Bor (List ℕ)) Refused → Checked (Unit {0})
ended (Ok rest) = taken tt rest.now
ended (Err f) = refused_by f

-- What was read, up to the end of the bytes.
abbrev pub outcome : {A : Type 0} → Result A Refused → Checked A
outcome (Ok a) = taken a []
outcome (Err f) = refused_by f

-- Names kept as packed words.
abbrev pub names_in : List ℕ → List (List ℕ)
names_in ps = map unpack ps
