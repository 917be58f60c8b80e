-- What a tree must keep beyond its spelling, so that its text is taken.
use Rattle.std.specs.Prelude.{◌≡◌, ℕ, suc, ◌≤◌, max, Bool, true, not, ◌&&◌, ◌||◌, List, [], ◌∷◌, ◌++◌, map, length, codes, ◌==◌, nat_le, nat_lt}
use Rattle.grammar.specs.Syntax.{among, every, Term, number, word, two, Lines, none, assign, draw, say, send, when, choose, again, Kind, Thing, Note, Text, show_term, show_row, show}
use Rattle.grammar.specs.Check.{too_large, most_deep, most_lines, line_bytes, most_things, most_notes, text_bytes, decimal, stand_ins, Known, known, count_of}

-- None is there twice.
unfoldable pub distinct : List (List ℕ) → Bool
distinct [] = true
distinct (w ∷ ws) = not (among w ws) && distinct ws

-- A number below 2^32.
abbrev pub small : List ℕ → Bool
small ds = nat_lt (decimal 0 ds) too_large

-- Every name is one of these, and every number is below 2^32.
unfoldable pub right_term : List (List ℕ) → Term → Bool
right_term names (number ds) = small ds
right_term names (word w) = among w stand_ins || among w names
right_term names (two s t u) = right_term names t && right_term names u

unfoldable pub right_lines : List (List ℕ) → Lines → Bool
right_lines names none = true
right_lines names (assign w t ls) = among w names && (right_term names t && right_lines names ls)
right_lines names (draw w t ls) = among w names && (right_term names t && right_lines names ls)
right_lines names (say t ls) = right_term names t && right_lines names ls
right_lines names (send t u v ls) = right_term names t && (right_term names u && (right_term names v && right_lines names ls))
right_lines names (when t b ls) = right_term names t && (right_lines names b && right_lines names ls)
right_lines names (choose t b c ls) = right_term names t && (right_lines names b && (right_lines names c && right_lines names ls))
right_lines names (again t b ls) = right_term names t && (right_lines names b && right_lines names ls)

-- How many branches and repeats stand in each other.
unfoldable pub depth : Lines → ℕ
depth none = 0
depth (assign w t ls) = depth ls
depth (draw w t ls) = depth ls
depth (say t ls) = depth ls
depth (send t u v ls) = depth ls
depth (when t b ls) = max (suc (depth b)) (depth ls)
depth (choose t b c ls) = max (suc (max (depth b) (depth c))) (depth ls)
depth (again t b ls) = max (suc (depth b)) (depth ls)

-- The bytes of each line, one after the other, without their ends.
unfoldable pub lines_of : Lines → List (List ℕ)
lines_of none = []
lines_of (assign w t ls) = (w ++ (codes " = " ++ show_term t)) ∷ lines_of ls
lines_of (draw w t ls) = (w ++ (codes " = draw " ++ show_term t)) ∷ lines_of ls
lines_of (say t ls) = (codes "say " ++ show_term t) ∷ lines_of ls
lines_of (send t u v ls) = (codes "send " ++ (show_term t ++ (codes " to " ++ (show_term u ++ (codes " after " ++ show_term v))))) ∷ lines_of ls
lines_of (when t b ls) = (codes "if " ++ show_term t) ∷ (lines_of b ++ (codes "end" ∷ lines_of ls))
lines_of (choose t b c ls) = (codes "if " ++ show_term t) ∷ (lines_of b ++ (codes "else" ∷ (lines_of c ++ (codes "end" ∷ lines_of ls))))
lines_of (again t b ls) = (codes "again " ++ show_term t) ∷ (lines_of b ++ (codes "end" ∷ lines_of ls))

-- The lines of kinds, each with its first and its end.
unfoldable pub kind_lines : List Kind → List (List ℕ)
kind_lines [] = []
kind_lines (k ∷ ks) = (codes "kind " ++ (k.name ++ show_row k.numbers)) ∷ (lines_of k.lines ++ (codes "end" ∷ kind_lines ks))

-- A line that has at most 1,024 bytes with its end.
abbrev pub short : List ℕ → Bool
short l = nat_lt (length l) line_bytes

-- A kind's numbers have names of their own, its lines name no others, and stand in each other at most 16 deep.
abbrev pub right_kind : Kind → Bool
right_kind k = distinct k.numbers && (right_lines k.numbers k.lines && nat_le (depth k.lines) most_deep)

-- A thing is of a kind that there is, with as many numbers, all below 2^32.
abbrev pub right_thing : List Known → Thing → Bool
right_thing ks t = among t.kind (map (λ k. k.name) ks) && (length t.numbers == count_of t.kind ks && every small t.numbers)

-- A message is to one of so many things, and its numbers are below 2^32.
abbrev pub right_note : ℕ → Note → Bool
right_note things n = small n.time && (nat_lt (decimal 0 n.to) things && small n.number)

-- What a tree must keep: the names of kinds, and the rules of each kind, thing and message; and the limits of lines, things, messages and bytes.
pub record Keeps (t : Text) : Type 0 where
  pub kinds_once : distinct (map (λ k. k.name) t.kinds) ≡ true
  pub kinds_right : every right_kind t.kinds ≡ true
  pub things_right : every (right_thing (map known t.kinds)) t.things ≡ true
  pub notes_right : every (right_note (length t.things)) t.notes ≡ true
  pub few_lines : length (kind_lines t.kinds) ≤ most_lines
  pub short_lines : every short (kind_lines t.kinds) ≡ true
  pub few_things : length t.things ≤ most_things
  pub few_notes : length t.notes ≤ most_notes
  pub few_bytes : length (show t) ≤ text_bytes
