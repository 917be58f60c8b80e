-- What is so at the place where bytes are refused with 2, 3 or 4, in the words of the language alone.
use Rattle.std.specs.Prelude.{◌≡◌, ℕ, zero, suc, ◌<◌, ◌≤◌, Bool, true, false, cond, not, ◌||◌, ◌⊎◌, List, [], ◌∷◌, ◌++◌, map, length, take, codes, ◌==◌, ◌≢◌}
use Rattle.grammar.specs.Syntax.{is_letter, is_digit, in_word, all, same, among, is_name, is_number, newline, Kind, Thing, Note, Text, show_row, show_kinds, every, spelled_kind, spelled_thing, IsText}
use Rattle.grammar.specs.Check.{too_large, most_deep, most_lines, line_bytes, most_things, most_notes, text_bytes, decimal, known, count_of, check, refused}

-- A word ends here: the bytes behind it do not go on with a letter or a digit; and so a number.
abbrev pub WordEnds : List ℕ → Type 0
WordEnds [] = Unit {0}
WordEnds (b ∷ bs) = in_word b ≡ false

abbrev pub NumberEnds : List ℕ → Type 0
NumberEnds [] = Unit {0}
NumberEnds (b ∷ bs) = is_digit b ≡ false

-- A word or a number begins behind these bytes: the last of them is no letter and no digit.
abbrev pub WordBegins : List ℕ → Type 0
WordBegins bs = (u : List ℕ) × (b : ℕ) × (bs ≡ u ++ b ∷ []) × (in_word b ≡ false)

-- Lines one after the other, each with its end.
unfoldable pub joined : List (List ℕ) → List ℕ
joined [] = []
joined (l ∷ ls) = l ++ (newline ++ joined ls)

-- No byte of a line ends it.
abbrev pub one_line : List ℕ → Bool
one_line l = all (λ b. not (b == 10)) l

-- Bytes that begin with others.
abbrev pub begins : List ℕ → List ℕ → Bool
begins w l = same (take (length w) l) w

-- How many are open behind lines, where n were before: a kind, and the branches and repeats in it. Behind the last end none opens.
unfoldable pub open_behind : ℕ → List (List ℕ) → ℕ
open_behind zero ls = 0
open_behind (suc n) [] = suc n
open_behind (suc n) (l ∷ ls) =
    open_behind (cond (begins (codes "if ") l || begins (codes "again ") l) (suc (suc n)) (cond (same l (codes "end")) n (suc n))) ls

-- The text of these.
abbrev pub text : List Kind → List Thing → List Note → Text
text ks ts ms = record { kinds = ks; things = ts; notes = ms }

-- These bytes are kinds, and then the first line of one more, named k, with its numbers' names, and lines of it, which don't end it.
pub record InKind (ks : List Kind) (k : List ℕ) (ns ls : List (List ℕ)) (bs : List ℕ) : Type 0 where
  pub shows : bs ≡ show_kinds ks ++ (codes "kind " ++ (k ++ (show_row ns ++ (newline ++ joined ls))))
  pub kinds : every spelled_kind ks ≡ true
  pub name : is_name k ≡ true
  pub numbers : every is_name ns ≡ true
  pub lines : every one_line ls ≡ true
  pub goes_on : 0 < open_behind 1 ls

-- A line of a kind begins behind these bytes: a kind's first, or one of its lines.
abbrev pub AtLine : List ℕ → Type 0
AtLine bs = ((ks : List Kind) × IsText bs (text ks [] [])) ⊎ ((ks : List Kind) × (k : List ℕ) × (ns ls : List (List ℕ)) × InKind ks k ns ls bs)

-- What is so at the front of rest, behind front, for each number.
pub data Fault (front rest : List ℕ) : ℕ → Type 0 where
  -- in a kind, a name that is none of its numbers'
  unknown_number : (ks : List Kind) (k : List ℕ) (ns ls : List (List ℕ)) (u v w behind : List ℕ) → InKind ks k ns ls u → front ≡ u ++ v → one_line v ≡ true →
      WordBegins front → rest ≡ w ++ behind → is_name w ≡ true → WordEnds behind → among w ns ≡ false → Fault front rest 2
  -- in the first line of a kind, a name that stands in it already
  number_twice : (ks : List Kind) (k : List ℕ) (ns : List (List ℕ)) (u w behind : List ℕ) → IsText u (text ks [] []) → is_name k ≡ true → every is_name ns ≡ true →
      front ≡ u ++ (codes "kind " ++ (k ++ (show_row ns ++ codes " "))) → rest ≡ w ++ behind → is_name w ≡ true → WordEnds behind → among w ns ≡ true → Fault front rest 2
  -- a kind with the name of one before
  kind_twice : (ks : List Kind) (u w behind : List ℕ) → IsText u (text ks [] []) → front ≡ u ++ codes "kind " → rest ≡ w ++ behind →
      is_name w ≡ true → WordEnds behind → among w (map (λ k. k.name) ks) ≡ true → Fault front rest 2
  -- a thing of a kind that isn't there
  unknown_kind : (ks : List Kind) (ts : List Thing) (u w behind : List ℕ) → IsText u (text ks ts []) → front ≡ u ++ codes "thing " → rest ≡ w ++ behind →
      is_name w ≡ true → WordEnds behind → among w (map (λ k. k.name) ks) ≡ false → Fault front rest 2
  -- a number of 2^32 or more
  number_large : (ds behind : List ℕ) → WordBegins front → rest ≡ ds ++ behind → is_number ds ≡ true → NumberEnds behind → too_large ≤ decimal 0 ds → Fault front rest 3
  -- a thing's line that ends well, with more or fewer numbers than its kind has
  wrong_count : (ks : List Kind) (ts : List Thing) (x : Thing) (behind : List ℕ) → IsText front (text ks ts []) →
      rest ≡ codes "thing " ++ (x.kind ++ (show_row x.numbers ++ (newline ++ behind))) → spelled_thing x ≡ true → among x.kind (map (λ k. k.name) ks) ≡ true →
      (length x.numbers ≢ count_of x.kind (map known ks)) → Fault front rest 3
  -- a message to a thing that isn't there
  no_thing : (ks : List Kind) (ts : List Thing) (ms : List Note) (u t f behind : List ℕ) → IsText u (text ks ts ms) → is_number t ≡ true →
      front ≡ u ++ (codes "message " ++ (t ++ codes " ")) → rest ≡ f ++ behind → is_number f ≡ true → NumberEnds behind → length ts ≤ decimal 0 f → Fault front rest 3
  -- the 4,097th line of kinds
  many_lines : (ls : List (List ℕ)) (b : ℕ) (behind : List ℕ) → AtLine front → front ≡ joined ls → every one_line ls ≡ true → length ls ≡ most_lines →
      rest ≡ b ∷ behind → is_letter b ≡ true → Fault front rest 4
  -- the first line of a branch or a repeat where a kind and 16 in it are open
  too_deep : (ks : List Kind) (k : List ℕ) (ns ls : List (List ℕ)) (behind : List ℕ) → InKind ks k ns ls front → open_behind 1 ls ≡ suc most_deep →
      (rest ≡ codes "if " ++ behind) ⊎ (rest ≡ codes "again " ++ behind) → Fault front rest 4
  -- the 1,025th byte of a line of a kind
  line_long : (u l : List ℕ) (b : ℕ) (behind : List ℕ) → AtLine u → front ≡ u ++ l → length l ≡ line_bytes → one_line l ≡ true → rest ≡ b ∷ behind → Fault front rest 4
  -- the 65,537th thing, and message
  many_things : (ks : List Kind) (ts : List Thing) (behind : List ℕ) → IsText front (text ks ts []) → length ts ≡ most_things → rest ≡ 116 ∷ behind → Fault front rest 4
  many_notes : (ks : List Kind) (ts : List Thing) (ms : List Note) (behind : List ℕ) → IsText front (text ks ts ms) → length ms ≡ most_notes → rest ≡ 109 ∷ behind → Fault front rest 4
  -- the byte behind 64 MiB
  many_bytes : (b : ℕ) (behind : List ℕ) → length front ≡ text_bytes → rest ≡ b ∷ behind → Fault front rest 4

-- Where bytes are refused with another number than 1, that number's fault is there.
abbrev pub RefusedFault : Type 0
RefusedFault = (bs rest : List ℕ) (n : ℕ) → check bs ≡ refused n rest → (n ≢ 1) → (front : List ℕ) × (bs ≡ front ++ rest) × Fault front rest n
