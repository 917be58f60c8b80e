-- Models that have a text: what is kept of them, with its bounds; and what is promised of texts and models.
use Rattle.std.specs.Prelude.{◌≡◌, ℕ, suc, ◌≤◌, max, Bool, true, ◌&&◌, List, map, length, ◌==◌, nat_le, nat_lt, slice_index}
use Rattle.meaning.specs.Model.{Expr, fixed, var, it, me, clock, plus, minus, times, over, remains, less, same, Body, stop, assign, draw, say, send, branch, repeat}
use Rattle.grammar.specs.Syntax.{Text, IsText, is_name, every, show}
use Rattle.grammar.specs.Check.{too_large, most_names, most_deep, most_lines, most_things, most_notes, text_bytes}
use Rattle.grammar.specs.Rules.{Keeps, distinct, kind_lines, short}
use Rattle.text.specs.Named.{NamedKind, Made, Sent, Named, named, text_of}

-- Numbers are below 2^32, and variables are among the first n.
unfoldable pub bounded_expr : ℕ → Expr → Bool
bounded_expr n (fixed a) = nat_lt a too_large
bounded_expr n (var k) = nat_lt k n
bounded_expr n it = true
bounded_expr n me = true
bounded_expr n clock = true
bounded_expr n (plus e f) = bounded_expr n e && bounded_expr n f
bounded_expr n (minus e f) = bounded_expr n e && bounded_expr n f
bounded_expr n (times e f) = bounded_expr n e && bounded_expr n f
bounded_expr n (over e f) = bounded_expr n e && bounded_expr n f
bounded_expr n (remains e f) = bounded_expr n e && bounded_expr n f
bounded_expr n (less e f) = bounded_expr n e && bounded_expr n f
bounded_expr n (same e f) = bounded_expr n e && bounded_expr n f

unfoldable pub bounded_body : ℕ → Body → Bool
bounded_body n stop = true
bounded_body n (assign k e b) = nat_lt k n && (bounded_expr n e && bounded_body n b)
bounded_body n (draw k e b) = nat_lt k n && (bounded_expr n e && bounded_body n b)
bounded_body n (say e b) = bounded_expr n e && bounded_body n b
bounded_body n (send g f e b) = bounded_expr n g && (bounded_expr n f && (bounded_expr n e && bounded_body n b))
bounded_body n (branch e b c rest) = bounded_expr n e && (bounded_body n b && (bounded_body n c && bounded_body n rest))
bounded_body n (repeat e b rest) = bounded_expr n e && (bounded_body n b && bounded_body n rest)

-- How many branches and repeats stand in each other.
unfoldable pub body_depth : Body → ℕ
body_depth stop = 0
body_depth (assign k e b) = body_depth b
body_depth (draw k e b) = body_depth b
body_depth (say e b) = body_depth b
body_depth (send g f e b) = body_depth b
body_depth (branch e b c rest) = max (suc (max (body_depth b) (body_depth c))) (body_depth rest)
body_depth (repeat e b rest) = max (suc (body_depth b)) (body_depth rest)

-- A kind has a name, at most 64 numbers with names of their own, and lines within bounds.
abbrev pub bounded_kind : NamedKind → Bool
bounded_kind k =
    is_name k.name && (every is_name k.numbers && (distinct k.numbers && (nat_le (length k.numbers) most_names
    && (bounded_body (length k.numbers) k.body && nat_le (body_depth k.body) most_deep))))

-- A process is of a kind that there is, and has a number below 2^32 for each of its numbers.
abbrev pub bounded_thing : List NamedKind → Made → Bool
bounded_thing ks x =
    nat_lt x.kind (length ks) && (length x.numbers == slice_index (map (λ k. length k.numbers) ks) x.kind && every (λ a. nat_lt a too_large) x.numbers)

-- A message is to one of so many processes, and its numbers are below 2^32.
abbrev pub bounded_note : ℕ → Sent → Bool
bounded_note things n = nat_lt n.time too_large && (nat_lt n.to things && nat_lt n.number too_large)

-- A model in bounds: each part is, no two kinds have one name, and written with its names it has at most 4,096 lines of kinds of at most 1,024
-- bytes with their end, 65,536 things and messages, and 64 MiB.
pub record InBounds (m : Named) : Type 0 where
  pub kinds_once : distinct (map (λ k. k.name) m.kinds) ≡ true
  pub kinds_bounded : every bounded_kind m.kinds ≡ true
  pub things_bounded : every (bounded_thing m.kinds) m.things ≡ true
  pub notes_bounded : every (bounded_note (length m.things)) m.notes ≡ true
  pub few_lines : length (kind_lines (text_of m).kinds) ≤ most_lines
  pub short_lines : every short (kind_lines (text_of m).kinds) ≡ true
  pub few_things : length m.things ≤ most_things
  pub few_notes : length m.notes ≤ most_notes
  pub few_bytes : length (show (text_of m)) ≤ text_bytes

-- These bytes are a text that is taken, and say this model.
abbrev pub Says : List ℕ → Named → Type 0
Says bs m = (t : Text) × IsText bs t × Keeps t × (named t ≡ m)

-- A text is one model at most.
abbrev pub OneModel : Type 0
OneModel = (bs : List ℕ) (m n : Named) → Says bs m → Says bs n → m ≡ n

-- What a text says is in bounds.
abbrev pub SaidBounded : Type 0
SaidBounded = (bs : List ℕ) (m : Named) → Says bs m → InBounds m

-- Every model in bounds has a text, the one that is written.
abbrev pub HasText : Type 0
HasText = (m : Named) → InBounds m → Says (show (text_of m)) m

-- A text written anew is read as the same model, and is no longer than it was.
abbrev pub WrittenAnew : Type 0
WrittenAnew = (bs : List ℕ) (m : Named) → Says bs m → Says (show (text_of m)) m × (length (show (text_of m)) ≤ length bs)
