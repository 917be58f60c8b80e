-- What the writer writes: bytes at a place of a lent slice, and the text of what lent slices hold.
use Rattle.std.specs.Prelude.{◌≡◌, ℕ, zero, suc, ◌+◌, ◌*◌, ◌<◌, ◌≤◌, cond, List, [], ◌∷◌, ◌++◌, map, length, take, drop, Ok, Err, codes, Option, Result, MatchOption, nat_le, nat_lt, slice_index}
use Rattle.std.specs.Borrow.{Bor}
use Rattle.text.specs.declared.writer.Out.{Out}
use Rattle.checker.specs.declared.Refusal.{Refusal}
use Rattle.checker.specs.declared.Rule.TheVariants.{Lent}
use Rattle.body.specs.declared.Binary.{Binary}
use Rattle.body.specs.declared.Binary.TheVariants as body
use Rattle.body.specs.Code.{Read, expr_of, body_by, body_of}
use Rattle.body.specs.declared.LineOp.{LineOp}
use Rattle.grammar.specs.Syntax.{Sign, plus, minus, times, over as divided, remains, less, equal, Thing, show_term, show_lines, show_kinds, show_things, show_notes, show}
use Rattle.meaning.specs.Model.{Body, stop, assign, draw, say, send, branch, repeat}
use Rattle.words.specs.Words.{unpack}
use Rattle.body.specs.declared.Process.{Process}
use Rattle.meaning.specs.declared.Message.{Message}
use Rattle.sequential.specs.Memory.{body_from}
use Rattle.text.specs.Named.{NamedKind, digits, term, lines, kind_text, note_text, text_of}
use Rattle.text.specs.declared.stage.Failure.{Failure}
use Rattle.text.specs.declared.stage.Failure.TheVariants.{Refused, Memory, Io}
use Rattle.text.specs.Asked.{lent}
use Rattle.text.specs.Slices.{over, names_of, held_kinds, held_things, held_note, held, slices}

-- What lent bytes are once others are written from a place on; those for which there is no place are left out.
unfoldable pub spill : ℕ → List ℕ → List ℕ → List ℕ
spill at bs [] = []
spill zero [] (x ∷ xs) = x ∷ xs
spill zero (b ∷ bs) (x ∷ xs) = b ∷ spill zero bs xs
spill (suc at) bs (x ∷ xs) = x ∷ spill at bs xs

-- Bytes are written behind those that are there, into the same lent ones; the end stays within the limit.
pub record Spilled (bs : List ℕ) (o o' : Out) : Type 0 where
  pub bytes_are : o'.bytes.ghost_name ≡ o.bytes.ghost_name
  pub limit_is : o'.limit ≡ o.limit
  pub end_is : o'.end ≡ o.end + length bs
  pub within : o.end ≤ o.limit → o'.end ≤ o.limit
  pub holds : o'.bytes.now ≡ spill o.end bs o.bytes.now

-- They would pass the limit, and what was written of them is left open.
pub record Passed (bs : List ℕ) (o o' : Out) : Type 0 where
  pub bytes_are : o'.bytes.ghost_name ≡ o.bytes.ghost_name
  pub passes : o.limit < o.end + length bs

abbrev pub Writes : List ℕ → Out → Out → Option Unit → Type 0
Writes bs o o' r = MatchOption r (Passed bs o o') (λ _. Spilled bs o o')

-- So far is written that all is, once the rest is written too.
pub record Ahead (all rest : List ℕ) (o o' : Out) : Type 0 where
  pub done : List ℕ
  pub all_is : all ≡ done ++ rest
  pub spilled : Spilled done o o'

-- How an operation is written.
abbrev pub sign_of : Binary → Sign
sign_of body.Plus = plus
sign_of body.Minus = minus
sign_of body.Times = times
sign_of body.Over = divided
sign_of body.Remains = remains
sign_of body.Less = less
sign_of body.Same = equal

-- The bytes of the expression at the front of ws, at most n deep, where names has the packed names of the variables.
abbrev pub term_bytes : List ℕ → ℕ → List ℕ → List ℕ
term_bytes names n ws = show_term (term (map unpack names) (expr_of n ws).expr)

-- The bytes of the lines there.
abbrev pub lines_bytes : List ℕ → ℕ → List ℕ → List ℕ
lines_bytes names n ws = show_lines (lines (map unpack names) (body_of n ws))

-- An expression that was read from words is written, and rest is what stands behind it there.
pub record WroteTerm (names : List ℕ) (x : Read) (o o' : Out) (rest : List ℕ) : Type 0 where
  pub spilled : Spilled (show_term (term (map unpack names) x.expr)) o o'
  pub rest_is : rest ≡ x.rest

abbrev pub Wrote : List ℕ → Read → Out → Out → Option (Bor (List ℕ)) → Type 0
Wrote names x o o' r = MatchOption r (Passed (show_term (term (map unpack names) x.expr)) o o') (λ rest. WroteTerm names x o o' rest.now)

-- What stands before the lines of an else: nothing if there are none.
abbrev pub else_head : Body → List ℕ
else_head stop = []
else_head (assign k e b) = codes "else\n"
else_head (draw k e b) = codes "else\n"
else_head (say e b) = codes "else\n"
else_head (send g f e b) = codes "else\n"
else_head (branch e b c rest) = codes "else\n"
else_head (repeat e b rest) = codes "else\n"

-- The bytes of the lines whose first opens by op, and has ws behind its first word.
abbrev pub opened_bytes : List ℕ → LineOp → ℕ → List ℕ → List ℕ
opened_bytes names op n ws = show_lines (lines (map unpack names) (body_by op (expr_of n) (body_of n) ws))

-- The first of them is written, and the lines at rest are those behind it.
abbrev pub Opened : List ℕ → LineOp → ℕ → List ℕ → Out → Out → Option (Bor (List ℕ)) → Type 0
Opened names op n ws o o' r =
    MatchOption r (Passed (opened_bytes names op n ws) o o') (λ rest. Ahead (opened_bytes names op n ws) (lines_bytes names n rest.now) o o')

-- The kind that begins at a place of the code, with its row of names.
abbrev pub held_kind : List ℕ → ℕ → List ℕ → NamedKind
held_kind code s names = record { name = unpack (slice_index names 0); numbers = names_of (take 64 (drop 1 names)); body = body_from code s }

-- The packed name of a kind, or that of no bytes if there is no such kind.
abbrev pub kind_name : List ℕ → List ℕ → ℕ → ℕ
kind_name kinds names k = cond (nat_lt k (length kinds)) (slice_index names (65 * k)) 0

-- A thing, by its kind's packed name and its numbers.
abbrev pub thing_of : ℕ → List ℕ → Thing
thing_of name numbers = record { kind = unpack name; numbers = map digits numbers }

-- The bytes of the kinds, the things and the messages.
abbrev pub kinds_bytes : List ℕ → List ℕ → List ℕ → List ℕ
kinds_bytes code kinds names = show_kinds (map kind_text (held_kinds code kinds names))

abbrev pub things_bytes : List ℕ → List ℕ → List Process → List ℕ → List ℕ
things_bytes kinds names ps vars = show_things (map (λ x. thing_of (kind_name kinds names x.kind) x.numbers) (held_things ps vars))

abbrev pub notes_bytes : List Message → List ℕ
notes_bytes ms = show_notes (map note_text (map held_note ms))

-- The bytes of the text of what lent slices hold.
abbrev pub text_bytes : List ℕ → List ℕ → List ℕ → List Process → List ℕ → List Message → List ℕ
text_bytes code kinds names ps vars ms = show (text_of (held (slices code kinds names ps vars ms)))

-- The length of bytes that are written into lent ones from the first on, if it is within the limit.
abbrev pub WritesText : List ℕ → ℕ → List ℕ → List ℕ → Option ℕ → Type 0
WritesText bs limit out out' r = MatchOption r (limit < length bs) (λ n. (n ≡ length bs) × (n ≤ limit) × (out' ≡ spill 0 bs out))

-- The answer for bytes that go into lent ones from the first on, and the lent ones after it.
abbrev pub answer : List ℕ → List ℕ → Result ℕ Refusal
answer bs out = cond (nat_le (length bs) (length out)) (Ok (length bs)) (Err (record { rule = Lent; place = 4 }))

abbrev pub after : List ℕ → List ℕ → List ℕ
after bs out = cond (nat_le (length bs) (length out)) (over bs out) out

-- The bytes are all written, or none and they are refused.
pub record Written (bs out out' : List ℕ) (r : Result ℕ Refusal) : Type 0 where
  pub answers : r ≡ answer bs out
  pub holds : out' ≡ after bs out

-- Why a text is not written into bytes of its own: it takes more of them than are allowed, and is refused as where they are lent; or there
-- was no memory.
abbrev pub Unwritten : List ℕ → ℕ → Failure → Type 0
Unwritten bs most (Refused r) = (r ≡ lent 4) × (most < length bs)
Unwritten bs most (Memory e) = Unit {0}
Unwritten bs most (Io e) = ⊥
