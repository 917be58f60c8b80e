-- A model with the names that it was written with: what a text says, and the text of one.
use Rattle.std.specs.Prelude.{ℕ, zero, suc, ◌+◌, ◌/◌, ◌%◌, cond, List, [], ◌∷◌, ◌++◌, map, length, codes, nat_lt, slice_index_or}
use Rattle.meaning.specs.declared.Message.{Message}
use Rattle.meaning.specs.Model.{Expr, fixed, var, it, me, clock, plus, minus, times, over, remains, less, same, Body, stop, assign, draw, say, send, branch, repeat, Model}
use Rattle.grammar.specs.Syntax as text
use Rattle.grammar.specs.Syntax.{Sign, Term, number, word, two, Lines, Kind, Thing, Note, Text}
use Rattle.grammar.specs.Check.{decimal}

-- A kind: its name, its numbers' names, and what it does.
pub record NamedKind : Type 0 where
  pub name : List ℕ
  pub numbers : List (List ℕ)
  pub body : Body

-- A process: its kind, by its place among the kinds, and its variables at the start.
pub record Made : Type 0 where
  pub kind : ℕ
  pub numbers : List ℕ

-- A message from outside.
pub record Sent : Type 0 where
  pub time : ℕ
  pub to : ℕ
  pub number : ℕ

pub record Named : Type 0 where
  pub kinds : List NamedKind
  pub things : List Made
  pub notes : List Sent

-- The place of a word in a list, or the length of the list if it isn't there.
unfoldable pub index_of : List ℕ → List (List ℕ) → ℕ
index_of w [] = 0
index_of w (v ∷ vs) = cond (text.same w v) 0 (suc (index_of w vs))

abbrev pub operation : Sign → Expr → Expr → Expr
operation text.plus e f = plus e f
operation text.minus e f = minus e f
operation text.times e f = times e f
operation text.over e f = over e f
operation text.remains e f = remains e f
operation text.less e f = less e f
operation text.equal e f = same e f

-- What an expression says, where the kind's numbers have these names.
unfoldable pub expr : List (List ℕ) → Term → Expr
expr names (number ds) = fixed (decimal 0 ds)
expr names (word w) =
    cond (text.same w (codes "it")) it (cond (text.same w (codes "me")) me (cond (text.same w (codes "now")) clock (var (index_of w names))))
expr names (two s t u) = operation s (expr names t) (expr names u)

-- What lines say. A branch with no else has no lines there.
unfoldable pub body : List (List ℕ) → Lines → Body
body names text.none = stop
body names (text.assign w t ls) = assign (index_of w names) (expr names t) (body names ls)
body names (text.draw w t ls) = draw (index_of w names) (expr names t) (body names ls)
body names (text.say t ls) = say (expr names t) (body names ls)
body names (text.send t u v ls) = send (expr names v) (expr names u) (expr names t) (body names ls)
body names (text.when t b ls) = branch (expr names t) (body names b) stop (body names ls)
body names (text.choose t b c ls) = branch (expr names t) (body names b) (body names c) (body names ls)
body names (text.again t b ls) = repeat (expr names t) (body names b) (body names ls)

abbrev pub named_kind : Kind → NamedKind
named_kind k = record { name = k.name; numbers = k.numbers; body = body k.numbers k.lines }

abbrev pub made : List Kind → Thing → Made
made ks x = record { kind = index_of x.kind (map (λ k. k.name) ks); numbers = map (decimal 0) x.numbers }

abbrev pub sent : Note → Sent
sent n = record { time = decimal 0 n.time; to = decimal 0 n.to; number = decimal 0 n.number }

-- What a text says.
abbrev pub named : Text → Named
named t = record { kinds = map named_kind t.kinds; things = map (made t.kinds) t.things; notes = map sent t.notes }

-- The model, without its names.
abbrev pub model : Named → Model
model m =
    record { bodies = map (λ k. k.body) m.kinds; kinds = map (λ x. x.kind) m.things; numbers = map (λ x. x.numbers) m.things; rounds = 1000 }

-- Messages from outside are from the number behind the last process, and counted from k on.
unfoldable pub counted : ℕ → ℕ → List Sent → List Message
counted things k [] = []
counted things k (n ∷ ns) = record { time = n.time; to = n.to; from = things; count = k; number = n.number } ∷ counted things (suc k) ns

abbrev pub outside : Named → List Message
outside m = counted (length m.things) 0 m.notes

-- The digits of a number, at most k of them.
unfoldable pub digits_upto : ℕ → ℕ → List ℕ
digits_upto zero n = []
digits_upto (suc k) n = cond (nat_lt n 10) ((48 + n) ∷ []) (digits_upto k (n / 10) ++ (48 + n % 10) ∷ [])

abbrev pub digits : ℕ → List ℕ
digits n = digits_upto 20 n

-- How an expression is written.
unfoldable pub term : List (List ℕ) → Expr → Term
term names (fixed a) = number (digits a)
term names (var k) = word (slice_index_or names k [])
term names it = word (codes "it")
term names me = word (codes "me")
term names clock = word (codes "now")
term names (plus e f) = two text.plus (term names e) (term names f)
term names (minus e f) = two text.minus (term names e) (term names f)
term names (times e f) = two text.times (term names e) (term names f)
term names (over e f) = two text.over (term names e) (term names f)
term names (remains e f) = two text.remains (term names e) (term names f)
term names (less e f) = two text.less (term names e) (term names f)
term names (same e f) = two text.equal (term names e) (term names f)

-- A branch, whose else is left out if it has no lines.
abbrev pub branched : Term → Lines → Lines → Lines → Lines
branched t b text.none ls = text.when t b ls
branched t b (text.assign w u c) ls = text.choose t b (text.assign w u c) ls
branched t b (text.draw w u c) ls = text.choose t b (text.draw w u c) ls
branched t b (text.say u c) ls = text.choose t b (text.say u c) ls
branched t b (text.send u v w c) ls = text.choose t b (text.send u v w c) ls
branched t b (text.when u v c) ls = text.choose t b (text.when u v c) ls
branched t b (text.choose u v w c) ls = text.choose t b (text.choose u v w c) ls
branched t b (text.again u v c) ls = text.choose t b (text.again u v c) ls

-- How lines are written.
unfoldable pub lines : List (List ℕ) → Body → Lines
lines names stop = text.none
lines names (assign k e b) = text.assign (slice_index_or names k []) (term names e) (lines names b)
lines names (draw k e b) = text.draw (slice_index_or names k []) (term names e) (lines names b)
lines names (say e b) = text.say (term names e) (lines names b)
lines names (send g f e b) = text.send (term names e) (term names f) (term names g) (lines names b)
lines names (branch e b c rest) = branched (term names e) (lines names b) (lines names c) (lines names rest)
lines names (repeat e b rest) = text.again (term names e) (lines names b) (lines names rest)

-- The text of a model.
abbrev pub kind_text : NamedKind → Kind
kind_text k = record { name = k.name; numbers = k.numbers; lines = lines k.numbers k.body }

abbrev pub thing_text : List NamedKind → Made → Thing
thing_text ks x = record { kind = slice_index_or (map (λ k. k.name) ks) x.kind []; numbers = map digits x.numbers }

abbrev pub note_text : Sent → Note
note_text n = record { time = digits n.time; to = digits n.to; number = digits n.number }

abbrev pub text_of : Named → Text
text_of m = record { kinds = map kind_text m.kinds; things = map (thing_text m.kinds) m.things; notes = map note_text m.notes }
