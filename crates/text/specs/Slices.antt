-- What lent slices hold of a model: words, where each kind's words begin, names, processes with their variables, and messages.
use Rattle.std.specs.Prelude.{ℕ, ◌+◌, ◌*◌, min, Bool, cond, ◌&&◌, List, [], ◌∷◌, ◌++◌, map, length, take, drop, replicate, ◌==◌, nat_le, slice_index}
use Rattle.meaning.specs.declared.Message.{Message}
use Rattle.body.specs.declared.Process.{Process}
use Rattle.body.specs.Encode.{encode}
use Rattle.sequential.specs.Memory.{body_from}
use Rattle.grammar.specs.Syntax.{Kind, Thing, Text, show_kinds}
use Rattle.grammar.specs.Check.{decimal}
use Rattle.words.specs.Words.{pack, unpack}
use Rattle.text.specs.Named.{NamedKind, Made, Sent, Named, body, made, sent, counted}

-- All that is lent.
pub record Slices : Type 0 where
  pub code : List ℕ
  pub kinds : List ℕ
  pub names : List ℕ
  pub processes : List Process
  pub vars : List ℕ
  pub messages : List Message

abbrev pub slices : List ℕ → List ℕ → List ℕ → List Process → List ℕ → List Message → Slices
slices code kinds names ps vars ms = record { code = code; kinds = kinds; names = names; processes = ps; vars = vars; messages = ms }

-- A row of n places: xs, and 0 behind.
abbrev pub row : ℕ → List ℕ → List ℕ
row n xs = take n (xs ++ replicate n 0)

-- The first places hold xs, the others what they held.
abbrev pub over : {A : Type 0} → List A → List A → List A
over xs ys = xs ++ drop (length xs) ys

-- The words of the kinds, one kind behind the other.
abbrev pub kind_words : Kind → List ℕ
kind_words k = encode (body k.numbers k.lines)

unfoldable pub words : List Kind → List ℕ
words [] = []
words (k ∷ ks) = kind_words k ++ words ks

-- Where the words of each begin, the first at a place.
unfoldable pub starts : ℕ → List Kind → List ℕ
starts at [] = []
starts at (k ∷ ks) = at ∷ starts (at + length (kind_words k)) ks

-- The packed names of each kind in 65 places: its own, and its numbers'.
unfoldable pub name_rows : List Kind → List ℕ
name_rows [] = []
name_rows (k ∷ ks) = row 65 (map pack (k.name ∷ k.numbers)) ++ name_rows ks

-- A process at the start, before it has a seed.
abbrev pub process_of : List Kind → Thing → Process
process_of ks x = record { kind = (made ks x).kind; width = length x.numbers; seed = 0; sent = 0 }

-- The variables of each process in 64 places.
unfoldable pub var_rows : List Thing → List ℕ
var_rows [] = []
var_rows (x ∷ xs) = row 64 (map (decimal 0) x.numbers) ++ var_rows xs

-- Lent slices as a text fills them.
abbrev pub filled : Text → Slices → Slices
filled t s =
    record {
      code = over (words t.kinds) s.code;
      kinds = over (starts 0 t.kinds) s.kinds;
      names = over (name_rows t.kinds) s.names;
      processes = over (map (process_of t.kinds) t.things) s.processes;
      vars = over (var_rows t.things) s.vars;
      messages = over (counted (length t.things) 0 (map sent t.notes)) s.messages;
    }

-- Whether lent slices are long enough for a text: a word for each byte of the kinds' lines, and the rows of its kinds, things and messages.
abbrev pub roomy : Text → Slices → Bool
roomy t s =
    nat_le (length (show_kinds t.kinds)) (length s.code) && (nat_le (length t.kinds) (length s.kinds) && (nat_le (65 * length t.kinds) (length s.names)
    && (nat_le (length t.things) (length s.processes) && (nat_le (64 * length t.things) (length s.vars) && nat_le (length t.notes) (length s.messages)))))

-- The names in a row, up to the first 0.
unfoldable pub names_of : List ℕ → List (List ℕ)
names_of [] = []
names_of (p ∷ ps) = cond (p == 0) [] (unpack p ∷ names_of ps)

-- The kinds that begin at these places of the code, with their rows of names.
unfoldable pub held_kinds : List ℕ → List ℕ → List ℕ → List NamedKind
held_kinds code [] names = []
held_kinds code (s ∷ ss) names =
    record { name = unpack (slice_index names 0); numbers = names_of (take 64 (drop 1 names)); body = body_from code s } ∷ held_kinds code ss (drop 65 names)

-- The processes, with their rows of variables.
unfoldable pub held_things : List Process → List ℕ → List Made
held_things [] vars = []
held_things (p ∷ ps) vars = record { kind = p.kind; numbers = take (min p.width 64) vars } ∷ held_things ps (drop 64 vars)

abbrev pub held_note : Message → Sent
held_note x = record { time = x.time; to = x.to; number = x.number }

-- The model that lent slices hold, where all places of kinds, processes and messages are in use.
abbrev pub held : Slices → Named
held s = record { kinds = held_kinds s.code s.kinds s.names; things = held_things s.processes s.vars; notes = map held_note s.messages }

-- The part in use: so many kinds, processes and messages.
abbrev pub used : ℕ → ℕ → ℕ → Slices → Slices
used k n m s =
    record { code = s.code; kinds = take k s.kinds; names = s.names; processes = take n s.processes; vars = s.vars; messages = take m s.messages }
