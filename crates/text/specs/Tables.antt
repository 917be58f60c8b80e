-- What is written of the kinds, things and messages of a good text.
use Rattle.std.specs.Prelude.{◌≡◌, ℕ, zero, suc, ◌+◌, ◌*◌, ◌<◌, ◌≤◌, Bool, true, false, ◌&&◌, List, [], ◌∷◌, ◌++◌, map, length, drop, codes, nat_le, slice_index}
use Rattle.meaning.specs.declared.Message.{Message}
use Rattle.body.specs.declared.Process.{Process}
use Rattle.grammar.specs.Syntax.{every, Kind, Thing, Note, show_row, show_lines, show_kinds, show_things, show_notes, spelled_kind, spelled_thing, spelled_note}
use Rattle.grammar.specs.Check.{decimal}
use Rattle.grammar.specs.Rules.{small, right_note, right_kind}
use Rattle.words.specs.Words.{pack}
use Rattle.text.specs.Named.{index_of, sent, counted}
use Rattle.text.specs.Slices.{row, kind_words, words, starts, name_rows, var_rows}
use Rattle.text.specs.Writes.{Row, row_of, writes}
use Rattle.text.specs.Parts.{Packed, Room, closing}

-- A message with k behind.
abbrev pub show_note : Note → List ℕ → List ℕ
show_note n k = codes "message " ++ (n.time ++ 32 ∷ (n.to ++ 32 ∷ (n.number ++ 10 ∷ k)))

-- What is read of a message.
pub record IsNote (n : Note) (k : List ℕ) (time to number : ℕ) (bs' : List ℕ) : Type 0 where
  pub time_is : time ≡ decimal 0 n.time
  pub to_is : to ≡ decimal 0 n.to
  pub number_is : number ≡ decimal 0 n.number
  pub goes_on : bs' ≡ k

abbrev pub NoteAt : List ℕ → ℕ → ℕ → ℕ → List ℕ → Type 0
NoteAt bs time to number bs' =
    (n : Note) (k : List ℕ) → bs ≡ show_note n k → spelled_note n ≡ true → small n.time ≡ true → small n.to ≡ true → small n.number ≡ true →
    IsNote n k time to number bs'

-- Messages up to the end of the bytes, where there are so many things and messages.
abbrev pub NotesAt : List ℕ → ℕ → ℕ → List Message → List Message → Type 0
NotesAt bs things count xs xs' =
    (ns : List Note) → bs ≡ show_notes ns → every spelled_note ns ≡ true → every (right_note things) ns ≡ true → things ≤ 65536 → length ns ≡ count →
    xs' ≡ (writes (counted things 0 (map sent ns)) (row_of 0 xs)).items

-- Items in so many places, another one behind them.
unfoldable pub padded : {A : Type 0} → A → ℕ → List A → List A
padded none zero xs = []
padded none (suc n) [] = none ∷ padded none n []
padded none (suc n) (x ∷ xs) = x ∷ padded none n xs

-- A row, each entry after a space, is written into so many places.
pub record WroteRow {A : Type 0} (none : A) (bs' k : List ℕ) (width n : ℕ) (xs : List A) (r r' : Row A) : Type 0 where
  pub goes_on : bs' ≡ k
  pub width_is : width ≡ length xs
  pub written : r' ≡ writes (padded none n xs) r

abbrev pub RowAt : {A : Type 0} → (List ℕ → Bool) → (List ℕ → A) → A → List ℕ → ℕ → Row A → List ℕ → ℕ → Row A → Type 0
RowAt good value none bs n r bs' width r' =
    (ds : List (List ℕ)) (k : List ℕ) → bs ≡ show_row ds ++ 10 ∷ k → every good ds ≡ true → length ds ≤ n → WroteRow none bs' (10 ∷ k) width n (map value ds) r r'

-- The first of each 65, so many times.
unfoldable pub firsts : ℕ → List ℕ → List ℕ
firsts zero ps = []
firsts (suc n) ps = slice_index ps 0 ∷ firsts n (drop 65 ps)

-- A thing's numbers find places, and are below 2^32.
abbrev pub fit_thing : Thing → Bool
fit_thing x = nat_le (length x.numbers) 64 && every small x.numbers

-- A process at the start, where the kinds have these names.
abbrev pub process_in : List (List ℕ) → Thing → Process
process_in ks x = record { kind = index_of x.kind ks; width = length x.numbers; seed = 0; sent = 0 }

-- The things are written, and reading goes on at k.
pub record WroteThings (bs' : List ℕ) (ks : List (List ℕ)) (xs : List Thing) (k : List ℕ) (ps : List Process) (vs : List ℕ) (ps' : List Process) (vs' : List ℕ) : Type 0 where
  pub goes_on : bs' ≡ k
  pub processes_are : ps' ≡ (writes (map (process_in ks) xs) (row_of 0 ps)).items
  pub vars_are : vs' ≡ (writes (var_rows xs) (row_of 0 vs)).items

abbrev pub ThingsAt : List ℕ → ℕ → List ℕ → ℕ → List ℕ → List Process → List ℕ → List Process → List ℕ → Type 0
ThingsAt bs kinds names count bs' ps vs ps' vs' =
    (ks : List (List ℕ)) (xs : List Thing) (k : List ℕ) → Packed ks (firsts kinds names) → kinds < 4294967296 → bs ≡ show_things xs ++ k →
    every spelled_thing xs ≡ true → every fit_thing xs ≡ true → length xs ≡ count → WroteThings bs' ks xs k ps vs ps' vs'

-- A kind with k behind.
abbrev pub show_kind : Kind → List ℕ → List ℕ
show_kind x k = codes "kind " ++ (x.name ++ (show_row x.numbers ++ 10 ∷ (show_lines x.lines ++ closing false k)))

-- A kind is written, and reading goes on at k.
pub record WroteKind (bs' : List ℕ) (x : Kind) (k : List ℕ) (ns ns' c c' : Row ℕ) : Type 0 where
  pub goes_on : bs' ≡ k
  pub names_are : ns' ≡ writes (row 65 (map pack (x.name ∷ x.numbers))) ns
  pub code_is : c' ≡ writes (kind_words x) c

abbrev pub KindAt : List ℕ → Row ℕ → Row ℕ → List ℕ → Row ℕ → Row ℕ → Type 0
KindAt bs ns c bs' ns' c' =
    (x : Kind) (k : List ℕ) → bs ≡ show_kind x k → spelled_kind x ≡ true → right_kind x ≡ true → Room (kind_words x) c → ns.used + 65 ≤ length ns.items →
    WroteKind bs' x k ns ns' c c'

-- So too of all kinds.
pub record WroteKinds (bs' : List ℕ) (ks : List Kind) (k code kinds names code' kinds' names' : List ℕ) : Type 0 where
  pub goes_on : bs' ≡ k
  pub code_is : code' ≡ (writes (words ks) (row_of 0 code)).items
  pub kinds_are : kinds' ≡ (writes (starts 0 ks) (row_of 0 kinds)).items
  pub names_are : names' ≡ (writes (name_rows ks) (row_of 0 names)).items

abbrev pub KindsAt : List ℕ → ℕ → List ℕ → List ℕ → List ℕ → List ℕ → List ℕ → List ℕ → List ℕ → Type 0
KindsAt bs count bs' code kinds names code' kinds' names' =
    (ks : List Kind) (k : List ℕ) → bs ≡ show_kinds ks ++ k → every spelled_kind ks ≡ true → every right_kind ks ≡ true → length (words ks) ≤ length code →
    length (words ks) < 4294967296 → 65 * length ks ≤ length names → length ks ≡ count → WroteKinds bs' ks k code kinds names code' kinds' names'
