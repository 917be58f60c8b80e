-- Messages, one after the other.
use Rattle.std.proofs.Common.{◌≡◌, ℕ, suc, ◌+◌, ◌%◌, ◌<◌, ◌≤◌, true, ◌&&◌, ltb, List, [], ◌∷◌, ◌++◌, map, length, drop, sym, refl, ap, ◌∙◌, subst, mod-eq_of_lt, add-one, arith}
use Rattle.std.proofs.lemmas.Bool.{and_parts, and_from, ltb-true, lt-ltb}
use Rattle.std.proofs.lemmas.List.{nil_from_length}
use Rattle.meaning.specs.declared.Message.{Message}
use Rattle.grammar.specs.Syntax.{is_number, every, Note, show_notes, spelled_note}
use Rattle.grammar.specs.Check.{decimal, too_large}
use Rattle.grammar.specs.Rules.{small, right_note}
use Rattle.text.specs.Named.{sent, counted}
use Rattle.text.specs.Writes.{Row, row_of, writes}
use Rattle.text.specs.Parts.{NumberAt}
use Rattle.text.specs.Tables.{NoteAt}

pub note_by : (bs bs1 : List ℕ) (time : ℕ) (bs2 bs3 : List ℕ) (to : ℕ) (bs4 bs5 : List ℕ) (number : ℕ) (bs6 bs7 : List ℕ) → bs1 ≡ drop 8 bs → NumberAt bs1 time bs2 → bs3 ≡ drop 1 bs2 →
    NumberAt bs3 to bs4 → bs5 ≡ drop 1 bs4 → NumberAt bs5 number bs6 → bs7 ≡ drop 1 bs6 → NoteAt bs time to number bs7
note_by bs bs1 time bs2 bs3 to bs4 bs5 number bs6 bs7 e1 n1 e3 n2 e5 n3 e7 n k e s h1 h2 h3 =
    let sp = and_parts (is_number n.time) (is_number n.to && is_number n.number) s in
    let sq = and_parts (is_number n.to) (is_number n.number) sp.1 in
    let a = n1 n.time (n.to ++ 32 ∷ (n.number ++ 10 ∷ k)) 32 (e1 ∙ ap (drop 8) e) (and_from (is_number n.time) _ sp.0 h1) refl in
    let b = n2 n.to (n.number ++ 10 ∷ k) 32 (e3 ∙ ap (drop 1) a.1) (and_from (is_number n.to) _ sq.0 h2) refl in
    let c = n3 n.number k 10 (e5 ∙ ap (drop 1) b.1) (and_from (is_number n.number) _ sq.1 h3) refl in
    record { time_is = a.0; to_is = b.0; number_is = c.0; goes_on = e7 ∙ ap (drop 1) c.1 }

-- The messages that are still to be read.
pub record NotesLeft (bs : List ℕ) (things k count : ℕ) (ns : List Note) (r r0 : Row Message) : Type 0 where
  pub todo : List Note
  pub there : bs ≡ show_notes todo
  pub spelled : every spelled_note todo ≡ true
  pub right : every (right_note things) todo ≡ true
  pub many : length todo + k ≡ count
  pub same : writes (counted things k (map sent todo)) r ≡ writes (counted things 0 (map sent ns)) r0

pub notes_begin : (bs : List ℕ) (things count : ℕ) (ns : List Note) (r : Row Message) → r.used ≡ 0 → bs ≡ show_notes ns → every spelled_note ns ≡ true → every (right_note things) ns ≡ true →
    length ns ≡ count → NotesLeft bs things 0 count ns r (row_of 0 r.items)
notes_begin bs things count ns r u e s g l =
    subst (λ x. NotesLeft bs things 0 count ns (row_of x r.items) (row_of 0 r.items)) (sym u)
    (record { todo = ns; there = e; spelled = s; right = g; many = omega arith; same = refl })

small_to : (ds : List ℕ) (things : ℕ) → things ≤ 65536 → ltb (decimal 0 ds) things ≡ true → small ds ≡ true
small_to ds things h e = lt-ltb (decimal 0 ds) too_large (omega (arith, ltb-true (decimal 0 ds) things e))

abbrev msg : ℕ → ℕ → ℕ → ℕ → ℕ → Message
msg time to from count number = record { time = time; to = to; from = from; count = count; number = number }

pub notes_more : (bs : List ℕ) (things k count : ℕ) (ns : List Note) (r r0 r' : Row Message) (time to from number : ℕ) (bs' : List ℕ) → things ≤ 65536 → from ≡ things % 4294967296 → k < count →
    NoteAt bs time to number bs' → r' ≡ writes (msg time to from k number ∷ []) r → NotesLeft bs things k count ns r r0 → NotesLeft bs' things (k + 1) count ns r' r0
unfolding every show_notes counted writes
notes_more bs things k count ns r r0 r' time to from number bs' h ef lt f er left = go left.todo left.there left.spelled left.right left.many left.same
  where
    go : (todo : List Note) → bs ≡ show_notes todo → every spelled_note todo ≡ true → every (right_note things) todo ≡ true → length todo + k ≡ count →
        writes (counted things k (map sent todo)) r ≡ writes (counted things 0 (map sent ns)) r0 → NotesLeft bs' things (k + 1) count ns r' r0
    go [] e s g m q = absurd (omega arith)
    go (n ∷ todo) e s g m q =
        let sp = and_parts (spelled_note n) (every spelled_note todo) s in
        let rt = and_parts (right_note things n) (every (right_note things) todo) g in
        let r1 = and_parts (small n.time) _ rt.0 in
        let r2 = and_parts (ltb (decimal 0 n.to) things) (small n.number) r1.1 in
        let w = f n (show_notes todo) e sp.0 r1.0 (small_to n.to things h r2.0) r2.1 in
        let ff : from ≡ things = ef ∙ mod-eq_of_lt (omega arith) in
        record {
          todo = todo;
          there = w.goes_on;
          spelled = sp.1;
          right = rt.1;
          many = omega arith;
          same =
              ap (λ z. writes (counted things z (map sent todo)) r') (add-one k)
              ∙ ap (writes (counted things (suc k) (map sent todo)))
              (er ∙ ap (λ z. writes (msg z to from k number ∷ []) r) w.time_is ∙ ap (λ z. writes (msg (decimal 0 n.time) z from k number ∷ []) r) w.to_is
              ∙ ap (λ z. writes (msg (decimal 0 n.time) (decimal 0 n.to) z k number ∷ []) r) ff
              ∙ ap (λ z. writes (msg (decimal 0 n.time) (decimal 0 n.to) things k z ∷ []) r) w.number_is)
              ∙ q;
        }

pub notes_done : (bs : List ℕ) (things k count : ℕ) (ns : List Note) (r r0 : Row Message) → count ≤ k → NotesLeft bs things k count ns r r0 →
    r ≡ writes (counted things 0 (map sent ns)) r0
unfolding counted writes
notes_done bs things k count ns r r0 h left =
    let m = left.many in
    let z : left.todo ≡ [] = nil_from_length left.todo (omega arith) in
    ap (λ x. writes (counted things k (map sent x)) r) (sym z) ∙ left.same
