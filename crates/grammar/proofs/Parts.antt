-- How rows, kinds, things, messages and whole texts are read.
use Rattle.std.proofs.Common.{◌≡◌, ℕ, zero, suc, ◌+◌, ◌<◌, Bool, true, false, ◌&&◌, eqb, leb, List, [], ◌∷◌, ◌++◌, length, codes, refl, ap, ◌∙◌, append_assoc, arith}
use Rattle.std.proofs.lemmas.Bool.{and_parts, and_from, leb-true, le-leb, eqb-true, cond-true, cond-false, cond_both}
use Rattle.grammar.specs.Syntax.{is_name, is_number, newline, Kind, Thing, Note, Text, show_lines, show_row, show_kinds, show_things, show_notes, show, every, spelled_kind, spelled_thing, spelled_note, spelled}
use Rattle.grammar.specs.Parse.{Got, got, bad, and_then, expect, read_name, read_number, read_next, read_row, read_upto, read_kind, read_thing, read_note, read_notes, read_things, read_kinds}
use Rattle.grammar.proofs.Reading.{Reads, Reading, GoesOn, done, at_end, at_first, eats, sees, behind, shift, unshift, nothing_left, weaker, by_length, then, and_so}
use Rattle.grammar.proofs.Leaves.{bytes, passes, expects, names, numbers}
use Rattle.grammar.proofs.Trees.{lines_reads, by_the_end}

abbrev pub show_line : List (List ℕ) → List ℕ
show_line ws = show_row ws ++ newline

-- A row of what is read one by one.
module _ (one : List ℕ → Got (List ℕ)) (ok : List ℕ → Bool) (reads : (n : ℕ) → Reads (λ m bs. one bs) bytes (passes ok) [] 0 n) where
  row_on : (q : List (List ℕ) → Bool) → q [] ≡ true → GoesOn show_line (passes q) []
  unfolding show_row
  row_on q h = record { more = newline; value = []; shows = refl; fine = h }

  -- What go reads passes p, and with one more before it q.
  module _
      (go : ℕ → List ℕ → Got (List (List ℕ))) (p q : List (List ℕ) → Bool) (none : q [] ≡ true)
      (more : (w : List ℕ) (ws : List (List ℕ)) → ok w ≡ true → p ws ≡ true → q (w ∷ ws) ≡ true) (n : ℕ) (r : Reads go show_line (passes p) [] 0 n) where
    one_more : Reads (λ m bs. and_then (one bs) (λ w c. and_then (go m c) (λ ws d. got (w ∷ ws) d))) show_line (passes q) (32 ∷ []) 0 n
    unfolding show_row
    one_more = and_so (reads n) (λ w o. and_so r (λ ws h. done (w ∷ ws) (simp append_assoc) (more w ws o h)))

    next_reading : (bs : List ℕ) → length bs < n + 1 → Reading (λ m. read_next one (go m)) show_line (passes q) [] 1 bs (read_next one (go n) bs)
    unfolding show_row
    next_reading [] l = at_end (bad []) refl (row_on q none)
    next_reading (b ∷ bs) l =
        cond_both (eqb b 10) _ _ P
        (λ t. eats {f = 0} b bs (got [] bs) (λ m k. cond-true (eqb b 10) _ _ t) (omega arith)
        ((done {n = n} [] (ap (λ x. x ∷ []) (eqb-true b 10 t)) none).reading bs (omega arith)))
        (λ f. cond_both (eqb b 32) _ _ P
        (λ t. eats {f = 0} b bs _ (λ m k. cond-false (eqb b 10) _ _ f ∙ cond-true (eqb b 32) _ _ t) (omega arith)
        ((behind (ap (λ x. x ∷ []) (eqb-true b 32 t)) one_more).reading bs (omega arith)))
        (λ g. at_first b bs (bad (b ∷ bs)) refl (λ m k. cond-false (eqb b 10) _ _ f ∙ cond-false (eqb b 32) _ _ g) (row_on q none)))
      where
        P : Got (List (List ℕ)) → Type 0
        P = Reading (λ m. read_next one (go m)) show_line (passes q) [] 1 (b ∷ bs)

    next_reads : Reads (λ m. read_next one (go m)) show_line (passes q) [] 1 n
    next_reads = record { goes_on = row_on q none; reading = next_reading }

  pub row_reads : (n : ℕ) → Reads (read_row one) show_line (passes (every ok)) [] 0 n
  unfolding read_row every
  row_reads zero = nothing_left (row_on (every ok) refl)
  row_reads (suc n) = shift (next_reads (read_row one) (every ok) (every ok) refl (λ w ws o h. and_from (ok w) _ o h) n (row_reads n))

  -- At most i of them.
  abbrev upto : ℕ → List (List ℕ) → Bool
  upto i ws = every ok ws && leb (length ws) i

  pub upto_reads : (i n : ℕ) → Reads (λ m bs. read_upto one i bs) show_line (passes (upto i)) [] 0 n
  unfolding read_upto show_row every
  upto_reads i zero = nothing_left (row_on (upto i) (le-leb 0 i (omega arith)))
  upto_reads zero (suc n) = and_so (expects newline) (λ _ _. done [] refl refl)
  upto_reads (suc i) (suc n) =
      shift (next_reads (λ m. read_upto one i) (upto i) (upto (suc i)) (le-leb 0 (suc i) (omega arith))
      (λ w ws o h. (let p = and_parts (every ok ws) _ h in
      and_from (ok w && every ok ws) _ (and_from (ok w) _ o p.0) (le-leb (suc (length ws)) (suc i) (omega (arith, leb-true (length ws) i p.1)))))
      n (upto_reads i n))

-- A kind behind its first word, and a thing and a message behind theirs.
unfoldable pub show_kind : Kind → List ℕ
show_kind k = k.name ++ (show_row k.numbers ++ (newline ++ (show_lines k.lines ++ (codes "end" ++ newline))))

unfoldable pub show_thing : Thing → List ℕ
show_thing t = t.kind ++ (show_row t.numbers ++ newline)

unfoldable pub show_note : Note → List ℕ
show_note n = n.time ++ (codes " " ++ (n.to ++ (codes " " ++ (n.number ++ newline))))

pub kind_reads : {e n : ℕ} → Reads (λ m bs. read_kind bs) show_kind (passes spelled_kind) [] e n
unfolding show_kind
kind_reads =
    and_so names (λ w o. and_so (by_length (upto_reads read_name is_name (λ n. names) 64)) (λ ws q. and_so (by_length (λ n. lines_reads n false)) (λ b h.
    done (record { name = w; numbers = ws; lines = b.lines }) (ap (λ z. (w ++ show_line ws) ++ z) (by_the_end b h) ∙ simp append_assoc)
    (let p = and_parts (every is_name ws) _ q in and_from (is_name w) _ o (and_from (every is_name ws) _ p.0 (and_from (leb (length ws) 64) _ p.1 h.spells))))))

pub thing_reads : {e n : ℕ} → Reads (λ m bs. read_thing bs) show_thing (passes spelled_thing) [] e n
unfolding show_thing
thing_reads =
    and_so names (λ w o. and_so (by_length (row_reads read_number is_number (λ n. numbers))) (λ ws q.
    done (record { kind = w; numbers = ws }) (simp append_assoc) (and_from (is_name w) _ o q)))

pub note_reads : {e n : ℕ} → Reads (λ m bs. read_note bs) show_note (passes spelled_note) [] e n
unfolding show_note
note_reads =
    and_so numbers (λ t o. and_so (expects (codes " ")) (λ _ _. and_so numbers (λ f p. and_so (expects (codes " ")) (λ _ _. and_so numbers (λ k q.
    and_so (expects newline) (λ _ _. done (record { time = t; to = f; number = k }) (simp append_assoc) (and_from (is_number t) _ o (and_from (is_number f) _ p q))))))))

-- Messages.
notes_on : GoesOn show_notes (passes (every spelled_note)) []
unfolding show_notes every
notes_on = record { more = []; value = []; shows = refl; fine = refl }

next_note : (n : ℕ) → Reads read_notes show_notes (passes (every spelled_note)) [] 0 n →
    Reads (λ m bs. and_then (expect (codes "message ") bs) (λ _ c. and_then (read_note c) (λ x d. and_then (read_notes m d) (λ xs e. got (x ∷ xs) e))))
    show_notes (passes (every spelled_note)) [] 1 n
unfolding show_notes show_note every
next_note n r =
    then 0 (λ _ _. omega arith) (expects (codes "message ")) (λ _ _. and_so note_reads (λ x o. and_so r (λ xs q.
    done (x ∷ xs) (simp append_assoc) (and_from (spelled_note x) _ o q))))

notes_step : (n : ℕ) → Reads read_notes show_notes (passes (every spelled_note)) [] 0 n → (bs : List ℕ) → length bs < n + 1 →
    Reading (λ m. read_notes (suc m)) show_notes (passes (every spelled_note)) [] 1 bs (read_notes (suc n) bs)
unfolding read_notes show_notes every
notes_step n r [] l = at_end (got [] []) refl (record { shows = refl; fine = refl })
notes_step n r (b ∷ bs) l = sees b bs _ (λ m k. refl) ((next_note n r).reading (b ∷ bs) l)

notes_reads : (n : ℕ) → Reads read_notes show_notes (passes (every spelled_note)) [] 0 n
notes_reads zero = nothing_left notes_on
notes_reads (suc n) = shift (record { goes_on = notes_on; reading = notes_step n (notes_reads n) })

-- Things and messages: a text with no kinds.
record NoKinds (t : Text) : Type 0 where
  none : t.kinds ≡ []
  spells : spelled t ≡ true

things_on : GoesOn show NoKinds []
unfolding show show_kinds show_things show_notes every
things_on = record { more = []; value = record { kinds = []; things = []; notes = [] }; shows = refl; fine = record { none = refl; spells = refl } }

no_kinds_shown : (t : Text) → NoKinds t → show t ≡ show_things t.things ++ show_notes t.notes
unfolding show show_kinds
no_kinds_shown t h = ap (λ ks. show_kinds ks ++ (show_things t.things ++ show_notes t.notes)) h.none

next_thing : (n : ℕ) → Reads read_things show NoKinds [] 0 n →
    Reads (λ m bs. and_then (expect (codes "thing ") bs) (λ _ c. and_then (read_thing c) (λ x d. and_then (read_things m d) (λ t e.
    got (record { kinds = []; things = x ∷ t.things; notes = t.notes }) e)))) show NoKinds [] 1 n
unfolding show show_kinds show_things show_thing every
next_thing n r =
    then 0 (λ _ _. omega arith) (expects (codes "thing ")) (λ _ _. and_so thing_reads (λ x o. and_so r (λ t q.
    (let p = and_parts (every spelled_kind t.kinds) _ q.spells in
    let s = and_parts (every spelled_thing t.things) _ p.1 in
    done (record { kinds = []; things = x ∷ t.things; notes = t.notes })
    (ap (λ z. (codes "thing " ++ show_thing x) ++ z) (no_kinds_shown t q) ∙ simp append_assoc)
    (record { none = refl; spells = and_from (spelled_thing x && every spelled_thing t.things) _ (and_from (spelled_thing x) _ o s.0) s.1 })))))

only_notes : (n : ℕ) → Reads (λ m bs. and_then (read_notes (suc m) bs) (λ ns c. got (record { kinds = []; things = []; notes = ns }) c)) show NoKinds [] 1 n
unfolding show show_kinds show_things every
only_notes n = and_so (unshift (notes_reads (suc n))) (λ ns o. done (record { kinds = []; things = []; notes = ns }) refl (record { none = refl; spells = o }))

things_step : (n : ℕ) → Reads read_things show NoKinds [] 0 n → (bs : List ℕ) → length bs < n + 1 →
    Reading (λ m. read_things (suc m)) show NoKinds [] 1 bs (read_things (suc n) bs)
unfolding read_things show show_kinds show_things show_notes every
things_step n r [] l = at_end (got (record { kinds = []; things = []; notes = [] }) []) refl (record { shows = refl; fine = record { none = refl; spells = refl } })
things_step n r (b ∷ bs) l =
    cond_both (eqb b 116) _ _ (Reading (λ m. read_things (suc m)) show NoKinds [] 1 (b ∷ bs))
    (λ t. sees b bs _ (λ m k. cond-true (eqb b 116) _ _ t) ((next_thing n r).reading (b ∷ bs) l))
    (λ t. sees b bs _ (λ m k. cond-false (eqb b 116) _ _ t) ((only_notes n).reading (b ∷ bs) l))

things_reads : (n : ℕ) → Reads read_things show NoKinds [] 0 n
things_reads zero = nothing_left things_on
things_reads (suc n) = shift (record { goes_on = things_on; reading = things_step n (things_reads n) })

-- Whole texts.
text_on : GoesOn show (passes spelled) []
text_on = record { more = things_on.more; value = things_on.value; shows = things_on.shows; fine = things_on.fine.spells }

next_kind : (n : ℕ) → Reads read_kinds show (passes spelled) [] 0 n →
    Reads (λ m bs. and_then (expect (codes "kind ") bs) (λ _ c. and_then (read_kind c) (λ x d. and_then (read_kinds m d) (λ t e.
    got (record { kinds = x ∷ t.kinds; things = t.things; notes = t.notes }) e)))) show (passes spelled) [] 1 n
unfolding show show_kinds show_kind every
next_kind n r =
    then 0 (λ _ _. omega arith) (expects (codes "kind ")) (λ _ _. and_so kind_reads (λ x o. and_so r (λ t q.
    (let p = and_parts (every spelled_kind t.kinds) _ q in
    done (record { kinds = x ∷ t.kinds; things = t.things; notes = t.notes }) (simp append_assoc)
    (and_from (spelled_kind x && every spelled_kind t.kinds) _ (and_from (spelled_kind x) _ o p.0) p.1)))))

kinds_step : (n : ℕ) → Reads read_kinds show (passes spelled) [] 0 n → (bs : List ℕ) → length bs < n + 1 →
    Reading (λ m. read_kinds (suc m)) show (passes spelled) [] 1 bs (read_kinds (suc n) bs)
unfolding read_kinds show show_kinds show_things show_notes every
kinds_step n r [] l = at_end (got (record { kinds = []; things = []; notes = [] }) []) refl (record { shows = refl; fine = refl })
kinds_step n r (b ∷ bs) l =
    cond_both (eqb b 107) _ _ (Reading (λ m. read_kinds (suc m)) show (passes spelled) [] 1 (b ∷ bs))
    (λ t. sees b bs _ (λ m k. cond-true (eqb b 107) _ _ t) ((next_kind n r).reading (b ∷ bs) l))
    (λ t. sees b bs _ (λ m k. cond-false (eqb b 107) _ _ t)
    ((weaker (λ t h. (refl, h.spells)) (unshift (things_reads (suc n)))).reading (b ∷ bs) l))

pub kinds_reads : (n : ℕ) → Reads read_kinds show (passes spelled) [] 0 n
kinds_reads zero = nothing_left text_on
kinds_reads (suc n) = shift (record { goes_on = text_on; reading = kinds_step n (kinds_reads n) })
