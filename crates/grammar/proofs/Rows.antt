-- What is checked of names, things and messages follows what is read, and what is taken keeps its rules.
use Rattle.std.proofs.Common.{◌≡◌, ℕ, zero, suc, ◌+◌, ◌<◌, ◌≤◌, Bool, true, false, cond, not, eqb, ltb, List, [], ◌∷◌, ◌++◌, map, length, Some, None, codes, Option, refl, ap, subst, arith}
use Rattle.std.proofs.lemmas.Bool.{and_from, cond-false, cond_both, not_from_false}
use Rattle.grammar.specs.Syntax.{among, is_number, newline, Note, Text, every}
use Rattle.grammar.specs.Parse.{Got, got, bad, and_then, expect, read_name, read_number, read_row, read_upto, read_thing, read_note, read_notes, read_things}
use Rattle.grammar.specs.Check.{Checked, taken, refused, then, formed, decimal, most_notes, check_new, check_names, Known, Row, broken, sooner, large_at, check_one, check_row, count_of, check_thing, check_note, check_notes, check_things}
use Rattle.grammar.specs.Rules.{small, right_thing, right_note}
use Rattle.grammar.proofs.Leaves.{expects, names, numbers}
use Rattle.grammar.proofs.Parts.{row_reads}
use Rattle.grammar.proofs.Follow.{Follows, took, off, by_test, next, then_as, then_by, leaf, asked, ruled, excess_then}
use Rattle.grammar.proofs.Fresh.{fresh}

-- A name that is new.
pub new_follows : (seen : List (List ℕ)) (bs : List ℕ) → Follows got (λ w _. not (among w seen) ≡ true) (check_new seen bs) (read_name bs)
new_follows seen bs = go (read_name bs)
  where
    go : (g : Got (List ℕ)) → Follows got (λ w _. not (among w seen) ≡ true) (then (formed g) (λ w c. cond (among w seen) (refused 2 bs) (taken w c))) g
    go (got w c) =
        cond_both (among w seen) (refused 2 bs) (taken w c) (λ r. Follows got (λ w _. not (among w seen) ≡ true) r (got w c)) (λ _. off (λ z. absurd (omega arith)))
        (λ f. took refl (not_from_false (among w seen) f))
    go (bad c) = off (λ _. refl)

pub names_follow : (seen : List (List ℕ)) (n : ℕ) (bs : List ℕ) → Follows got (λ ws _. fresh seen ws ≡ true) (check_names seen n bs) (read_upto read_name n bs)
unfolding check_names read_upto fresh
names_follow seen zero bs = leaf _ (λ n. expects newline) (λ _ c _. took refl refl)
names_follow seen (suc n) [] = off (λ _. refl)
names_follow seen (suc n) (b ∷ bs) =
    by_test (eqb b 10) (λ _. took refl refl) (λ _. by_test (eqb b 32)
    (λ _. then_by _ (λ n. names) (new_follows seen bs) (λ w c _ p. next _ (names_follow (seen ++ w ∷ []) n c) (λ ws d _ q. took refl (and_from (not (among w seen)) _ p q))))
    (λ _. off (λ _. refl)))

-- Numbers of a thing: none is too large if none is remembered as such.
abbrev pub Smalls : Option (List ℕ) → Row → List ℕ → Type 0
Smalls large r c = r.large ≡ None → (large ≡ None) × (every small r.numbers ≡ true)

broken_follows : {A B : Type 0} {X : A → List ℕ → Got B} {Q : A → List ℕ → Type 0} (large : Option (List ℕ)) (c : List ℕ) → Follows X Q (broken large c) (bad c)
broken_follows None c = off (λ _. refl)
broken_follows (Some l) c = off (λ z. absurd (omega arith))

neither : (large : Option (List ℕ)) (ds bs : List ℕ) → sooner large (large_at ds bs) ≡ None → (large ≡ None) × (small ds ≡ true)
neither None ds bs h = (refl, go (small ds) h)
  where
    go : (t : Bool) → cond t None (Some bs) ≡ None → t ≡ true
    go true h = refl
    go false h = cc
neither (Some l) ds bs h = (h, cc)

pub row_follows : (m : ℕ) (large : Option (List ℕ)) (bs : List ℕ) →
    Follows (λ r c. got r.numbers c) (Smalls large) (check_row m large bs) (read_row read_number m bs)
unfolding check_row read_row every
row_follows zero large bs = off (λ z. absurd (omega arith))
row_follows (suc m) large [] = broken_follows large []
row_follows (suc m) large (b ∷ bs) =
    by_test (eqb b 10) (λ _. took refl (λ h. (h, refl))) (λ _. by_test (eqb b 32) (λ _. one (row_follows m) (read_number bs)) (λ _. broken_follows large (b ∷ bs)))
  where
    one : ((large : Option (List ℕ)) (bs : List ℕ) → Follows (λ r c. got r.numbers c) (Smalls large) (check_row m large bs) (read_row read_number m bs)) → (g : Got (List ℕ)) →
        Follows (λ r c. got r.numbers c) (Smalls large) (check_one (check_row m) large bs g) (and_then g (λ w c. and_then (read_row read_number m c) (λ ws d. got (w ∷ ws) d)))
    one ih (got ds c) =
        next _ (ih (sooner large (large_at ds bs)) c) (λ r d _ q. took refl (λ h.
        (let x = neither large ds bs (q h).0 in (x.0, and_from (small ds) _ x.1 (q h).1))))
    one ih (bad c) = broken_follows large c

-- What is taken leaves fewer bytes.
pub record Passed (ok : Type 0) (bs c : List ℕ) : Type 0 where
  pub kept : ok
  pub less : length c < length bs

pub thing_follows : (ks : List Known) (bs : List ℕ) →
    Follows got (λ x c. Passed (right_thing ks x ≡ true) bs c) (check_thing ks bs) (and_then (expect (codes "thing ") bs) (λ _ c. read_thing c))
thing_follows ks bs =
    leaf _ (λ n. expects (codes "thing ")) (λ _ c x. leaf _ (λ n. names) (λ w d y. asked 2 c (among w (map (λ k. k.name) ks)) (λ z. omega arith) (λ a.
    then_as _ (row_reads read_number is_number (λ n. numbers) (suc (length d))) (omega arith) (row_follows (suc (length d)) None d) (λ r e z q.
    asked 3 bs (eqb (length r.numbers) (count_of w ks)) (λ z. omega arith) (λ b. counted w r e (omega arith) a b r.large (λ h. (q h).1))))))
  where
    counted : (w : List ℕ) (r : Row) (e : List ℕ) → length e < length bs → among w (map (λ k. k.name) ks) ≡ true → eqb (length r.numbers) (count_of w ks) ≡ true →
        (l : Option (List ℕ)) → (l ≡ None → every small r.numbers ≡ true) →
        Follows got (λ x c. Passed (right_thing ks x ≡ true) bs c) (elim l [ None ↦ taken (record { kind = w; numbers = r.numbers }) e | Some l ↦ refused 3 l ])
        (got (record { kind = w; numbers = r.numbers }) e)
    counted w r e l a b None q = took refl (record { kept = and_from (among w (map (λ k. k.name) ks)) _ a (and_from (eqb (length r.numbers) (count_of w ks)) _ b (q refl)); less = l })
    counted w r e l a b (Some x) q = off (λ z. absurd (omega arith))

-- A message.
pub note_follows : (things : ℕ) (bs : List ℕ) →
    Follows got (λ x c. Passed (right_note things x ≡ true) bs c) (check_note things bs) (and_then (expect (codes "message ") bs) (λ _ c. read_note c))
note_follows things bs =
    leaf _ (λ n. expects (codes "message ")) (λ _ c a. then_by _ (λ n. numbers) (ruled 3 small c (λ z. omega arith) (read_number c)) (λ t d x p.
    leaf _ (λ n. expects (codes " ")) (λ _ e b. then_by _ (λ n. numbers) (ruled 3 (λ ds. ltb (decimal 0 ds) things) e (λ z. omega arith) (read_number e)) (λ f g y q.
    leaf _ (λ n. expects (codes " ")) (λ _ h d. then_by _ (λ n. numbers) (ruled 3 small h (λ z. omega arith) (read_number h)) (λ k i z r.
    leaf _ (λ n. expects newline) (λ _ j u. took refl (record { kept = and_from (small t) _ p (and_from (ltb (decimal 0 f) things) _ q r); less = omega arith }))))))))

-- Two readings as one, and then a third.
pub grouped : {A B C D : Type 0} {X : A → List ℕ → Got D} {Q : A → List ℕ → Type 0} {r : Checked A} (g : Got B) (f : B → List ℕ → Got C) (k : C → List ℕ → Got D) →
    Follows X Q r (and_then (and_then g f) k) → Follows X Q r (and_then g (λ a c. and_then (f a c) k))
grouped (got a c) f k h = h
grouped (bad c) f k h = h

-- Messages, at most m.
record NotesKept (things m : ℕ) (xs : List Note) (c : List ℕ) : Type 0 where
  right : every (right_note things) xs ≡ true
  few : length xs ≤ m
  all_read : c ≡ []

notes_follow : (things m n : ℕ) (bs : List ℕ) → length bs < n → Follows got (NotesKept things m) (check_notes things m bs) (read_notes n bs)
unfolding check_notes read_notes every expect
notes_follow things m zero bs l = absurd (omega arith)
notes_follow things m (suc n) [] l = took refl (record { right = refl; few = omega arith; all_read = refl })
notes_follow things zero (suc n) (b ∷ bs) l =
    cond_both (eqb b 109) (refused 4 (b ∷ bs)) (refused 1 (b ∷ bs)) (λ r. Follows got (NotesKept things zero) r (read_notes (suc n) (b ∷ bs))) (λ _. off (λ z. absurd (omega arith)))
    (λ f. off (λ _. ap (λ (z : Got (Unit {0})). and_then z (λ _ c. and_then (read_note c) (λ x d. and_then (read_notes n d) (λ xs e. got (x ∷ xs) e)))) (cond-false (eqb b 109) _ _ f)))
notes_follow things (suc m) (suc n) (b ∷ bs) l =
    grouped (expect (codes "message ") (b ∷ bs)) (λ _ c. read_note c) _ (next _ (note_follows things (b ∷ bs)) (λ x c _ p.
    next _ (notes_follow things m n c (omega arith)) (λ xs d _ q. took refl (record { right = and_from (right_note things x) _ p.kept q.right; few = omega arith; all_read = q.all_read }))))

-- Things, at most m, behind so many, and messages: a text with no kinds.
pub record ThingsKept (ks : List Known) (things m : ℕ) (t : Text) (c : List ℕ) : Type 0 where
  pub no_kinds : t.kinds ≡ []
  pub right : every (right_thing ks) t.things ≡ true
  pub few : length t.things ≤ m
  pub notes_right : every (right_note (things + length t.things)) t.notes ≡ true
  pub few_notes : length t.notes ≤ most_notes
  pub all_read : c ≡ []

only_notes : (ks : List Known) (things m n : ℕ) (bs : List ℕ) → length bs < n →
    Follows got (ThingsKept ks things m) (then (check_notes things most_notes bs) (λ ns c. taken (record { kinds = []; things = []; notes = ns }) c))
    (and_then (read_notes n bs) (λ ns c. got (record { kinds = []; things = []; notes = ns }) c))
unfolding every
only_notes ks things m n bs l =
    next _ (notes_follow things most_notes n bs l) (λ ns c _ x. took refl (record {
      no_kinds = refl;
      right = refl;
      few = omega arith;
      notes_right = subst (λ z. every (right_note z) ns ≡ true) (omega arith) x.right;
      few_notes = x.few;
      all_read = x.all_read;
    }))

pub things_follow : (ks : List Known) (things m n : ℕ) (bs : List ℕ) → length bs < n →
    Follows got (ThingsKept ks things m) (check_things ks things m bs) (read_things n bs)
unfolding check_things read_things every
things_follow ks things m zero bs l = absurd (omega arith)
things_follow ks things m (suc n) [] l =
    took refl (record { no_kinds = refl; right = refl; few = omega arith; notes_right = refl; few_notes = omega arith; all_read = refl })
things_follow ks things zero (suc n) (b ∷ bs) l =
    by_test (eqb b 116)
    (λ _. grouped (expect (codes "thing ") (b ∷ bs)) (λ _ c. read_thing c) _ (excess_then (b ∷ bs) _ (thing_follows ks (b ∷ bs))))
    (λ _. only_notes ks things zero (suc n) (b ∷ bs) l)
things_follow ks things (suc m) (suc n) (b ∷ bs) l =
    by_test (eqb b 116)
    (λ _. grouped (expect (codes "thing ") (b ∷ bs)) (λ _ c. read_thing c) _ (next _ (thing_follows ks (b ∷ bs)) (λ x c _ p.
    next _ (things_follow ks (suc things) m n c (omega arith)) (λ t d _ q. took refl (record {
      no_kinds = refl;
      right = and_from (right_thing ks x) _ p.kept q.right;
      few = omega arith;
      notes_right = subst (λ z. every (right_note z) t.notes ≡ true) (omega arith) q.notes_right;
      few_notes = q.few_notes;
      all_read = q.all_read;
    })))))
    (λ _. only_notes ks things (suc m) (suc n) (b ∷ bs) l)
