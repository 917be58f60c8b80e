-- Where kinds, things and messages end.
use Rattle.std.proofs.Common.{zero, ◌-◌, ◌<◌, sub-one, ◌≡◌, ℕ, suc, ◌+◌, Bool, true, false, cond, eqb, List, [], ◌∷◌, length, get_or, codes, sym, refl, ap, ◌∙◌, arith}
use Rattle.std.proofs.lemmas.Bool.{ne_eqb}
use Rattle.grammar.specs.Syntax.{newline, Text, Kind, Thing, Note}
use Rattle.grammar.specs.Parse.{Got, got, bad, and_then, expect, read_name, read_number, read_next, read_row, read_upto, read_lines, read_kind, read_thing, read_note, read_notes, read_things, read_kinds, Block}
use Rattle.words.specs.Reads.{map_got}
use Rattle.words.specs.Words.{pack}
use Rattle.reader.specs.Rests.{forget, shape}
use Rattle.reader.proofs.Ends.{either, forget_then, forget_last, forget_map, forget_unit}

next_ends : (one : List ℕ → Got (List ℕ)) (go : List ℕ → Got (List (List ℕ))) (bs : List ℕ) →
    forget (read_next one go bs) ≡ either (expect newline bs) (λ c. got tt c) (and_then (expect (codes " ") bs) (λ _ c. and_then (forget (one c)) (λ _ d. forget (go d))))
unfolding expect
next_ends one go [] = refl
next_ends one go (b ∷ c) = both (eqb b 10) (eqb b 32)
  where
    item : forget (and_then (one c) (λ w d. and_then (go d) (λ ws e. got (w ∷ ws) e))) ≡ and_then (forget (one c)) (λ _ d. forget (go d))
    item = forget_then (one c) _ _ (λ w d. forget_last (go d) (λ ws. w ∷ ws))

    both : (x y : Bool) →
        forget (cond x (got [] c) (cond y (and_then (one c) (λ w d. and_then (go d) (λ ws e. got (w ∷ ws) e))) (bad (b ∷ c))))
        ≡ either (cond x (got tt c) (bad (b ∷ c))) (λ c. got tt c) (and_then (cond y (got (tt {0}) c) (bad (b ∷ c))) (λ _ c. and_then (forget (one c)) (λ _ d. forget (go d))))
    both true y = refl
    both false true = item
    both false false = refl

pub names_none : (n : ℕ) (bs : List ℕ) → n ≡ 0 → forget (read_upto read_name n bs) ≡ expect newline bs
unfolding read_upto
names_none zero bs h = forget_last (expect newline bs) (λ _. []) ∙ forget_unit (expect newline bs)
names_none (suc n) bs h = absurd (omega arith)

pub names_more : (n : ℕ) (bs : List ℕ) → 0 < n →
    forget (read_upto read_name n bs) ≡ either (expect newline bs) (λ c. got tt c) (and_then (expect (codes " ") bs) (λ _ c. and_then (forget (map_got pack (read_name c))) (λ _ d. forget (read_upto read_name (n - 1) d))))
unfolding read_upto
names_more zero bs h = absurd (omega arith)
names_more (suc m) bs h =
    rw sub-one
    (next_ends read_name (read_upto read_name m) bs
    ∙ ap (λ (one : List ℕ → Got (Unit {0})). either (expect newline bs) (λ c. got tt c) (and_then (expect (codes " ") bs) (λ _ c. and_then (one c) (λ _ d. forget (read_upto read_name m d))))) (λ i c. sym (forget_map pack (read_name c)) i))

pub numbers_none : (n : ℕ) (bs : List ℕ) → n ≡ 0 → forget (read_row read_number n bs) ≡ bad bs
unfolding read_row
numbers_none zero bs h = refl
numbers_none (suc n) bs h = absurd (omega arith)

pub numbers_more : (n : ℕ) (bs : List ℕ) → 0 < n →
    forget (read_row read_number n bs) ≡ either (expect newline bs) (λ c. got tt c) (and_then (expect (codes " ") bs) (λ _ c. and_then (forget (read_number c)) (λ _ d. forget (read_row read_number (n - 1) d))))
unfolding read_row
numbers_more zero bs h = absurd (omega arith)
numbers_more (suc m) bs h = rw sub-one (next_ends read_number (read_row read_number m) bs)

shape_only : {A : Type 0} (g : Got Block) (f : Block → A) → forget (and_then g (λ b c. got (f b) c)) ≡ and_then (shape g) (λ _ c. got tt c)
shape_only (got b c) f = refl
shape_only (bad c) f = refl

pub kind_ends : (bs : List ℕ) →
    forget (read_kind bs)
    ≡ and_then (forget (map_got pack (read_name bs))) (λ _ c. and_then (forget (read_upto read_name 64 c)) (λ _ d. and_then (shape (read_lines (length d + 1) false d)) (λ _ e. got tt e)))
kind_ends bs =
    forget_then (read_name bs) _ _ (λ w c. forget_then (read_upto read_name 64 c) _ _ (λ ws d.
    shape_only (read_lines (suc (length d)) false d) (λ b. record { name = w; numbers = ws; lines = b.lines })
    ∙ (let e : suc (length d) ≡ length d + 1 = omega arith in ap (λ n. and_then (shape (read_lines n false d)) (λ _ e. got tt e)) e)))
    ∙ ap (λ g. and_then g (λ _ c. and_then (forget (read_upto read_name 64 c)) (λ _ d. and_then (shape (read_lines (length d + 1) false d)) (λ _ e. got tt e)))) (sym (forget_map pack (read_name bs)))

pub thing_ends : (bs : List ℕ) → forget (read_thing bs) ≡ and_then (forget (map_got pack (read_name bs))) (λ _ c. forget (read_row read_number (length c + 1) c))
thing_ends bs =
    forget_then (read_name bs) _ _ (λ w c.
    forget_last (read_row read_number (suc (length c)) c) (λ ws. record { kind = w; numbers = ws })
    ∙ (let e : suc (length c) ≡ length c + 1 = omega arith in ap (λ n. forget (read_row read_number n c)) e))
    ∙ ap (λ g. and_then g (λ _ c. forget (read_row read_number (length c + 1) c))) (sym (forget_map pack (read_name bs)))

pub notes_none : (n : ℕ) (bs : List ℕ) → n ≡ 0 → forget (read_notes n bs) ≡ bad bs
unfolding read_notes
notes_none zero bs h = refl
notes_none (suc n) bs h = absurd (omega arith)

some : (b : ℕ) (bs : List ℕ) → eqb (length (b ∷ bs)) 0 ≡ false
some b bs = ne_eqb (suc (length bs)) 0 (λ e. omega arith)

pub notes_more : (n : ℕ) (bs : List ℕ) → 0 < n →
    forget (read_notes n bs)
    ≡ cond (eqb (length bs) 0) (got tt []) (and_then (forget (expect (codes "message ") bs)) (λ _ c. and_then (forget (read_note c)) (λ _ d. forget (read_notes (n - 1) d))))
unfolding read_notes
notes_more zero bs h = absurd (omega arith)
notes_more (suc m) [] h = refl
notes_more (suc m) (b ∷ bs) h =
    rw (some b bs, sub-one)
    (forget_then (expect (codes "message ") (b ∷ bs)) _ _ (λ _ c. forget_then (read_note c) _ _ (λ x d. forget_last (read_notes m d) (λ xs. x ∷ xs))))

pub things_none : (n : ℕ) (bs : List ℕ) → n ≡ 0 → forget (read_things n bs) ≡ bad bs
unfolding read_things
things_none zero bs h = refl
things_none (suc n) bs h = absurd (omega arith)

abbrev of_notes : List Note → Text
of_notes ns = record { kinds = []; things = []; notes = ns }

abbrev with_thing : Thing → Text → Text
with_thing x t = record { kinds = []; things = x ∷ t.things; notes = t.notes }

-- Where the things end the messages begin, and where the kinds end the things.
pub things_more : (n : ℕ) (bs : List ℕ) → 0 < n →
    forget (read_things n bs)
    ≡ cond (eqb (length bs) 0) (got tt [])
    (cond (eqb (get_or bs 0 0) 116) (and_then (forget (expect (codes "thing ") bs)) (λ _ c. and_then (forget (read_thing c)) (λ _ d. forget (read_things (n - 1) d)))) (forget (read_notes n bs)))
unfolding read_things
things_more zero bs h = absurd (omega arith)
things_more (suc m) [] h = refl
things_more (suc m) (b ∷ bs) h = rw (some b bs, sub-one) (both (eqb b 116))
  where
    item : forget (and_then (expect (codes "thing ") (b ∷ bs)) (λ _ c. and_then (read_thing c) (λ x d. and_then (read_things m d) (λ t e. got (with_thing x t) e))))
        ≡ and_then (forget (expect (codes "thing ") (b ∷ bs))) (λ _ c. and_then (forget (read_thing c)) (λ _ d. forget (read_things m d)))
    item = forget_then (expect (codes "thing ") (b ∷ bs)) _ _ (λ _ c. forget_then (read_thing c) _ _ (λ x d. forget_last (read_things m d) (with_thing x)))

    both : (x : Bool) →
        forget (cond x (and_then (expect (codes "thing ") (b ∷ bs)) (λ _ c. and_then (read_thing c) (λ x d. and_then (read_things m d) (λ t e. got (with_thing x t) e))))
        (and_then (read_notes (suc m) (b ∷ bs)) (λ ns c. got (of_notes ns) c)))
        ≡ cond x (and_then (forget (expect (codes "thing ") (b ∷ bs))) (λ _ c. and_then (forget (read_thing c)) (λ _ d. forget (read_things m d)))) (forget (read_notes (suc m) (b ∷ bs)))
    both true = item
    both false = forget_last (read_notes (suc m) (b ∷ bs)) of_notes

pub kinds_none : (n : ℕ) (bs : List ℕ) → n ≡ 0 → forget (read_kinds n bs) ≡ bad bs
unfolding read_kinds
kinds_none zero bs h = refl
kinds_none (suc n) bs h = absurd (omega arith)

abbrev with_kind : Kind → Text → Text
with_kind x t = record { kinds = x ∷ t.kinds; things = t.things; notes = t.notes }

pub kinds_more : (n : ℕ) (bs : List ℕ) → 0 < n →
    forget (read_kinds n bs)
    ≡ cond (eqb (length bs) 0) (got tt [])
    (cond (eqb (get_or bs 0 0) 107) (and_then (forget (expect (codes "kind ") bs)) (λ _ c. and_then (forget (read_kind c)) (λ _ d. forget (read_kinds (n - 1) d)))) (forget (read_things n bs)))
unfolding read_kinds
kinds_more zero bs h = absurd (omega arith)
kinds_more (suc m) [] h = refl
kinds_more (suc m) (b ∷ bs) h = rw (some b bs, sub-one) (both (eqb b 107))
  where
    item : forget (and_then (expect (codes "kind ") (b ∷ bs)) (λ _ c. and_then (read_kind c) (λ x d. and_then (read_kinds m d) (λ t e. got (with_kind x t) e))))
        ≡ and_then (forget (expect (codes "kind ") (b ∷ bs))) (λ _ c. and_then (forget (read_kind c)) (λ _ d. forget (read_kinds m d)))
    item = forget_then (expect (codes "kind ") (b ∷ bs)) _ _ (λ _ c. forget_then (read_kind c) _ _ (λ x d. forget_last (read_kinds m d) (with_kind x)))

    both : (x : Bool) →
        forget (cond x (and_then (expect (codes "kind ") (b ∷ bs)) (λ _ c. and_then (read_kind c) (λ x d. and_then (read_kinds m d) (λ t e. got (with_kind x t) e))))
        (read_things (suc m) (b ∷ bs)))
        ≡ cond x (and_then (forget (expect (codes "kind ") (b ∷ bs))) (λ _ c. and_then (forget (read_kind c)) (λ _ d. forget (read_kinds m d)))) (forget (read_things (suc m) (b ∷ bs)))
    both true = item
    both false = refl
