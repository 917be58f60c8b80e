-- Where expressions end, as equations on ends alone: what is said of the parts says it of the whole.
use Rattle.std.proofs.Common.{sym, ◌≡◌, ℕ, zero, suc, ◌+◌, ◌-◌, ◌<◌, sub-one, Bool, true, false, cond, eqb, List, [], ◌∷◌, length, codes, refl, ap, ◌∙◌, arith}
use Rattle.grammar.specs.Syntax.{Term, number, word, two, newline, is_letter, is_operand}
use Rattle.grammar.specs.Parse.{Got, got, bad, and_then, expect, checked, read_word, read_number, read_sign, read_plain, read_two, read_term, read_expr, read_last}
use Rattle.words.specs.Reads.{map_got, first_is}
use Rattle.words.specs.Words.{word_of, spelling, stands_for_number}
use Rattle.words.proofs.Packs.{word_good, spelled_again, operand_read}
use Rattle.reader.specs.Rests.{forget, read_head, read_sent}

-- One read after the other.
pub forget_then : {A B : Type 0} (g : Got A) (f : A → List ℕ → Got B) (h : List ℕ → Got (Unit {0})) → ((a : A) (c : List ℕ) → forget (f a c) ≡ h c) → forget (and_then g f) ≡ and_then (forget g) (λ _ c. h c)
forget_then (got a c) f h e = e a c
forget_then (bad c) f h e = refl

pub forget_last : {A B : Type 0} (g : Got A) (f : A → B) → forget (and_then g (λ a c. got (f a) c)) ≡ forget g
forget_last (got a c) f = refl
forget_last (bad c) f = refl

pub forget_unit : (g : Got (Unit {0})) → forget g ≡ g
forget_unit (got tt c) = refl
forget_unit (bad c) = refl

pub forget_map : {A B : Type 0} (f : A → B) (g : Got A) → forget (map_got f g) ≡ forget g
forget_map f (got a c) = refl
forget_map f (bad c) = refl

-- What stands behind just these bytes; or, where they are not in front, something else.
abbrev pub either : Got (Unit {0}) → (List ℕ → Got (Unit {0})) → Got (Unit {0}) → Got (Unit {0})
either (got u c) f g = f c
either (bad c) f g = g

pub plain_ends : (bs : List ℕ) → forget (read_plain bs) ≡ cond (first_is is_letter bs) (forget (checked is_operand (read_word bs))) (forget (read_number bs))
unfolding read_number
plain_ends [] = refl
plain_ends (b ∷ c) = both (is_letter b)
  where
    both : (l : Bool) →
        forget (cond l (and_then (checked is_operand (read_word (b ∷ c))) (λ w d. got (word w) d)) (and_then (read_number (b ∷ c)) (λ ds d. got (number ds) d)))
        ≡ cond l (forget (checked is_operand (read_word (b ∷ c)))) (forget (read_number (b ∷ c)))
    both true = forget_last (checked is_operand (read_word (b ∷ c))) word
    both false = forget_last (read_number (b ∷ c)) number

-- A word that was read, where an operand is wanted.
pub operand_ends : (bs : List ℕ) → forget (checked is_operand (read_word bs)) ≡ and_then (map_got word_of (read_word bs)) (λ k r. cond (stands_for_number k) (got tt r) (bad r))
operand_ends bs = go (read_word bs) refl
  where
    left_out : (b : Bool) (w r : List ℕ) → forget (cond b (got w r) (bad r)) ≡ cond b (got tt r) (bad r)
    left_out true w r = refl
    left_out false w r = refl

    go : (g : Got (List ℕ)) → read_word bs ≡ g → forget (checked is_operand g) ≡ and_then (map_got word_of g) (λ k r. cond (stands_for_number k) (got tt r) (bad r))
    go (got w r) e =
        let s : w ≡ spelling (word_of w) = sym (spelled_again w (word_good bs w r e)) in
        left_out (is_operand w) w r ∙ ap (λ b. cond b (got tt r) (bad r)) (ap is_operand s ∙ operand_read bs (word_of w) r (ap (map_got word_of) e))
    go (bad r) e = refl

two_ends : (go : List ℕ → Got Term) (bs : List ℕ) →
    forget (read_two go bs)
    ≡ and_then (forget (go bs)) (λ _ c. and_then (forget (expect (codes " ") c)) (λ _ d. and_then (forget (read_sign d)) (λ _ e. and_then (forget (expect (codes " ") e)) (λ _ f.
    and_then (forget (go f)) (λ _ g. forget (expect (codes ")") g))))))
two_ends go bs =
    forget_then (go bs) _ _ (λ t c. forget_then (expect (codes " ") c) _ _ (λ _ d. forget_then (read_sign d) _ _ (λ s e. forget_then (expect (codes " ") e) _ _ (λ _ f.
    forget_then (go f) _ _ (λ u g. forget_last (expect (codes ")") g) (λ _. two s t u))))))

pub term_none : (n : ℕ) (bs : List ℕ) → n ≡ 0 → forget (read_term n bs) ≡ bad bs
unfolding read_term
term_none zero bs h = refl
term_none (suc n) bs h = absurd (omega arith)

pub term_more : (n : ℕ) (bs : List ℕ) → 0 < n →
    forget (read_term n bs)
    ≡ either (expect (codes "(") bs)
    (λ c. and_then (forget (read_term (n - 1) c)) (λ _ c. and_then (forget (expect (codes " ") c)) (λ _ d. and_then (forget (read_sign d)) (λ _ e. and_then (forget (expect (codes " ") e)) (λ _ f.
    and_then (forget (read_term (n - 1) f)) (λ _ g. forget (expect (codes ")") g)))))))
    (forget (read_plain bs))
unfolding read_term expect
term_more zero bs h = absurd (omega arith)
term_more (suc m) [] h = refl
term_more (suc m) (b ∷ c) h = rw sub-one (both (eqb b 40))
  where
    both : (x : Bool) →
        forget (cond x (read_two (read_term m) c) (read_plain (b ∷ c)))
        ≡ either (cond x (got tt c) (bad (b ∷ c)))
        (λ c. and_then (forget (read_term m c)) (λ _ c. and_then (forget (expect (codes " ") c)) (λ _ d. and_then (forget (read_sign d)) (λ _ e. and_then (forget (expect (codes " ") e)) (λ _ f.
        and_then (forget (read_term m f)) (λ _ g. forget (expect (codes ")") g)))))))
        (forget (read_plain (b ∷ c)))
    both true = two_ends (read_term m) c
    both false = refl

pub expr_ends : (n : ℕ) (bs : List ℕ) → n ≡ length bs + 1 → forget (read_expr bs) ≡ forget (read_term n bs)
expr_ends n bs h = let e : suc (length bs) ≡ n = omega arith in ap (λ k. forget (read_term k bs)) e

pub last_ends : (bs : List ℕ) → forget (read_last bs) ≡ and_then (forget (read_expr bs)) (λ _ c. forget (expect newline c))
last_ends bs = forget_then (read_expr bs) _ _ (λ t c. forget_last (expect newline c) (λ _. t))

pub head_ends : (bs : List ℕ) → forget (read_head bs) ≡ and_then (forget (expect (codes " ") bs)) (λ _ c. forget (read_last c))
head_ends bs = forget_then (expect (codes " ") bs) _ _ (λ _ c. refl)

pub sent_ends : (bs : List ℕ) →
    forget (read_sent bs)
    ≡ and_then (forget (expect (codes " ") bs)) (λ _ c. and_then (forget (read_expr c)) (λ _ d. and_then (forget (expect (codes " to ") d)) (λ _ e. and_then (forget (read_expr e)) (λ _ f.
    and_then (forget (expect (codes " after ") f)) (λ _ g. forget (read_last g))))))
sent_ends bs =
    forget_then (expect (codes " ") bs) _ _ (λ _ c. forget_then (read_expr c) _ _ (λ t d. forget_then (expect (codes " to ") d) _ _ (λ _ e. forget_then (read_expr e) _ _ (λ u f.
    forget_then (expect (codes " after ") f) _ _ (λ _ g. refl)))))
