-- Bytes, words and numbers: what their tests tell, and that they are read whole.
use Rattle.std.proofs.Common.{◌≡◌, ℕ, zero, suc, ◌<◌, ◌≤◌, Bool, true, false, cond, not, ◌&&◌, ◌||◌, eqb, leb, ◌⊎◌, List, [], ◌∷◌, ◌++◌, length, get_or, codes, sym, refl, ap, ◌∙◌, subst, inl, inr, ⊎_elim, append_assoc, append-nil, arith}
use Rattle.std.proofs.lemmas.Bool.{both_ways, and_parts, and_from, or_cases, or_parts, or_left, or_right, not-true, leb-true, eqb-true, eq-eqb, cond-true, cond-false, cond_both}
use Rattle.std.proofs.lemmas.List.{nil_from_length}
use Rattle.std.proofs.lemmas.Bool.Decides.{nat_tests}
use Rattle.grammar.specs.Syntax.{is_letter, is_digit, in_word, all, same, among, reserved, is_word, is_name, is_operand, is_number}
use Rattle.grammar.specs.Parse.{got, bad, expect, more_word, read_word, checked, read_name, more_digits, after_zero, read_number}

-- What may stand behind a word or a number: nothing, or a byte of neither.
abbrev pub Ends : List ℕ → Type 0
Ends [] = Unit {0}
Ends (b ∷ k) = in_word b ≡ false

pub same_is : (w v : List ℕ) → same w v ≡ true → w ≡ v
unfolding same
same_is [] [] h = refl
same_is [] (c ∷ v) h = absurd (both_ways true (sym h) refl)
same_is (b ∷ w) [] h = absurd (both_ways true (sym h) refl)
same_is (b ∷ w) (c ∷ v) h =
    (let p = and_parts (eqb b c) (same w v) h in
    let q = eqb-true b c p.0 in
    let r = same_is w v p.1 in cc)

pub same_self : (w : List ℕ) → same w w ≡ true
unfolding same
same_self [] = refl
same_self (b ∷ w) = and_from (eqb b b) (same w w) (eq-eqb b b refl) (same_self w)

-- What is none of these isn't the one at i.
pub not_at : (w : List ℕ) (vs : List (List ℕ)) → among w vs ≡ false → (i : ℕ) → i < length vs → same w (get_or vs i []) ≡ false
unfolding among
not_at w [] h i l = absurd (omega arith)
not_at w (v ∷ vs) h zero l = (or_parts (same w v) (among w vs) h).0
not_at w (v ∷ vs) h (suc i) l = not_at w vs (or_parts (same w v) (among w vs) h).1 i (omega arith)

-- A name is none of the words that begin a line.
pub by_name : {A : Type 0} (w : List ℕ) (a b c d e f g h : A) → is_name w ≡ true →
    cond (same w (codes "end")) a (cond (same w (codes "else")) b (cond (same w (codes "say")) c (cond (same w (codes "send")) d (cond (same w (codes "if")) e
    (cond (same w (codes "again")) f (cond (is_name w) g h)))))) ≡ g
by_name w a b c d e f g h o =
    (let n = not-true (among w reserved) (and_parts (is_word w) (not (among w reserved)) o).1 in
    cond-false (same w (codes "end")) _ _ (not_at w reserved n 7 (omega arith)) ∙ cond-false (same w (codes "else")) _ _ (not_at w reserved n 6 (omega arith))
    ∙ cond-false (same w (codes "say")) _ _ (not_at w reserved n 1 (omega arith)) ∙ cond-false (same w (codes "send")) _ _ (not_at w reserved n 2 (omega arith))
    ∙ cond-false (same w (codes "if")) _ _ (not_at w reserved n 5 (omega arith)) ∙ cond-false (same w (codes "again")) _ _ (not_at w reserved n 8 (omega arith))
    ∙ cond-true (is_name w) _ _ o)

pub letter_in : (b : ℕ) → is_letter b ≡ true → in_word b ≡ true
letter_in b h = or_left (is_letter b) (is_digit b) h

pub digit_in : (b : ℕ) → is_digit b ≡ true → in_word b ≡ true
digit_in b h = or_right (is_letter b) (is_digit b) h

pub out_digit : (b : ℕ) → in_word b ≡ false → is_digit b ≡ false
out_digit b h = (or_parts (is_letter b) (is_digit b) h).1

pub digit_no_letter : (b : ℕ) → is_digit b ≡ true → is_letter b ≡ false
digit_no_letter b h = grind (arith, nat_tests)

pub word_no_paren : (b : ℕ) → in_word b ≡ true → eqb b 40 ≡ false
word_no_paren b h = grind (arith, nat_tests)

pub expect_full : (c k : List ℕ) → expect c (c ++ k) ≡ got tt k
unfolding expect
expect_full [] k = refl
expect_full (b ∷ c) k = cond-true (eqb b b) (expect c (c ++ k)) (bad (b ∷ (c ++ k))) (eq-eqb b b refl) ∙ expect_full c k

more_word_ends : (n : ℕ) (v k : List ℕ) → Ends k → more_word n v k ≡ got v k
unfolding more_word
more_word_ends n v [] h = refl
more_word_ends zero v (b ∷ k) h = cond-false (in_word b) (bad (b ∷ k)) (got v (b ∷ k)) h
more_word_ends (suc n) v (b ∷ k) h = cond-false (in_word b) (more_word n (v ++ b ∷ []) k) (got v (b ∷ k)) h

more_word_full : (n : ℕ) (v u k : List ℕ) → all in_word u ≡ true → length u ≤ n → Ends k → more_word n v (u ++ k) ≡ got (v ++ u) k
unfolding more_word all
more_word_full n v [] k h l e = more_word_ends n v k e ∙ ap (λ z. got z k) (sym (append-nil v))
more_word_full zero v (b ∷ u) k h l e = absurd (omega arith)
more_word_full (suc n) v (b ∷ u) k h l e =
    (let p = and_parts (in_word b) (all in_word u) h in
    cond-true (in_word b) (more_word n (v ++ b ∷ []) (u ++ k)) (got v (b ∷ (u ++ k))) p.0
    ∙ more_word_full n (v ++ b ∷ []) u k p.1 (omega arith) e ∙ ap (λ z. got z k) (append_assoc v (b ∷ []) u))

pub word_full : (w k : List ℕ) → is_word w ≡ true → Ends k → read_word (w ++ k) ≡ got w k
unfolding read_word
word_full [] k h e = absurd (both_ways true (sym h) refl)
word_full (b ∷ u) k h e =
    (let p = and_parts (is_letter b) (all in_word u && leb (length u) 7) h in
    let q = and_parts (all in_word u) (leb (length u) 7) p.1 in
    cond-true (is_letter b) (more_word 7 (b ∷ []) (u ++ k)) (bad (b ∷ (u ++ k))) p.0
    ∙ more_word_full 7 (b ∷ []) u k q.0 (leb-true (length u) 7 q.1) e)

pub checked_full : (p : List ℕ → Bool) (w k : List ℕ) → is_word w ≡ true → p w ≡ true → Ends k → checked p (read_word (w ++ k)) ≡ got w k
checked_full p w k h g e =
    ap (checked p) (word_full w k h e) ∙ cond-true (p w) (got w k) (bad k) g

pub name_full : (w k : List ℕ) → is_name w ≡ true → Ends k → read_name (w ++ k) ≡ got w k
name_full w k h e = checked_full is_name w k (and_parts (is_word w) (not (among w reserved)) h).0 h e

more_digits_ends : (v k : List ℕ) → Ends k → more_digits v k ≡ got v k
unfolding more_digits
more_digits_ends v [] h = refl
more_digits_ends v (b ∷ k) h = cond-false (is_digit b) (more_digits (v ++ b ∷ []) k) (got v (b ∷ k)) (out_digit b h)

more_digits_full : (v u k : List ℕ) → all is_digit u ≡ true → Ends k → more_digits v (u ++ k) ≡ got (v ++ u) k
unfolding more_digits all
more_digits_full v [] k h e = more_digits_ends v k e ∙ ap (λ z. got z k) (sym (append-nil v))
more_digits_full v (b ∷ u) k h e =
    (let p = and_parts (is_digit b) (all is_digit u) h in
    cond-true (is_digit b) (more_digits (v ++ b ∷ []) (u ++ k)) (got v (b ∷ (u ++ k))) p.0
    ∙ more_digits_full (v ++ b ∷ []) u k p.1 e ∙ ap (λ z. got z k) (append_assoc v (b ∷ []) u))

after_zero_ends : (k : List ℕ) → Ends k → after_zero k ≡ got (48 ∷ []) k
unfolding after_zero
after_zero_ends [] h = refl
after_zero_ends (b ∷ k) h = cond-false (is_digit b) (bad (b ∷ k)) (got (48 ∷ []) (b ∷ k)) (out_digit b h)

pub number_full : (w k : List ℕ) → is_number w ≡ true → Ends k → read_number (w ++ k) ≡ got w k
unfolding read_number
number_full [] k h e = absurd (both_ways true (sym h) refl)
number_full (b ∷ u) k h e =
    (let p = and_parts (is_digit b) (all is_digit u && (not (eqb b 48) || eqb (length u) 0)) h in
    let q = and_parts (all is_digit u) (not (eqb b 48) || eqb (length u) 0) p.1 in
    go p.0 q.0 (or_cases (not (eqb b 48)) (eqb (length u) 0) q.1))
  where
    go : is_digit b ≡ true → all is_digit u ≡ true → (not (eqb b 48) ≡ true) ⊎ (eqb (length u) 0 ≡ true) →
        cond (eqb b 48) (after_zero (u ++ k)) (cond (is_digit b) (more_digits (b ∷ []) (u ++ k)) (bad (b ∷ (u ++ k)))) ≡ got (b ∷ u) k
    go d a (inl z) =
        cond-false (eqb b 48) (after_zero (u ++ k)) (cond (is_digit b) (more_digits (b ∷ []) (u ++ k)) (bad (b ∷ (u ++ k)))) (not-true (eqb b 48) z)
        ∙ cond-true (is_digit b) (more_digits (b ∷ []) (u ++ k)) (bad (b ∷ (u ++ k))) d ∙ more_digits_full (b ∷ []) u k a e
    go d a (inr z) =
        subst (λ v. cond (eqb b 48) (after_zero (v ++ k)) (cond (is_digit b) (more_digits (b ∷ []) (v ++ k)) (bad (b ∷ (v ++ k)))) ≡ got (b ∷ v) k)
        (sym (nil_from_length u (eqb-true (length u) 0 z)))
        (cond_both (eqb b 48) (after_zero k) (cond (is_digit b) (more_digits (b ∷ []) k) (bad (b ∷ k))) (λ g. g ≡ got (b ∷ []) k)
        (λ t. after_zero_ends k e ∙ ap (λ x. got (x ∷ []) k) (sym (eqb-true b 48 t)))
        (λ t. cond-true (is_digit b) (more_digits (b ∷ []) k) (bad (b ∷ k)) d ∙ more_digits_ends (b ∷ []) k e))

-- A word that may stand for a number isn't draw.
pub operand_no_draw : (w : List ℕ) → is_operand w ≡ true → same w (codes "draw") ≡ false
unfolding same among
operand_no_draw w h =
    (let p = and_parts (is_word w) (not (among w reserved) || among w (codes "it" ∷ codes "me" ∷ codes "now" ∷ [])) h in
    go (or_cases (not (among w reserved)) (among w (codes "it" ∷ codes "me" ∷ codes "now" ∷ [])) p.1))
  where
    is_one : (v : List ℕ) → same v (codes "draw") ≡ false → same w v ≡ true → same w (codes "draw") ≡ false
    is_one v n e = subst (λ x. same x (codes "draw") ≡ false) (sym (same_is w v e)) n

    last : (same w (codes "me") ≡ true) ⊎ ((same w (codes "now") || false) ≡ true) → same w (codes "draw") ≡ false
    last (inl e) = is_one (codes "me") refl e
    last (inr e) = is_one (codes "now") refl (⊎_elim (λ x. x) (λ x. absurd (both_ways true (sym x) refl)) (or_cases (same w (codes "now")) false e))

    go : (not (among w reserved) ≡ true) ⊎ (among w (codes "it" ∷ codes "me" ∷ codes "now" ∷ []) ≡ true) → same w (codes "draw") ≡ false
    go (inl n) = not_at w reserved (not-true (among w reserved) n) 11 (omega arith)
    go (inr o) =
        ⊎_elim (is_one (codes "it") refl) (λ r. last (or_cases (same w (codes "me")) (same w (codes "now") || false) r))
        (or_cases (same w (codes "it")) (same w (codes "me") || (same w (codes "now") || false)) o)
