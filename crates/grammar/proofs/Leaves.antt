-- How the small readers read: bytes, words, numbers and signs.
use Rattle.std.proofs.Common.{◌≡◌, ℕ, zero, suc, ◌+◌, ◌<◌, Bool, true, false, cond, not, ◌&&◌, eqb, leb, List, [], ◌∷◌, ◌++◌, length, codes, sym, refl, ap, ◌∙◌, subst, ⊎_elim, append_assoc, append-nil, arith, length-append}
use Rattle.std.specs.List.{AllByRecursion}
use Rattle.std.proofs.lemmas.Bool.{both_ways, and_parts, and_from, and_cases, or_cases, or_parts, or_left, not-false, not_from_false, le-leb, eqb-true, cond-true, cond-false, cond_both}
use Rattle.grammar.specs.Syntax.{is_letter, is_digit, in_word, all, same, among, reserved, is_word, is_name, is_operand, is_number, Sign, plus, minus, times, over, remains, less, equal, sign_byte}
use Rattle.grammar.specs.Parse.{Got, got, bad, expect, more_word, read_word, checked, read_name, more_digits, after_zero, read_number, read_sign}
use Rattle.grammar.proofs.Reading.{Reads, Reading, GoesOn, done, fails, by_test, here, at_end, at_first, eats, sees, and_so}
use Rattle.grammar.proofs.Words.{same_is}
use Rattle.grammar.proofs.Full.{sign_full}

-- Just these bytes.
expect_on : (c p q : List ℕ) → p ++ c ≡ q → GoesOn {A = Unit {0}} (λ _. q) (λ _. Unit {0}) p
expect_on c p q h = record { more = c; value = tt; shows = h; fine = tt }

expect_reading : (e : ℕ) (c p q : List ℕ) → p ++ c ≡ q → (bs : List ℕ) → Reading (λ m bs. expect c bs) (λ _. q) (λ _. Unit {0}) p e bs (expect c bs)
unfolding expect
expect_reading e [] p q h bs = here bs (got tt bs) refl (λ b c more m r. refl) (record { shows = sym (append-nil p) ∙ h; fine = tt })
expect_reading e (x ∷ c) p q h [] = at_end (bad []) refl (expect_on (x ∷ c) p q h)
expect_reading e (x ∷ c) p q h (b ∷ bs) =
    cond_both (eqb b x) (expect c bs) (bad (b ∷ bs)) (Reading (λ m bs. expect (x ∷ c) bs) (λ _. q) (λ _. Unit {0}) p e (b ∷ bs))
    (λ t. eats b bs (expect c bs) (λ m k. cond-true (eqb b x) (expect c k) (bad (b ∷ k)) t) (omega arith)
    (expect_reading e c (p ++ b ∷ []) q (append_assoc p (b ∷ []) c ∙ ap (λ z. p ++ z ∷ c) (eqb-true b x t) ∙ h) bs))
    (λ t. at_first b bs (bad (b ∷ bs)) refl (λ m k. cond-false (eqb b x) (expect c k) (bad (b ∷ k)) t) (expect_on (x ∷ c) p q h))

pub expects : (c : List ℕ) {e n : ℕ} → Reads (λ m bs. expect c bs) (λ _. c) (λ _. Unit {0}) [] e n
expects c {e} = record { goes_on = expect_on c [] c refl; reading = λ bs l. expect_reading e c [] c refl bs }

-- Bytes as they are, which pass a test.
abbrev pub bytes : List ℕ → List ℕ
bytes w = w

abbrev pub passes : {A : Type 0} → (A → Bool) → A → Type 0
passes p w = p w ≡ true

pub all_push : (p : ℕ → Bool) (u : List ℕ) (b : ℕ) → all p u ≡ true → p b ≡ true → all p (u ++ b ∷ []) ≡ true
unfolding all
all_push p [] b h g = and_from (p b) true g refl
all_push p (x ∷ u) b h g = (let q = and_parts (p x) (all p u) h in and_from (p x) (all p (u ++ b ∷ [])) q.0 (all_push p u b q.1 g))

word_push : (w : List ℕ) (b : ℕ) → is_word w ≡ true → in_word b ≡ true → length w < 8 → is_word (w ++ b ∷ []) ≡ true
word_push [] b h g l = absurd (both_ways true (sym h) refl)
word_push (x ∷ u) b h g l =
    (let p = and_parts (is_letter x) (all in_word u && leb (length u) 7) h in
    let q = and_parts (all in_word u) (leb (length u) 7) p.1 in
    and_from (is_letter x) _ p.0
    (and_from (all in_word (u ++ b ∷ [])) _ (all_push in_word u b q.0 g) (le-leb (length (u ++ b ∷ [])) 7 (omega (arith, length-append u (b ∷ []))))))

-- The word w is whole, or goes on.
word_on : (w : List ℕ) → is_word w ≡ true → GoesOn bytes (passes is_word) w
word_on w h = record { more = []; value = w; shows = append-nil w; fine = h }

more_word_reading : (e n : ℕ) (w bs : List ℕ) → is_word w ≡ true → length w + n ≡ 8 →
    Reading (λ m bs. more_word n w bs) bytes (passes is_word) w e bs (more_word n w bs)
unfolding more_word
more_word_reading e n w [] h l = at_end (got w []) refl (record { shows = refl; fine = h })
more_word_reading e zero w (b ∷ bs) h l =
    cond_both (in_word b) (bad (b ∷ bs)) (got w (b ∷ bs)) (Reading (λ m bs. more_word zero w bs) bytes (passes is_word) w e (b ∷ bs))
    (λ t. at_first b bs (bad (b ∷ bs)) refl (λ m k. cond-true (in_word b) (bad (b ∷ k)) (got w (b ∷ k)) t) (word_on w h))
    (λ t. at_first b bs (got w (b ∷ bs)) refl (λ m k. cond-false (in_word b) (bad (b ∷ k)) (got w (b ∷ k)) t) (record { shows = refl; fine = h }))
more_word_reading e (suc n) w (b ∷ bs) h l =
    cond_both (in_word b) (more_word n (w ++ b ∷ []) bs) (got w (b ∷ bs)) (Reading (λ m bs. more_word (suc n) w bs) bytes (passes is_word) w e (b ∷ bs))
    (λ t. eats b bs (more_word n (w ++ b ∷ []) bs) (λ m k. cond-true (in_word b) (more_word n (w ++ b ∷ []) k) (got w (b ∷ k)) t) (omega arith)
    (more_word_reading e n (w ++ b ∷ []) bs (word_push w b h t (omega arith)) (omega (arith, length-append w (b ∷ [])))))
    (λ t. at_first b bs (got w (b ∷ bs)) refl (λ m k. cond-false (in_word b) (more_word n (w ++ b ∷ []) k) (got w (b ∷ k)) t) (record { shows = refl; fine = h }))

word_reading : (e : ℕ) (bs : List ℕ) → Reading (λ m bs. read_word bs) bytes (passes is_word) [] e bs (read_word bs)
unfolding read_word all
word_reading e [] = at_end (bad []) refl (record { more = 120 ∷ []; value = 120 ∷ []; shows = refl; fine = refl })
word_reading e (b ∷ bs) =
    cond_both (is_letter b) (more_word 7 (b ∷ []) bs) (bad (b ∷ bs)) (Reading (λ m bs. read_word bs) bytes (passes is_word) [] e (b ∷ bs))
    (λ t. eats b bs (more_word 7 (b ∷ []) bs) (λ m k. cond-true (is_letter b) (more_word 7 (b ∷ []) k) (bad (b ∷ k)) t) (omega arith)
    (more_word_reading e 7 (b ∷ []) bs (and_from (is_letter b) true t refl) refl))
    (λ t. at_first b bs (bad (b ∷ bs)) refl (λ m k. cond-false (is_letter b) (more_word 7 (b ∷ []) k) (bad (b ∷ k)) t)
    (record { more = 120 ∷ []; value = 120 ∷ []; shows = refl; fine = refl }))

pub words : {e n : ℕ} → Reads (λ m bs. read_word bs) bytes (passes is_word) [] e n
unfolding all
words {e} = record { goes_on = record { more = 120 ∷ []; value = 120 ∷ []; shows = refl; fine = refl }; reading = λ bs l. word_reading e bs }

-- What holds of each of these holds of one of them.
one_of : (P : List ℕ → Type 0) (w : List ℕ) (vs : List (List ℕ)) → AllByRecursion P vs → among w vs ≡ true → P w
unfolding among
one_of P w [] a h = absurd (both_ways true (sym h) refl)
one_of P w (v ∷ vs) a h = ⊎_elim (λ s. subst P (sym (same_is w v s)) a.0) (one_of P w vs a.1) (or_cases (same w v) (among w vs) h)

-- A word of the language with an x behind is a name.
pub longer : (w : List ℕ) → among w reserved ≡ true → is_name (w ++ 120 ∷ []) ≡ true
unfolding all same among
longer w h =
    one_of (λ v. is_name (v ++ 120 ∷ []) ≡ true) w reserved
    (refl, (refl, (refl, (refl, (refl, (refl, (refl, (refl, (refl, (refl, (refl, (refl, (refl, (refl, (refl, tt))))))))))))))) h

pub name_operand : (w : List ℕ) → is_name w ≡ true → is_operand w ≡ true
name_operand w h =
    (let p = and_parts (is_word w) (not (among w reserved)) h in
    and_from (is_word w) _ p.0 (or_left (not (among w reserved)) (among w (codes "it" ∷ codes "me" ∷ codes "now" ∷ [])) p.1))

-- A word that is no name, or none that may stand for a number, is one of the language's.
pub no_name : (w : List ℕ) → is_word w ≡ true → is_name w ≡ false → among w reserved ≡ true
no_name w h n =
    ⊎_elim (λ f. absurd (both_ways (is_word w) f h)) (λ f. not-false (among w reserved) f) (and_cases (is_word w) (not (among w reserved)) n)

pub no_operand : (w : List ℕ) → is_word w ≡ true → is_operand w ≡ false → among w reserved ≡ true
no_operand w h n =
    ⊎_elim (λ f. absurd (both_ways (is_word w) f h))
    (λ f. not-false (among w reserved) (or_parts (not (among w reserved)) (among w (codes "it" ∷ codes "me" ∷ codes "now" ∷ [])) f).0)
    (and_cases (is_word w) _ n)

pub names : {e n : ℕ} → Reads (λ m bs. read_name bs) bytes (passes is_name) [] e n
names =
    and_so words (λ w o. by_test (is_name w) (λ t. done w refl t)
    (λ f. fails (record { more = 120 ∷ []; value = w ++ 120 ∷ []; shows = refl; fine = longer w (no_name w o f) })))

pub operands : {e n : ℕ} → Reads (λ m bs. checked is_operand (read_word bs)) bytes (passes is_operand) [] e n
operands =
    and_so words (λ w o. by_test (is_operand w) (λ t. done w refl t)
    (λ f. fails (record { more = 120 ∷ []; value = w ++ 120 ∷ []; shows = refl; fine = name_operand (w ++ 120 ∷ []) (longer w (no_operand w o f)) })))

pub number_from : (x : ℕ) (u : List ℕ) → is_digit x ≡ true → eqb x 48 ≡ false → all is_digit u ≡ true → is_number (x ∷ u) ≡ true
number_from x u d z a =
    and_from (is_digit x) _ d (and_from (all is_digit u) _ a (or_left (not (eqb x 48)) (eqb (length u) 0) (not_from_false (eqb x 48) z)))

-- Digits behind a first one that isn't 0.
more_digits_reading : (e x : ℕ) (u bs : List ℕ) → is_digit x ≡ true → eqb x 48 ≡ false → all is_digit u ≡ true →
    Reading (λ m bs. more_digits (x ∷ u) bs) bytes (passes is_number) (x ∷ u) e bs (more_digits (x ∷ u) bs)
unfolding more_digits
more_digits_reading e x u [] d z a = at_end (got (x ∷ u) []) refl (record { shows = refl; fine = number_from x u d z a })
more_digits_reading e x u (b ∷ bs) d z a =
    cond_both (is_digit b) (more_digits (x ∷ (u ++ b ∷ [])) bs) (got (x ∷ u) (b ∷ bs))
    (Reading (λ m bs. more_digits (x ∷ u) bs) bytes (passes is_number) (x ∷ u) e (b ∷ bs))
    (λ t. eats b bs (more_digits (x ∷ (u ++ b ∷ [])) bs)
    (λ m k. cond-true (is_digit b) (more_digits (x ∷ (u ++ b ∷ [])) k) (got (x ∷ u) (b ∷ k)) t) (omega arith)
    (more_digits_reading e x (u ++ b ∷ []) bs d z (all_push is_digit u b a t)))
    (λ t. at_first b bs (got (x ∷ u) (b ∷ bs)) refl (λ m k. cond-false (is_digit b) (more_digits (x ∷ (u ++ b ∷ [])) k) (got (x ∷ u) (b ∷ k)) t)
    (record { shows = refl; fine = number_from x u d z a }))

zero_reading : (e : ℕ) (bs : List ℕ) → Reading (λ m bs. after_zero bs) bytes (passes is_number) (48 ∷ []) e bs (after_zero bs)
unfolding after_zero all
zero_reading e [] = at_end (got (48 ∷ []) []) refl (record { shows = refl; fine = refl })
zero_reading e (b ∷ bs) =
    cond_both (is_digit b) (bad (b ∷ bs)) (got (48 ∷ []) (b ∷ bs)) (Reading (λ m bs. after_zero bs) bytes (passes is_number) (48 ∷ []) e (b ∷ bs))
    (λ t. at_first b bs (bad (b ∷ bs)) refl (λ m k. cond-true (is_digit b) (bad (b ∷ k)) (got (48 ∷ []) (b ∷ k)) t)
    (record { more = []; value = 48 ∷ []; shows = refl; fine = refl }))
    (λ t. at_first b bs (got (48 ∷ []) (b ∷ bs)) refl (λ m k. cond-false (is_digit b) (bad (b ∷ k)) (got (48 ∷ []) (b ∷ k)) t)
    (record { shows = refl; fine = refl }))

zero_on : GoesOn bytes (passes is_number) []
unfolding all
zero_on = record { more = 48 ∷ []; value = 48 ∷ []; shows = refl; fine = refl }

number_reading : (e : ℕ) (bs : List ℕ) → Reading (λ m bs. read_number bs) bytes (passes is_number) [] e bs (read_number bs)
unfolding read_number all
number_reading e [] = at_end (bad []) refl zero_on
number_reading e (b ∷ bs) =
    cond_both (eqb b 48) (after_zero bs) (cond (is_digit b) (more_digits (b ∷ []) bs) (bad (b ∷ bs)))
    (Reading (λ m bs. read_number bs) bytes (passes is_number) [] e (b ∷ bs))
    (λ t. eats b bs (after_zero bs) (λ m k. cond-true (eqb b 48) (after_zero k) (cond (is_digit b) (more_digits (b ∷ []) k) (bad (b ∷ k))) t) (omega arith)
    (subst (λ z. Reading (λ m bs. after_zero bs) bytes (passes is_number) (z ∷ []) e bs (after_zero bs)) (sym (eqb-true b 48 t)) (zero_reading e bs)))
    (λ t. sees b bs (cond (is_digit b) (more_digits (b ∷ []) bs) (bad (b ∷ bs)))
    (λ m k. cond-false (eqb b 48) (after_zero k) (cond (is_digit b) (more_digits (b ∷ []) k) (bad (b ∷ k))) t) (digit t))
  where
    after : ℕ → List ℕ → Got (List ℕ)
    after m [] = bad []
    after m (b ∷ k) = cond (is_digit b) (more_digits (b ∷ []) k) (bad (b ∷ k))

    digit : eqb b 48 ≡ false → Reading after bytes (passes is_number) [] e (b ∷ bs) (cond (is_digit b) (more_digits (b ∷ []) bs) (bad (b ∷ bs)))
    digit z =
        cond_both (is_digit b) (more_digits (b ∷ []) bs) (bad (b ∷ bs)) (Reading after bytes (passes is_number) [] e (b ∷ bs))
        (λ t. eats b bs (more_digits (b ∷ []) bs) (λ m k. cond-true (is_digit b) (more_digits (b ∷ []) k) (bad (b ∷ k)) t) (omega arith)
        (more_digits_reading e b [] bs t z refl))
        (λ t. at_first b bs (bad (b ∷ bs)) refl (λ m k. cond-false (is_digit b) (more_digits (b ∷ []) k) (bad (b ∷ k)) t) zero_on)

pub numbers : {e n : ℕ} → Reads (λ m bs. read_number bs) bytes (passes is_number) [] e n
numbers {e} = record { goes_on = zero_on; reading = λ bs l. number_reading e bs }

-- The sign of an operation.
abbrev pub show_sign : Sign → List ℕ
show_sign s = sign_byte s ∷ []

sign_on : GoesOn show_sign (λ _. Unit {0}) []
sign_on = record { more = 43 ∷ []; value = plus; shows = refl; fine = tt }

sign_at : (e : ℕ) (s : Sign) (b : ℕ) (bs : List ℕ) → eqb b (sign_byte s) ≡ true → Reading (λ m bs. read_sign bs) show_sign (λ _. Unit {0}) [] e (b ∷ bs) (got s bs)
sign_at e s b bs h =
    (let q = eqb-true b (sign_byte s) h in
    eats {f = e} b bs (got s bs) (λ m k. subst (λ x. read_sign (x ∷ k) ≡ got s k) (sym q) (sign_full s k)) (omega arith)
    ((done {n = suc (length bs)} s (ap (λ x. x ∷ []) q) tt).reading bs (omega arith)))

sign_reading : (e : ℕ) (bs : List ℕ) → Reading (λ m bs. read_sign bs) show_sign (λ _. Unit {0}) [] e bs (read_sign bs)
unfolding read_sign
sign_reading e [] = at_end (bad []) refl sign_on
sign_reading e (b ∷ bs) =
    cond_both (eqb b 43) _ _ P (sign_at e plus b bs) (λ f₁. cond_both (eqb b 45) _ _ P (sign_at e minus b bs) (λ f₂.
    cond_both (eqb b 42) _ _ P (sign_at e times b bs) (λ f₃. cond_both (eqb b 47) _ _ P (sign_at e over b bs) (λ f₄.
    cond_both (eqb b 37) _ _ P (sign_at e remains b bs) (λ f₅. cond_both (eqb b 60) _ _ P (sign_at e less b bs) (λ f₆.
    cond_both (eqb b 61) _ _ P (sign_at e equal b bs) (λ f₇. at_first b bs (bad (b ∷ bs)) refl (λ m k.
    cond-false (eqb b 43) _ _ f₁ ∙ cond-false (eqb b 45) _ _ f₂ ∙ cond-false (eqb b 42) _ _ f₃ ∙ cond-false (eqb b 47) _ _ f₄
    ∙ cond-false (eqb b 37) _ _ f₅ ∙ cond-false (eqb b 60) _ _ f₆ ∙ cond-false (eqb b 61) _ _ f₇) sign_on)))))))
  where
    P : Got Sign → Type 0
    P = Reading (λ m bs. read_sign bs) show_sign (λ _. Unit {0}) [] e (b ∷ bs)

pub signs : {e n : ℕ} → Reads (λ m bs. read_sign bs) show_sign (λ _. Unit {0}) [] e n
signs {e} = record { goes_on = sign_on; reading = λ bs l. sign_reading e bs }
