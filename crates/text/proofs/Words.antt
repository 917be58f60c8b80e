-- Names and numbers, byte by byte.
use Rattle.std.proofs.Common.{◌≡◌, ℕ, zero, suc, ◌+◌, ◌-◌, ◌/◌, ◌%◌, ◌<◌, ◌≤◌, eqb, ltb, [], ◌∷◌, ◌++◌, sym, refl, ap, ◌∙◌, sub-one, arith}
use Rattle.std.proofs.lemmas.Bool.{cond-true, cond-false, ne_eqb}
use Rattle.words.specs.Words.{unpack_upto}
use Rattle.text.specs.Named.{digits_upto}

pub unpack_zero : (n : ℕ) → unpack_upto n 0 ≡ []
unfolding unpack_upto
unpack_zero zero = refl
unpack_zero (suc n) = refl

pub unpack_none : (n p : ℕ) → n ≤ 0 → unpack_upto n p ≡ []
unfolding unpack_upto
unpack_none zero p h = refl
unpack_none (suc n) p h = absurd (omega arith)

step : (n p : ℕ) → 0 < n → (p ≡ 0 → ⊥) → unpack_upto n p ≡ p % 256 ∷ unpack_upto (n - 1) (p / 256)
unfolding unpack_upto
step zero p h k = absurd (omega arith)
step (suc n) p h k = cond-false (eqb p 0) _ _ (ne_eqb p 0 k) ∙ ap (λ m. p % 256 ∷ unpack_upto m (p / 256)) (sym (sub-one (suc n)))

-- After so many turns of eight.
pub unpack_more : (k p : ℕ) → k < 8 → (p ≡ 0 → ⊥) → unpack_upto (8 - k) p ≡ (p % 256 ∷ []) ++ unpack_upto (8 - (k + 1)) (p / 256)
unpack_more k p h n =
    let e : 8 - k - 1 ≡ 8 - (k + 1) = omega arith in
    step (8 - k) p (omega arith) n ∙ ap (λ m. p % 256 ∷ unpack_upto m (p / 256)) e

pub no_digits : (k n : ℕ) → k ≡ 0 → digits_upto k n ≡ []
unfolding digits_upto
no_digits zero n h = refl
no_digits (suc k) n h = absurd (omega arith)

pub one_digit : (k n : ℕ) → (k ≡ 0 → ⊥) → n < 10 → digits_upto k n ≡ (48 + n) ∷ []
unfolding digits_upto
one_digit zero n h l = absurd (h refl)
one_digit (suc k) n h l = cond-true (ltb n 10) _ _ (grind arith)

pub more_digits : (k n : ℕ) → (k ≡ 0 → ⊥) → 10 ≤ n → digits_upto k n ≡ digits_upto (k - 1) (n / 10) ++ ((48 + n % 10) ∷ [])
unfolding digits_upto
more_digits zero n h l = absurd (h refl)
more_digits (suc k) n h l = cond-false (ltb n 10) _ _ (grind arith) ∙ ap (λ m. digits_upto m (n / 10) ++ ((48 + n % 10) ∷ [])) (sym (sub-one (suc k)))
