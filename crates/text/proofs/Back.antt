-- What is written is read back.
use Rattle.std.proofs.Common.{◌≡◌, ℕ, zero, suc, ◌+◌, ◌-◌, ◌*◌, ◌/◌, ◌%◌, ◌^◌, ◌<◌, ◌≤◌, Bool, true, not, ◌&&◌, ◌||◌, eqb, leb, ◌⊎◌, List, [], ◌∷◌, ◌++◌, length, refl, ap, ◌∙◌, inl, inr, pow-suc, arith}
use Rattle.std.proofs.lemmas.Bool.{cases_lt, and_parts, and_from, or_left, or_right, not_from_false, ne_eqb, le-leb}
use Rattle.grammar.specs.Syntax.{is_digit, is_number, all}
use Rattle.grammar.specs.Check.{decimal}
use Rattle.text.specs.Named.{digits, digits_upto}
use Rattle.text.specs.Promise.{DigitsRead}
use Rattle.text.proofs.Words.{one_digit, more_digits}

decimal_append : (a : ℕ) (xs ys : List ℕ) → decimal a (xs ++ ys) ≡ decimal (decimal a xs) ys
unfolding decimal
decimal_append a [] ys = refl
decimal_append a (x ∷ xs) ys = decimal_append (a * 10 + (x - 48)) xs ys

decimal_one : (a d : ℕ) → decimal a ((48 + d) ∷ []) ≡ a * 10 + d
unfolding decimal
decimal_one a d = let e : 48 + d - 48 ≡ d = omega arith in ap (λ x. a * 10 + x) e

all_push : (p : ℕ → Bool) (xs : List ℕ) (y : ℕ) → all p xs ≡ true → p y ≡ true → all p (xs ++ (y ∷ [])) ≡ true
unfolding all
all_push p [] y h k = and_from (p y) true k refl
all_push p (x ∷ xs) y h k = and_from (p x) (all p (xs ++ (y ∷ []))) (and_parts (p x) (all p xs) h).0 (all_push p xs y (and_parts (p x) (all p xs) h).1 k)

a_digit : (d : ℕ) → d < 10 → is_digit (48 + d) ≡ true
a_digit d h = and_from (leb 48 (48 + d)) (leb (48 + d) 57) (le-leb _ _ (omega arith)) (le-leb _ _ (omega arith))

-- The digits of n: the first of them isn't 0 unless n is, and a number below ten has one.
record Shape (n : ℕ) (ds : List ℕ) : Type 0 where
  pub first : ℕ
  pub others : List ℕ
  pub are : ds ≡ first ∷ others
  pub first_is : is_digit first ≡ true
  pub others_are : all is_digit others ≡ true
  pub no_zero : 0 < n → first ≡ 48 → ⊥
  pub alone : n < 10 → others ≡ []
  pub value_is : decimal 0 ds ≡ n

tenth : (k n : ℕ) → n < 10 ^ suc k → n / 10 < 10 ^ k
tenth k n h = let e = pow-suc 10 k in omega arith

-- A number of ten or more has more than one digit.
more_left : (k n : ℕ) → n < 10 ^ suc k → 10 ≤ n → 0 < k
more_left zero n h l = absurd (omega arith)
more_left (suc k) n h l = omega arith

shape_one : (k n : ℕ) → n < 10 → Shape n (digits_upto (suc k) n)
unfolding all
shape_one k n l =
    let e : digits_upto (suc k) n ≡ (48 + n) ∷ [] = one_digit (suc k) n (λ z. omega arith) l in
    record {
      first = 48 + n;
      others = [];
      are = e;
      first_is = a_digit n l;
      others_are = refl;
      no_zero = λ h z. omega arith;
      alone = λ _. refl;
      value_is = ap (decimal 0) e ∙ decimal_one 0 n ∙ (let z : 0 * 10 + n ≡ n = omega arith in z);
    }

shape_more : (k n : ℕ) → 10 ≤ n → Shape (n / 10) (digits_upto k (n / 10)) → Shape n (digits_upto (suc k) n)
shape_more k n l s =
    let m : suc k - 1 ≡ k = omega arith in
    let e : digits_upto (suc k) n ≡ digits_upto k (n / 10) ++ ((48 + n % 10) ∷ []) =
    more_digits (suc k) n (λ z. omega arith) l ∙ ap (λ j. digits_upto j (n / 10) ++ ((48 + n % 10) ∷ [])) m in
    record {
      first = s.first;
      others = s.others ++ ((48 + n % 10) ∷ []);
      are = e ∙ ap (λ ds. ds ++ ((48 + n % 10) ∷ [])) s.are;
      first_is = s.first_is;
      others_are = all_push is_digit s.others (48 + n % 10) s.others_are (a_digit (n % 10) (omega arith));
      no_zero = λ h z. s.no_zero (omega arith) z;
      alone = λ h. absurd (omega arith);
      value_is =
          ap (decimal 0) e ∙ decimal_append 0 (digits_upto k (n / 10)) ((48 + n % 10) ∷ []) ∙ decimal_one (decimal 0 (digits_upto k (n / 10))) (n % 10)
          ∙ ap (λ x. x * 10 + n % 10) s.value_is ∙ (let z : n / 10 * 10 + n % 10 ≡ n = omega arith in z);
    }

shape : (k n : ℕ) → n < 10 ^ k → 0 < k → (n < 10) ⊎ (10 ≤ n) → Shape n (digits_upto k n)
shape zero n h p c = absurd (omega arith)
shape (suc k) n h p (inl l) = shape_one k n l
shape (suc k) n h p (inr l) = shape_more k n l (shape k (n / 10) (tenth k n h) (more_left k n h l) (cases_lt (n / 10) 10))

number_of : (n : ℕ) (ds : List ℕ) → Shape n ds → (n < 10) ⊎ (10 ≤ n) → is_number ds ≡ true
number_of n ds s c =
    let one : (not (eqb s.first 48) || eqb (length s.others) 0) ≡ true =
    elim c [
      | inl l ↦ or_right (not (eqb s.first 48)) (eqb (length s.others) 0) (ap (λ xs. eqb (length xs) 0) (s.alone l))
      | inr l ↦ or_left (not (eqb s.first 48)) (eqb (length s.others) 0) (not_from_false (eqb s.first 48) (ne_eqb s.first 48 (s.no_zero (omega arith))))
    ] in
    ap is_number s.are
    ∙ and_from (is_digit s.first) (all is_digit s.others && (not (eqb s.first 48) || eqb (length s.others) 0)) s.first_is
    (and_from (all is_digit s.others) (not (eqb s.first 48) || eqb (length s.others) 0) s.others_are one)

pub digits_read : DigitsRead
digits_read n h =
    let l : n < 10 ^ 20 = omega arith in
    let s = shape 20 n l (omega arith) (cases_lt n 10) in
    (s.value_is, number_of n (digits n) s (cases_lt n 10))
