-- Digits and the numbers that they stand for: each is got from the other.
use Rattle.std.proofs.Common.{◌≡◌, ℕ, zero, suc, ◌+◌, ◌-◌, ◌*◌, ◌/◌, ◌%◌, ◌^◌, ◌<◌, ◌≤◌, Bool, true, false, not, ◌&&◌, ◌||◌, eqb, ltb, leb, ◌⊎◌, List, [], ◌∷◌, ◌++◌, length, sym, refl, ap, ◌∙◌, subst, inl, inr, ⊎_elim, pow-suc, arith}
use Rattle.std.proofs.lemmas.Bool.{both_ways, and_parts, and_from, or_cases, or_right, not-true, leb-true, le-leb, ltb-true, ltb-false, lt-ltb, le-ltb, eqb-true, eqb-false, ne_eqb, cases_lt, cond-true, cond-false, cond_both}
use Rattle.std.proofs.lemmas.List.{nil_from_length}
use Rattle.grammar.specs.Syntax.{is_digit, all, is_number}
use Rattle.grammar.specs.Check.{decimal, too_large}
use Rattle.grammar.proofs.Leaves.{all_push, number_from}
use Rattle.text.specs.Named.{digits_upto, digits}

-- One more digit at the end.
decimal_push : (a : ℕ) (ds : List ℕ) (d : ℕ) → decimal a (ds ++ d ∷ []) ≡ decimal a ds * 10 + (d - 48)
unfolding decimal
decimal_push a [] d = refl
decimal_push a (x ∷ ds) d = decimal_push (a * 10 + (x - 48)) ds d

all_front : (p : ℕ → Bool) (u : List ℕ) (b : ℕ) → all p (u ++ b ∷ []) ≡ true → (all p u ≡ true) × (p b ≡ true)
unfolding all
all_front p [] b h = (refl, (and_parts (p b) true h).0)
all_front p (x ∷ u) b h =
    (let q = and_parts (p x) (all p (u ++ b ∷ [])) h in
    let r = all_front p u b q.1 in (and_from (p x) (all p u) q.0 r.0, r.1))

-- What digits that are a number tell of the first of them.
first_digit : (b : ℕ) (bs : List ℕ) → is_number (b ∷ bs) ≡ true → (is_digit b ≡ true) × (all is_digit bs ≡ true) × ((eqb b 48 ≡ false) ⊎ (bs ≡ []))
first_digit b bs h =
    (let p = and_parts (is_digit b) (all is_digit bs && (not (eqb b 48) || eqb (length bs) 0)) h in
    let q = and_parts (all is_digit bs) (not (eqb b 48) || eqb (length bs) 0) p.1 in
    (p.0, q.0, ⊎_elim (λ t. inl (not-true (eqb b 48) t)) (λ t. inr (nil_from_length bs (eqb-true (length bs) 0 t))) (or_cases (not (eqb b 48)) (eqb (length bs) 0) q.1)))

digit_from : (n : ℕ) → n < 10 → is_digit (48 + n) ≡ true
digit_from n h = and_from (leb 48 (48 + n)) (leb (48 + n) 57) (le-leb 48 (48 + n) (omega arith)) (le-leb (48 + n) 57 (omega arith))

digit_low : (d : ℕ) → is_digit d ≡ true → (48 ≤ d) × (d ≤ 57)
digit_low d h = (let p = and_parts (leb 48 d) (leb d 57) h in (leb-true 48 d p.0, leb-true d 57 p.1))

-- A digit behind a number that isn't 0.
number_push : (ds : List ℕ) (d : ℕ) → is_number ds ≡ true → 0 < decimal 0 ds → is_digit d ≡ true → is_number (ds ++ d ∷ []) ≡ true
unfolding decimal
number_push [] d h z g = absurd (both_ways true (sym h) refl)
number_push (b ∷ bs) d h z g =
    (let p = first_digit b bs h in
    number_from b (bs ++ d ∷ []) p.0 (⊎_elim (λ t. t) alone p.2) (all_push is_digit bs d p.1 g))
  where
    alone : bs ≡ [] → eqb b 48 ≡ false
    alone e = (let y = subst (λ (u : List ℕ). 0 < decimal (0 * 10 + (b - 48)) u) e z in ne_eqb b 48 (λ q. omega arith))

-- The digits of a number below 10^k stand for it.
decimal_upto : (k n : ℕ) → n < 10 ^ k → decimal 0 (digits_upto k n) ≡ n
unfolding digits_upto decimal
decimal_upto zero n h = omega arith
decimal_upto (suc k) n h =
    cond_both (ltb n 10) ((48 + n) ∷ []) (digits_upto k (n / 10) ++ (48 + n % 10) ∷ []) (λ ds. decimal 0 ds ≡ n)
    (λ t. omega arith)
    (λ t. decimal_push 0 (digits_upto k (n / 10)) (48 + n % 10)
    ∙ (let p = decimal_upto k (n / 10) (omega (arith, pow-suc 10 k)) in omega arith))

one_digit : (n : ℕ) → n < 10 → is_number ((48 + n) ∷ []) ≡ true
unfolding all
one_digit n h = and_from (is_digit (48 + n)) _ (digit_from n h) (or_right (not (eqb (48 + n) 48)) true refl)

number_upto : (k n : ℕ) → n < 10 ^ suc k → is_number (digits_upto (suc k) n) ≡ true
unfolding digits_upto decimal all
number_upto zero n h =
    cond_both (ltb n 10) ((48 + n) ∷ []) (digits_upto zero (n / 10) ++ (48 + n % 10) ∷ []) (λ ds. is_number ds ≡ true)
    (λ t. one_digit n (ltb-true n 10 t))
    (λ t. absurd (omega (arith, ltb-false n 10 t, pow-suc 10 0)))
number_upto (suc k) n h =
    cond_both (ltb n 10) ((48 + n) ∷ []) (digits_upto (suc k) (n / 10) ++ (48 + n % 10) ∷ []) (λ ds. is_number ds ≡ true)
    (λ t. one_digit n (ltb-true n 10 t))
    (λ t. number_push (digits_upto (suc k) (n / 10)) (48 + n % 10) (number_upto k (n / 10) (omega (arith, pow-suc 10 (suc k))))
    (omega (arith, ltb-false n 10 t, decimal_upto (suc k) (n / 10) (omega (arith, pow-suc 10 (suc k)))))
    (digit_from (n % 10) (omega arith)))

-- A digit behind others that are a number which isn't 0; more than one digit are so.
record Pushed (ds : List ℕ) : Type 0 where
  front : List ℕ
  last : ℕ
  joined : ds ≡ front ++ last ∷ []
  number : is_number front ≡ true
  positive : 0 < decimal 0 front
  digit : is_digit last ≡ true

parts : (x : ℕ) (bs : List ℕ) → (us : List ℕ) × (y : ℕ) × (x ∷ bs ≡ us ++ y ∷ [])
parts x [] = ([], x, refl)
parts x (c ∷ bs) = (let p = parts c bs in (x ∷ p.0, p.1, ap (λ z. x ∷ z) p.2))

-- Digits behind those that stand for a stand for no less.
grows : (a : ℕ) (ds : List ℕ) → a ≤ decimal a ds
unfolding decimal
grows a [] = omega arith
grows a (d ∷ ds) = omega (arith, grows (a * 10 + (d - 48)) ds)

last_digit : (b : ℕ) (bs : List ℕ) → is_number (b ∷ bs) ≡ true → (bs ≡ []) ⊎ Pushed (b ∷ bs)
unfolding decimal
last_digit b [] h = inl refl
last_digit b (c ∷ bs) h =
    inr (go (parts c bs).0 (parts c bs).1 (parts c bs).2)
  where
    not_zero : (eqb b 48 ≡ false) ⊎ (c ∷ bs ≡ []) → eqb b 48 ≡ false
    not_zero (inl t) = t
    not_zero (inr e) = absurd (let z : ◌≡◌ {A = ℕ} 0 1 = cc in omega arith)

    above : is_digit b ≡ true → eqb b 48 ≡ false → 48 < b
    above d z = (let low = digit_low b d in ⊎_elim (λ (l : b < 49). absurd (eqb-false b 48 z (omega arith))) (λ l. l) (cases_lt b 49))

    go : (us : List ℕ) (y : ℕ) → c ∷ bs ≡ us ++ y ∷ [] → Pushed (b ∷ c ∷ bs)
    go us y e =
        (let p = first_digit b (c ∷ bs) h in
        let z = not_zero p.2 in
        let a = all_front is_digit us y (subst (λ u. all is_digit u ≡ true) e p.1) in
        let l = above p.0 z in
        record {
          front = b ∷ us;
          last = y;
          joined = ap (λ u. b ∷ u) e;
          number = number_from b us p.0 z a.0;
          positive = omega (arith, grows (0 * 10 + (b - 48)) us);
          digit = a.1;
        })

-- The digits of ten times q, and r.
digits_push : (k q r : ℕ) → 0 < q → r < 10 → digits_upto (suc k) (q * 10 + r) ≡ digits_upto k q ++ (48 + r) ∷ []
unfolding digits_upto
digits_push k q r h l =
    cond-false (ltb (q * 10 + r) 10) ((48 + (q * 10 + r)) ∷ []) (digits_upto k ((q * 10 + r) / 10) ++ (48 + (q * 10 + r) % 10) ∷ [])
    (le-ltb (q * 10 + r) 10 (omega arith))
    ∙ (let a : (q * 10 + r) / 10 ≡ q = omega arith in let b : (q * 10 + r) % 10 ≡ r = omega arith in cc)

digits_one : (k : ℕ) (b : ℕ) (bs : List ℕ) → is_number (b ∷ bs) ≡ true → bs ≡ [] → digits_upto (suc k) (decimal 0 (b ∷ bs)) ≡ b ∷ bs
unfolding digits_upto decimal
digits_one k b bs h e =
    (let low = digit_low b (first_digit b bs h).0 in
    let n : 0 * 10 + (b - 48) ≡ b - 48 = omega arith in
    let m : 48 + (b - 48) ≡ b = omega arith in
    subst (λ (us : List ℕ). digits_upto (suc k) (decimal (0 * 10 + (b - 48)) us) ≡ b ∷ us) (sym e)
    (cond-true (ltb (0 * 10 + (b - 48)) 10) ((48 + (0 * 10 + (b - 48))) ∷ []) (digits_upto k ((0 * 10 + (b - 48)) / 10) ++ (48 + (0 * 10 + (b - 48)) % 10) ∷ [])
    (lt-ltb (0 * 10 + (b - 48)) 10 (omega arith)) ∙ cc))

digits_more : (k : ℕ) (ds : List ℕ) (p : Pushed ds) → digits_upto k (decimal 0 p.front) ≡ p.front → digits_upto (suc k) (decimal 0 ds) ≡ ds
digits_more k ds p h =
    (let low = digit_low p.last p.digit in
    let a = decimal_push 0 p.front p.last in
    let b = digits_push k (decimal 0 p.front) (p.last - 48) p.positive (omega arith) in
    let m : 48 + (p.last - 48) ≡ p.last = omega arith in
    let j = p.joined in cc)

-- Digits that are a number below 10^(k + 1) are those of what they stand for.
digits_of : (k : ℕ) (ds : List ℕ) → is_number ds ≡ true → decimal 0 ds < 10 ^ suc k → digits_upto (suc k) (decimal 0 ds) ≡ ds
digits_of k [] h l = absurd (both_ways true (sym h) refl)
digits_of zero (b ∷ bs) h l =
    ⊎_elim (digits_one zero b bs h)
    (λ p. absurd (let z = p.positive in omega (arith, ap (decimal 0) p.joined, decimal_push 0 p.front p.last))) (last_digit b bs h)
digits_of (suc k) (b ∷ bs) h l =
    ⊎_elim (digits_one (suc k) b bs h)
    (λ p. digits_more (suc k) (b ∷ bs) p (digits_of k p.front p.number
    (omega (arith, pow-suc 10 (suc k), ap (decimal 0) p.joined, decimal_push 0 p.front p.last)))) (last_digit b bs h)

-- Of numbers below 2^32.
pub decimal_digits : (n : ℕ) → n < too_large → decimal 0 (digits n) ≡ n
decimal_digits n h = decimal_upto 20 n (omega arith)

pub number_digits : (n : ℕ) → n < too_large → is_number (digits n) ≡ true
number_digits n h = number_upto 19 n (omega arith)

pub digits_decimal : (ds : List ℕ) → is_number ds ≡ true → decimal 0 ds < too_large → digits (decimal 0 ds) ≡ ds
digits_decimal ds h l = digits_of 19 ds h (omega arith)
