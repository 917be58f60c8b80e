-- Literals, words, numbers and signs at the front of bytes, by how far they go.
use Rattle.std.proofs.Common.{⊎_elim, ◌≡◌, ℕ, zero, suc, ◌+◌, ◌<◌, ◌≤◌, Bool, true, false, cond, eqb, List, [], ◌∷◌, ◌++◌, length, get_or, take, drop, Some, None, Option, sym, refl, ap, ◌∙◌, append_assoc, append-nil, arith}
use Rattle.std.proofs.lemmas.List.{drop_more, drop_all}
use Rattle.std.proofs.lemmas.Bool.{cases_Bool, eq-eqb, ne_eqb, eqb-true, both_ways, cond-true, cond-false, cond_both}
use Rattle.std.specs.List.{prefix_len}
use Rattle.grammar.specs.Syntax.{is_letter, is_digit, in_word, plus, minus, times, over, remains, less, equal}
use Rattle.grammar.specs.Parse.{Got, got, bad, expect, more_word, read_word, more_digits, after_zero, read_number, read_sign}
use Rattle.grammar.proofs.Words.{letter_in}
use Rattle.words.specs.declared.Sign.{Sign}
use Rattle.words.specs.declared.Sign.TheVariants.{Plus, Minus, Times, Over, Remains, Less, Equal}
use Rattle.words.specs.Reads.{map_got, first_is, sign_by, sign_of}

-- One byte more of a literal, from byte i of it on.
pub expect_more : (cs : List ℕ) (i b : ℕ) (bs : List ℕ) → i < length cs → b ≡ get_or cs i 0 → expect (drop i cs) (b ∷ bs) ≡ expect (drop (i + 1) cs) bs
unfolding expect
expect_more cs i b bs h e = ap (λ c. expect c (b ∷ bs)) (drop_more cs i 0 h) ∙ cond-true (eqb b (get_or cs i 0)) _ _ (eq-eqb _ _ e)

pub expect_other : (cs : List ℕ) (i b : ℕ) (bs : List ℕ) → i < length cs → (b ≡ get_or cs i 0 → ⊥) → expect (drop i cs) (b ∷ bs) ≡ bad (b ∷ bs)
unfolding expect
expect_other cs i b bs h e = ap (λ c. expect c (b ∷ bs)) (drop_more cs i 0 h) ∙ cond-false (eqb b (get_or cs i 0)) _ _ (ne_eqb _ _ e)

pub expect_short : (cs : List ℕ) (i : ℕ) (bs : List ℕ) → i < length cs → length bs ≡ 0 → expect (drop i cs) bs ≡ bad bs
unfolding expect
expect_short cs i [] h e = ap (λ c. expect c []) (drop_more cs i 0 h)
expect_short cs i (b ∷ bs) h e = absurd (omega arith)

pub expect_done : (cs : List ℕ) (i : ℕ) (bs : List ℕ) → length cs ≤ i → expect (drop i cs) bs ≡ got tt bs
unfolding expect
expect_done cs i bs h = ap (λ c. expect c bs) (drop_all i cs h)

-- What is read of a word or a number that begins with v, k bytes more of r: none, or one more than k' behind the first.
none_more : (v r : List ℕ) (k : ℕ) → k ≡ 0 → got v r ≡ got (v ++ take k r) (drop k r)
none_more v r k e = ap (λ w. got w r) (sym (append-nil v)) ∙ ap (λ m. got (v ++ take m r) (drop m r)) (sym e)

one_more : (v : List ℕ) (b : ℕ) (r : List ℕ) (n k : ℕ) → k ≡ 1 + n → got ((v ++ b ∷ []) ++ take n r) (drop n r) ≡ got (v ++ take k (b ∷ r)) (drop k (b ∷ r))
one_more v b r n k e =
    let s : suc n ≡ k = omega arith in
    ap (λ w. got w (drop n r)) (append_assoc v (b ∷ []) (take n r)) ∙ ap (λ m. got (v ++ take m (b ∷ r)) (drop m (b ∷ r))) s

-- How many pass a test in front, by whether the first does.
module _ (p : ℕ → Bool) (b : ℕ) (bs : List ℕ) (n : ℕ) (e : n ≡ prefix_len p (b ∷ bs)) where
  pub first_in : p b ≡ true → n ≡ 1 + prefix_len p bs
  first_in t = e ∙ ap (λ x. cond x (1 + prefix_len p bs) 0) t

  pub first_out : p b ≡ false → n ≡ 0
  first_out t = e ∙ ap (λ x. cond x (1 + prefix_len p bs) 0) t

-- More digits of a number that begins with v: as many as there are.
more_digits_by : (v bs : List ℕ) (n : ℕ) → n ≡ prefix_len is_digit bs → more_digits v bs ≡ got (v ++ take n bs) (drop n bs)
unfolding more_digits
more_digits_by v [] n e = none_more v [] n e
more_digits_by v (b ∷ bs) n e =
    cond_both (is_digit b) (more_digits (v ++ b ∷ []) bs) (got v (b ∷ bs)) (λ g. g ≡ got (v ++ take n (b ∷ bs)) (drop n (b ∷ bs)))
    (λ t. more_digits_by (v ++ b ∷ []) bs (prefix_len is_digit bs) refl ∙ one_more v b bs (prefix_len is_digit bs) n (first_in is_digit b bs n e t))
    (λ t. none_more v (b ∷ bs) n (first_out is_digit b bs n e t))

-- Nothing but a 0.
zero_ends : (bs : List ℕ) (n : ℕ) → n ≡ prefix_len is_digit bs → n ≡ 0 → after_zero bs ≡ got (48 ∷ []) bs
unfolding after_zero
zero_ends [] n e z = refl
zero_ends (b ∷ bs) n e z =
    cond_both (is_digit b) (bad (b ∷ bs)) (got (48 ∷ []) (b ∷ bs)) (λ g. g ≡ got (48 ∷ []) (b ∷ bs)) (λ t. absurd (omega (arith, first_in is_digit b bs n e t))) (λ t. refl)

zero_goes_on : (bs : List ℕ) (n : ℕ) → n ≡ prefix_len is_digit bs → 0 < n → after_zero bs ≡ bad bs
unfolding after_zero
zero_goes_on [] n e h = absurd (omega arith)
zero_goes_on (b ∷ bs) n e h =
    cond_both (is_digit b) (bad (b ∷ bs)) (got (48 ∷ []) (b ∷ bs)) (λ g. g ≡ bad (b ∷ bs)) (λ t. refl) (λ t. absurd (omega (arith, first_out is_digit b bs n e t)))

-- A number, by how many digits stand in front.
pub number_none : (bs : List ℕ) (n : ℕ) → n ≡ prefix_len is_digit bs → n ≡ 0 → read_number bs ≡ bad bs
unfolding read_number
number_none [] n e z = refl
number_none (b ∷ bs) n e z =
    cond_both (eqb b 48) (after_zero bs) (cond (is_digit b) (more_digits (b ∷ []) bs) (bad (b ∷ bs))) (λ g. g ≡ bad (b ∷ bs))
    (λ t. absurd (omega (arith, first_in is_digit b bs n e (ap is_digit (eqb-true b 48 t)))))
    (λ t. cond_both (is_digit b) (more_digits (b ∷ []) bs) (bad (b ∷ bs)) (λ g. g ≡ bad (b ∷ bs)) (λ d. absurd (omega (arith, first_in is_digit b bs n e d))) (λ d. refl))

pub number_zero : (bs : List ℕ) → 1 < length bs → get_or bs 0 0 ≡ 48 → is_digit (get_or bs 1 0) ≡ true → read_number bs ≡ bad (drop 1 bs)
unfolding read_number
number_zero [] h z d = absurd (omega arith)
number_zero (b ∷ []) h z d = absurd (omega arith)
number_zero (b ∷ c ∷ bs) h z d =
    let m = first_in is_digit c bs (prefix_len is_digit (c ∷ bs)) refl d in
    cond-true (eqb b 48) _ _ (eq-eqb b 48 z) ∙ zero_goes_on (c ∷ bs) (prefix_len is_digit (c ∷ bs)) refl (omega (arith, m))

-- Where more than one digit stands in front, the second byte is one.
pub second_digit : (bs : List ℕ) (n : ℕ) → n ≡ prefix_len is_digit bs → 1 < n → is_digit (get_or bs 1 0) ≡ true
second_digit [] n e h = absurd (omega arith)
second_digit (b ∷ []) n e h =
    ⊎_elim (λ t. absurd (omega (arith, first_in is_digit b [] n e t))) (λ f. absurd (omega (arith, first_out is_digit b [] n e f))) (cases_Bool (is_digit b))
second_digit (b ∷ c ∷ bs) n e h =
    ⊎_elim (λ t. t)
    (λ f. ⊎_elim (λ t. absurd (omega (arith, first_in is_digit b (c ∷ bs) n e t, first_out is_digit c bs (prefix_len is_digit (c ∷ bs)) refl f)))
    (λ g. absurd (omega (arith, first_out is_digit b (c ∷ bs) n e g))) (cases_Bool (is_digit b)))
    (cases_Bool (is_digit c))

pub number_some : (bs : List ℕ) (n : ℕ) → n ≡ prefix_len is_digit bs → (n ≡ 0 → ⊥) → (1 < n → get_or bs 0 0 ≡ 48 → ⊥) → read_number bs ≡ got (take n bs) (drop n bs)
unfolding read_number
number_some [] n e h z = absurd (h e)
number_some (b ∷ bs) n e h z =
    cond_both (eqb b 48) (after_zero bs) (cond (is_digit b) (more_digits (b ∷ []) bs) (bad (b ∷ bs))) (λ g. g ≡ got (take n (b ∷ bs)) (drop n (b ∷ bs)))
    (λ t. let q = eqb-true b 48 t in
    let m = first_in is_digit b bs n e (ap is_digit q) in
    let o = alone q m in
    zero_ends bs (prefix_len is_digit bs) refl o ∙ ap (λ x. got (x ∷ []) bs) (sym q) ∙ ap (λ x. got (take x (b ∷ bs)) (drop x (b ∷ bs))) (one m o))
    (λ t. cond_both (is_digit b) (more_digits (b ∷ []) bs) (bad (b ∷ bs)) (λ g. g ≡ got (take n (b ∷ bs)) (drop n (b ∷ bs)))
    (λ d. more_digits_by (b ∷ []) bs (prefix_len is_digit bs) refl ∙ one_more [] b bs (prefix_len is_digit bs) n (first_in is_digit b bs n e d))
    (λ d. absurd (h (first_out is_digit b bs n e d))))
  where
    one : n ≡ 1 + prefix_len is_digit bs → prefix_len is_digit bs ≡ 0 → 1 ≡ n
    one m o = omega arith

    alone : b ≡ 48 → n ≡ 1 + prefix_len is_digit bs → prefix_len is_digit bs ≡ 0
    alone q m = go (prefix_len is_digit bs) refl
      where
        go : (k : ℕ) → prefix_len is_digit bs ≡ k → prefix_len is_digit bs ≡ 0
        go zero k = k
        go (suc k) r = absurd (z (omega (arith, m, r)) q)

-- More bytes of a word that begins with v, at most n of them.
more_word_some : (n : ℕ) (v bs : List ℕ) (k : ℕ) → k ≡ prefix_len in_word (take (suc n) bs) → k ≤ n → more_word n v bs ≡ got (v ++ take k bs) (drop k bs)
unfolding more_word
more_word_some zero v [] k e l = none_more v [] k e
more_word_some (suc n) v [] k e l = none_more v [] k e
more_word_some zero v (b ∷ bs) k e l =
    cond_both (in_word b) (bad (b ∷ bs)) (got v (b ∷ bs)) (λ g. g ≡ got (v ++ take k (b ∷ bs)) (drop k (b ∷ bs)))
    (λ t. absurd (omega (arith, first_in in_word b [] k e t))) (λ t. none_more v (b ∷ bs) k (first_out in_word b [] k e t))
more_word_some (suc n) v (b ∷ bs) k e l =
    cond_both (in_word b) (more_word n (v ++ b ∷ []) bs) (got v (b ∷ bs)) (λ g. g ≡ got (v ++ take k (b ∷ bs)) (drop k (b ∷ bs)))
    (λ t. let m = first_in in_word b (take (suc n) bs) k e t in
    more_word_some n (v ++ b ∷ []) bs (prefix_len in_word (take (suc n) bs)) refl (omega (arith, m)) ∙ one_more v b bs (prefix_len in_word (take (suc n) bs)) k m)
    (λ t. none_more v (b ∷ bs) k (first_out in_word b (take (suc n) bs) k e t))

more_word_long : (n : ℕ) (v bs : List ℕ) (k : ℕ) → k ≡ prefix_len in_word (take (suc n) bs) → n < k → more_word n v bs ≡ bad (drop n bs)
unfolding more_word
more_word_long zero v [] k e l = absurd (omega arith)
more_word_long (suc n) v [] k e l = absurd (omega arith)
more_word_long zero v (b ∷ bs) k e l =
    cond_both (in_word b) (bad (b ∷ bs)) (got v (b ∷ bs)) (λ g. g ≡ bad (b ∷ bs)) (λ t. refl) (λ t. absurd (omega (arith, first_out in_word b [] k e t)))
more_word_long (suc n) v (b ∷ bs) k e l =
    cond_both (in_word b) (more_word n (v ++ b ∷ []) bs) (got v (b ∷ bs)) (λ g. g ≡ bad (drop n bs))
    (λ t. let m = first_in in_word b (take (suc n) bs) k e t in more_word_long n (v ++ b ∷ []) bs (prefix_len in_word (take (suc n) bs)) refl (omega (arith, m)))
    (λ t. absurd (omega (arith, first_out in_word b (take (suc n) bs) k e t)))

-- A word, by how many bytes of one stand in front.
pub word_none : (bs : List ℕ) → false ≡ first_is is_letter bs → read_word bs ≡ bad bs
unfolding read_word
word_none [] h = refl
word_none (b ∷ bs) h = cond-false (is_letter b) _ _ (sym h)

pub word_long : (bs : List ℕ) (n : ℕ) → true ≡ first_is is_letter bs → n ≡ prefix_len in_word (take 9 bs) → 8 < n → read_word bs ≡ bad (drop 8 bs)
unfolding read_word
word_long [] n h e l = absurd (omega arith)
word_long (b ∷ bs) n h e l =
    let m = first_in in_word b (take 8 bs) n e (letter_in b (sym h)) in
    cond-true (is_letter b) _ _ (sym h) ∙ more_word_long 7 (b ∷ []) bs (prefix_len in_word (take 8 bs)) refl (omega (arith, m))

pub word_some : (bs : List ℕ) (n : ℕ) → true ≡ first_is is_letter bs → n ≡ prefix_len in_word (take 9 bs) → n ≤ 8 → read_word bs ≡ got (take n bs) (drop n bs)
unfolding read_word
word_some [] n h e l = absurd (both_ways true h refl)
word_some (b ∷ bs) n h e l =
    let m = first_in in_word b (take 8 bs) n e (letter_in b (sym h)) in
    cond-true (is_letter b) _ _ (sym h) ∙ more_word_some 7 (b ∷ []) bs (prefix_len in_word (take 8 bs)) refl (omega (arith, m)) ∙ one_more [] b bs (prefix_len in_word (take 8 bs)) n m

-- A sign, by its byte.
pub sign_none : (bs : List ℕ) → length bs ≡ 0 → read_sign bs ≡ bad bs
unfolding read_sign
sign_none [] h = refl
sign_none (b ∷ bs) h = absurd (omega arith)

abbrev pub signed : Option Sign → List ℕ → List ℕ → Got Sign
signed (Some s) bs c = got s c
signed None bs c = bad bs

pub sign_front : (b : ℕ) (bs : List ℕ) → read_sign (b ∷ bs) ≡ map_got sign_of (signed (sign_by b) (b ∷ bs) bs)
unfolding read_sign
sign_front b bs = each (eqb b 43) (eqb b 45) (eqb b 42) (eqb b 47) (eqb b 37) (eqb b 60) (eqb b 61)
  where
    each : (t₁ t₂ t₃ t₄ t₅ t₆ t₇ : Bool) →
        cond t₁ (got plus bs) (cond t₂ (got minus bs) (cond t₃ (got times bs) (cond t₄ (got over bs) (cond t₅ (got remains bs) (cond t₆ (got less bs) (cond t₇ (got equal bs) (bad (b ∷ bs))))))))
        ≡ map_got sign_of (signed (cond t₁ (Some Plus) (cond t₂ (Some Minus) (cond t₃ (Some Times) (cond t₄ (Some Over) (cond t₅ (Some Remains) (cond t₆ (Some Less) (cond t₇ (Some Equal) None))))))) (b ∷ bs) bs)
    each true t₂ t₃ t₄ t₅ t₆ t₇ = refl
    each false true t₃ t₄ t₅ t₆ t₇ = refl
    each false false true t₄ t₅ t₆ t₇ = refl
    each false false false true t₅ t₆ t₇ = refl
    each false false false false true t₆ t₇ = refl
    each false false false false false true t₇ = refl
    each false false false false false false true = refl
    each false false false false false false false = refl
