-- Fields that stand one behind another: written, read back, and put together again.
use Rattle.std.proofs.Common.{◌≡◌, ℕ, ◌+◌, ◌<◌, ◌≤◌, true, false, ltb, List, ◌++◌, length, get_or, take, drop, ◌⊎◌, inl, inr, sym, ap, ◌∙◌, subst, arith}
use Rattle.std.specs.List.{AllByRecursion}
use Rattle.std.proofs.lemmas.List.{get_or_past, get_or-take, get_or-drop, length-take, take-append-drop, drop-drop, take_all, length-take-le, length-drop, length-append}
use Rattle.std.proofs.ByRecursion.{All-drop, All-take, All-from_get_or}
use Rattle.std.proofs.lemmas.Bool.{ltb-true, ltb-false, cases_Bool}
use Rattle.letters.specs.Letters.{little, number_at, put, message_bytes, message_of, line_bytes, line_of}
use Rattle.letters.specs.Back.{length_little}
use Rattle.letters.proofs.Numbers.{little_value, put_put}

-- So many bytes have been written over a list from a place on.
pub record Written (o : List ℕ) (at k : ℕ) (xs q : List ℕ) : Type 0 where
  pub is : q ≡ put o at xs
  pub long : length xs ≡ k

-- More behind them.
pub and_then : {o p : List ℕ} {at k : ℕ} {xs : List ℕ} (q ys : List ℕ) (j : ℕ) → length ys ≡ j → Written o at k xs p → at + (k + j) ≤ length o → q ≡ put p (at + k) ys → Written o at (k + j) (xs ++ ys) q
and_then {o} {p} {at} {k} {xs} q ys j e w h b =
    record {
      is = put_put o p q at k xs ys w.long (omega arith) w.is b;
      long = length-append xs ys ∙ ap (λ n. n + length ys) w.long ∙ ap (λ n. k + n) e;
    }

-- A number, and one behind what was written, in the words of the contracts.
pub number : {o : List ℕ} {at : ℕ} (q : List ℕ) (n k : ℕ) → q ≡ take at o ++ (little n k ++ drop (at + k) o) → Written o at k (little n k) q
number {o} {at} q n k e =
    record { is = e ∙ ap (λ i. take at o ++ (little n k ++ drop (at + i) o)) (sym (length_little n k)); long = length_little n k }

pub and_number : {o p : List ℕ} {at k : ℕ} {xs : List ℕ} (q : List ℕ) (n j : ℕ) → Written o at k xs p → at + (k + j) ≤ length o → q ≡ take (at + k) p ++ (little n j ++ drop (at + k + j) p) → Written o at (k + j) (xs ++ little n j) q
and_number {o} {p} {at} {k} q n j w h b =
    and_then q (little n j) j (length_little n j) w h (b ∙ ap (λ i. take (at + k) p ++ (little n j ++ drop (at + k + i) p)) (sym (length_little n j)))

-- The same, in the words of the contracts.
pub in_all : {o q : List ℕ} {at k : ℕ} {xs : List ℕ} (ys : List ℕ) → xs ≡ ys → Written o at k xs q → q ≡ take at o ++ (ys ++ drop (at + k) o)
in_all {o} {q} {at} {k} {xs} ys e w = w.is ∙ ap (λ n. take at o ++ (xs ++ drop (at + n) o)) w.long ∙ ap (λ x. take at o ++ (x ++ drop (at + k) o)) e

-- Bytes are those of the numbers read from them.
module _ (bs : List ℕ) (good : AllByRecursion (λ b. b < 256) bs) where
  pub same_bytes : (i k : ℕ) → i + k ≤ length bs → little (number_at bs i k) k ≡ take k (drop i bs)
  same_bytes i k h =
      let l : length (take k (drop i bs)) ≡ k = length-take-le k (drop i bs) (omega (arith, length-drop i bs)) in
      subst (λ j. little (number_at bs i k) j ≡ take k (drop i bs)) l (little_value (take k (drop i bs)) (All-take _ k _ (All-drop _ i bs good)))

  pub rejoin : (i k : ℕ) → i + k ≤ length bs → little (number_at bs i k) k ++ drop (i + k) bs ≡ drop i bs
  rejoin i k h =
      ap (λ x. x ++ drop (i + k) bs) (same_bytes i k h)
      ∙ ap (λ x. take k (drop i bs) ++ x) (sym (drop-drop k i bs))
      ∙ take-append-drop k (drop i bs)

  pub rejoin_last : (i k : ℕ) → length bs ≡ i + k → little (number_at bs i k) k ≡ drop i bs
  rejoin_last i k h = same_bytes i k (omega arith) ∙ take_all k (drop i bs) (omega (arith, length-drop i bs))

  pub message_exact : length bs ≡ 28 → message_bytes (message_of bs) ≡ bs
  unfolding message_bytes
  message_exact h =
      let a = little (number_at bs 0 8) 8 in
      let b = little (number_at bs 8 4) 4 in
      let c = little (number_at bs 12 4) 4 in
      let d = little (number_at bs 16 8) 8 in
      ap (λ x. a ++ (b ++ (c ++ (d ++ x)))) (rejoin_last 24 4 h)
      ∙ ap (λ x. a ++ (b ++ (c ++ x))) (rejoin 16 8 (omega arith))
      ∙ ap (λ x. a ++ (b ++ x)) (rejoin 12 4 (omega arith))
      ∙ ap (λ x. a ++ x) (rejoin 8 4 (omega arith))
      ∙ rejoin 0 8 (omega arith)

  pub line_exact : length bs ≡ 16 → line_bytes (line_of bs) ≡ bs
  unfolding line_bytes
  line_exact h =
      let a = little (number_at bs 0 8) 8 in
      let b = little (number_at bs 8 4) 4 in
      ap (λ x. a ++ (b ++ x)) (rejoin_last 12 4 h) ∙ ap (λ x. a ++ x) (rejoin 8 4 (omega arith)) ∙ rejoin 0 8 (omega arith)

-- A part of lent bytes.
pub part_length : (bs : List ℕ) (at k : ℕ) → at + k ≤ length bs → length (take k (drop at bs)) ≡ k
part_length bs at k h = length-take-le k (drop at bs) (omega (arith, length-drop at bs))

pub part_bytes : (bs : List ℕ) (at k : ℕ) → ((i : ℕ) → get_or bs i 0 < 256) → AllByRecursion (λ b. b < 256) (take k (drop at bs))
part_bytes bs at k h = All-take _ k _ (All-drop _ at bs (All-from_get_or (λ b. b < 256) bs 0 (λ i _. h i)))

pub part_byte : (bs : List ℕ) (at k : ℕ) → ((i : ℕ) → get_or bs i 0 < 256) → (i : ℕ) → get_or (take k (drop at bs)) i 0 < 256
part_byte bs at k h i = go (cases_Bool (ltb i k))
  where
    go : (ltb i k ≡ true) ⊎ (ltb i k ≡ false) → get_or (take k (drop at bs)) i 0 < 256
    go (inl t) = omega (arith, h (at + i), get_or-take k (drop at bs) i 0 (ltb-true i k t), get_or-drop at bs i 0)
    go (inr t) = omega (arith, get_or_past (take k (drop at bs)) i 0 (omega (arith, ltb-false i k t, length-take k (drop at bs))))
