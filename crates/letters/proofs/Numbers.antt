-- Numbers in bytes, the lowest first, and what is written over a list.
use Rattle.std.proofs.Common.{◌≡◌, ℕ, zero, suc, ◌+◌, ◌-◌, ◌*◌, ◌/◌, ◌%◌, ◌^◌, ◌<◌, ◌≤◌, List, [], ◌∷◌, ◌++◌, length, take, drop, set, sym, refl, ap, ◌∙◌, arith}
use native.Mathlib.Nat.{pow-suc, pow-succ', div-div-eq-div-mul}
use borrow.Rule.Slice.PartMut.{put_mid}
use Rattle.std.specs.Int.{byte_at, bytes_low_first}
use Rattle.std.specs.List.{AllByRecursion}
use Rattle.std.proofs.lemmas.List.{append_assoc, take-append-drop, take_more_set, drop-set-lt, drop-drop, drop_at, take_at, length-take-le, length-drop, length-take, length-append}
use Rattle.letters.specs.Letters.{little, value_of, put}
use Rattle.letters.specs.Back.{value_little}

pub value_below : (bs : List ℕ) → AllByRecursion (λ b. b < 256) bs → value_of bs < 256 ^ length bs
unfolding value_of
value_below [] h = omega arith
value_below (b ∷ bs) h =
    let e : 256 ^ suc (length bs) ≡ 256 * 256 ^ length bs = pow-succ' 256 (length bs) in
    let p : value_of bs < 256 ^ length bs = value_below bs h.1 in
    let q : b < 256 = h.0 in
    omega arith

-- Bytes are those of the number that they stand for.
pub little_value : (bs : List ℕ) → AllByRecursion (λ b. b < 256) bs → little (value_of bs) (length bs) ≡ bs
unfolding little value_of
little_value [] h = refl
little_value (b ∷ bs) h =
    let q : b < 256 = h.0 in
    let d : (b + 256 * value_of bs) / 256 ≡ value_of bs = omega arith in
    let m : (b + 256 * value_of bs) % 256 ≡ b = omega arith in
    ap (λ x. x ∷ little ((b + 256 * value_of bs) / 256) (length bs)) m ∙ ap (λ x. b ∷ little x (length bs)) d ∙ ap (λ x. b ∷ x) (little_value bs h.1)

-- One byte written, and the others behind it.
pub put_more : (out : List ℕ) (k b : ℕ) (bs : List ℕ) → k < length out → put (set out k b) (k + 1) bs ≡ put out k (b ∷ bs)
put_more out k b bs h =
    ap (λ x. x ++ (bs ++ drop (k + 1 + length bs) (set out k b))) (take_more_set out k b h)
    ∙ append_assoc (take k out) (b ∷ []) (bs ++ drop (k + 1 + length bs) (set out k b))
    ∙ ap (λ x. take k out ++ (b ∷ (bs ++ x))) (drop-set-lt (k + 1 + length bs) out k b (omega arith))
    ∙ (let e : k + 1 + length bs ≡ k + suc (length bs) = omega arith in ap (λ x. take k out ++ (b ∷ (bs ++ drop x out))) e)

pub put_none : (out : List ℕ) (k : ℕ) → put out k [] ≡ out
put_none out k = let e : k + 0 ≡ k = omega arith in ap (λ x. take k out ++ drop x out) e ∙ take-append-drop k out

pub length_put : (out : List ℕ) (at : ℕ) (bs : List ℕ) → at + length bs ≤ length out → length (put out at bs) ≡ length out
length_put out at bs h = simp (length-append, length-take, length-drop) (omega arith)

-- One thing written behind another.
pub put_put : (o p q : List ℕ) (at k : ℕ) (xs ys : List ℕ) → length xs ≡ k → at + k + length ys ≤ length o → p ≡ put o at xs → q ≡ put p (at + k) ys → q ≡ put o at (xs ++ ys)
put_put o p q at k xs ys e h a b =
    let l : at ≤ length o = omega arith in
    let t : length (take at o) ≡ at = length-take-le at o l in
    let m : length (take at o ++ xs) ≡ at + k = length-append (take at o) xs ∙ omega arith in
    let g : put o at xs ≡ (take at o ++ xs) ++ drop (at + length xs) o = sym (append_assoc (take at o) xs (drop (at + length xs) o)) in
    let f : take (at + k) (put o at xs) ≡ take at o ++ xs = ap (take (at + k)) g ∙ take_at (take at o ++ xs) (drop (at + length xs) o) (at + k) m in
    let d : drop (at + k + length ys) (put o at xs) ≡ drop (at + length (xs ++ ys)) o =
    ap (drop (at + k + length ys)) g
    ∙ sym (drop-drop (length ys) (at + k) ((take at o ++ xs) ++ drop (at + length xs) o))
    ∙ ap (drop (length ys)) (drop_at (take at o ++ xs) (drop (at + length xs) o) (at + k) m)
    ∙ drop-drop (length ys) (at + length xs) o
    ∙ (let z : at + length xs + length ys ≡ at + length (xs ++ ys) = omega (arith, length-append xs ys) in ap (λ n. drop n o) z) in
    b
    ∙ ap (λ x. put x (at + k) ys) a
    ∙ ap (λ x. x ++ (ys ++ drop (at + k + length ys) (put o at xs))) f
    ∙ ap (λ x. (take at o ++ xs) ++ (ys ++ x)) d
    ∙ append_assoc (take at o) xs (ys ++ drop (at + length (xs ++ ys)) o)
    ∙ ap (λ x. take at o ++ x) (sym (append_assoc xs ys (drop (at + length (xs ++ ys)) o)))

-- The library's words for a number's bytes say the same.
byte_is : (i n : ℕ) → byte_at i n ≡ n / 256 ^ i % 256
byte_is zero n = omega arith
byte_is (suc i) n = refl

low_first : (n i k : ℕ) → bytes_low_first i k n ≡ little (n / 256 ^ i) k
unfolding little
low_first n i zero = refl
low_first n i (suc k) =
    let e : n / 256 ^ suc i ≡ n / 256 ^ i / 256 = ap (λ m. n / m) (pow-suc 256 i) ∙ sym (div-div-eq-div-mul n (256 ^ i) 256) in
    ap (λ b. b ∷ bytes_low_first (suc i) k n) (byte_is i n) ∙ ap (λ bs. n / 256 ^ i % 256 ∷ bs) (low_first n (suc i) k ∙ ap (λ m. little m k) e)

pub le_little : (n k : ℕ) → bytes_low_first 0 k n ≡ little n k
le_little n k = let e : n / 256 ^ 0 ≡ n = omega arith in low_first n 0 k ∙ ap (λ m. little m k) e

-- The bytes of a number written over a list.
pub number_written : (o s : List ℕ) (at n k : ℕ) → s ≡ bytes_low_first 0 k n → put_mid at (at + k - at) o s ≡ take at o ++ (little n k ++ drop (at + k) o)
number_written o s at n k v =
    let z : at + (at + k - at) ≡ at + k = omega arith in
    ap (λ x. take at o ++ (x ++ drop (at + k - at) (drop at o))) (v ∙ le_little n k)
    ∙ ap (λ x. take at o ++ (little n k ++ x)) (drop-drop (at + k - at) at o ∙ ap (λ i. drop i o) z)

-- A number whose bytes are those of a list.
pub number_read : (bs : List ℕ) (n k : ℕ) → bytes_low_first 0 k n ≡ bs → n < 256 ^ k → (n ≡ value_of bs) × (little n k ≡ bs)
number_read bs n k e h =
    let l : little n k ≡ bs = sym (le_little n k) ∙ e in (sym (value_little n k h) ∙ ap value_of l, l)
