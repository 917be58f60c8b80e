-- What stands in a letter in always as many bytes is read back from them: the laws of `Wire`. An impl's law may cite nothing outside specs/.
use Rattle.std.specs.Prelude.{◌≡◌, ℕ, zero, suc, ◌+◌, ◌*◌, ◌/◌, ◌^◌, ◌<◌, List, [], ◌++◌, length, take, drop, refl}
use Rattle.std.proofs.Common.{sym, ap, ◌∙◌, ltb, arith}
use native.Mathlib.Nat.{pow-succ'}
use Rattle.std.proofs.lemmas.List.{append-nil, drop-drop, drop_at, take_at, length-append}
use Rattle.std.proofs.lemmas.Bool.{and_parts, ltb-true}
use Rattle.std.proofs.lemmas.Nat.{div_below}
use Rattle.meaning.specs.declared.Message.{Message}
use Rattle.meaning.specs.declared.Line.{Line}
use Rattle.letters.specs.Letters.{little, value_of, number_at, message_bytes, message_of, message_fits, line_bytes, line_of, line_fits}
use Rattle.letters.specs.Promise.{IsReadBack}

pub length_little : (n k : ℕ) → length (little n k) ≡ k
unfolding little
length_little n zero = refl
length_little n (suc k) = ap suc (length_little (n / 256) k)

-- A number that fits its bytes is read back.
pub value_little : (n k : ℕ) → n < 256 ^ k → value_of (little n k) ≡ n
unfolding little value_of
value_little n zero h = omega arith
value_little n (suc k) h =
    let e : 256 ^ suc k ≡ 256 * 256 ^ k = pow-succ' 256 k in
    let q : n / 256 < 256 ^ k = div_below n 256 (256 ^ k) (omega arith) (omega arith) in
    let v = value_little (n / 256) k q in
    omega arith

-- A number where it stands, and what stands behind it.
pub found : (bs : List ℕ) (i k n : ℕ) (r : List ℕ) → drop i bs ≡ little n k ++ r → n < 256 ^ k → number_at bs i k ≡ n
found bs i k n r e h =
    ap (λ x. value_of (take k x)) e ∙ ap value_of (take_at (little n k) r k (length_little n k)) ∙ value_little n k h

pub beyond : (bs : List ℕ) (i k n : ℕ) (r : List ℕ) → drop i bs ≡ little n k ++ r → drop (i + k) bs ≡ r
beyond bs i k n r e = sym (drop-drop k i bs) ∙ ap (drop k) e ∙ drop_at (little n k) r k (length_little n k)

pub found_last : (bs : List ℕ) (i k n : ℕ) → drop i bs ≡ little n k → n < 256 ^ k → number_at bs i k ≡ n
found_last bs i k n e h = found bs i k n [] (e ∙ sym (append-nil (little n k))) h

-- Numbers, messages and lines are read back.
pub int_back : IsReadBack 4 (λ n. little n 4) value_of (λ n. ltb n (2 ^ 32))
int_back n h = (length_little n 4, value_little n 4 (ltb-true _ _ h))

pub long_back : IsReadBack 8 (λ n. little n 8) value_of (λ n. ltb n (2 ^ 64))
long_back n h = (length_little n 8, value_little n 8 (ltb-true _ _ h))

pub message_long : (m : Message) → length (message_bytes m) ≡ 28
unfolding message_bytes
message_long m = simp (length-append, length_little)

pub line_long : (l : Line) → length (line_bytes l) ≡ 16
unfolding line_bytes
line_long l = simp (length-append, length_little)

pub message_back : IsReadBack 28 message_bytes message_of message_fits
unfolding message_bytes
message_back m f =
    let p = and_parts (ltb m.time (2 ^ 64)) _ f in
    let q = and_parts (ltb m.to (2 ^ 32)) _ p.1 in
    let r = and_parts (ltb m.from (2 ^ 32)) _ q.1 in
    let s = and_parts (ltb m.count (2 ^ 64)) (ltb m.number (2 ^ 32)) r.1 in
    let bs = message_bytes m in
    let d0 : drop 0 bs ≡ _ = refl in
    let d8 = beyond bs 0 8 m.time _ d0 in
    let d12 = beyond bs 8 4 m.to _ d8 in
    let d16 = beyond bs 12 4 m.from _ d12 in
    let d24 = beyond bs 16 8 m.count _ d16 in
    let e0 = found bs 0 8 m.time _ d0 (ltb-true _ _ p.0) in
    let e8 = found bs 8 4 m.to _ d8 (ltb-true _ _ q.0) in
    let e12 = found bs 12 4 m.from _ d12 (ltb-true _ _ r.0) in
    let e16 = found bs 16 8 m.count _ d16 (ltb-true _ _ s.0) in
    let e24 = found_last bs 24 4 m.number d24 (ltb-true _ _ s.1) in
    (message_long m, λ i. record { time = e0 i; to = e8 i; from = e12 i; count = e16 i; number = e24 i })

pub line_back : IsReadBack 16 line_bytes line_of line_fits
unfolding line_bytes
line_back l f =
    let p = and_parts (ltb l.time (2 ^ 64)) _ f in
    let q = and_parts (ltb l.process (2 ^ 32)) (ltb l.number (2 ^ 32)) p.1 in
    let bs = line_bytes l in
    let d0 : drop 0 bs ≡ _ = refl in
    let d8 = beyond bs 0 8 l.time _ d0 in
    let d12 = beyond bs 8 4 l.process _ d8 in
    let e0 = found bs 0 8 l.time _ d0 (ltb-true _ _ p.0) in
    let e8 = found bs 8 4 l.process _ d8 (ltb-true _ _ q.0) in
    let e12 = found_last bs 12 4 l.number d12 (ltb-true _ _ q.1) in
    (line_long l, λ i. record { time = e0 i; process = e8 i; number = e12 i })
