-- Letters as they are written.
use Rattle.std.proofs.Common.{◌≡◌, ℕ, ◌+◌, ◌-◌, ◌≤◌, Bool, true, false, cond, ◌&&◌, leb, List, [], ◌∷◌, ◌++◌, length, take, drop, set, Some, None, sym, refl, ap, ◌∙◌, arith}
use mir.Val.{bool_byte}
use borrow.Rule.Slice.PartMut.{put_mid}
use Rattle.std.proofs.lemmas.List.{append_assoc, length-append, take_all}
use Rattle.std.proofs.lemmas.Slice.{put_mid-paste}
use Rattle.std.proofs.lemmas.Bool.{and_from, eq-eqb, le-leb, cond-true}
use Rattle.letters.specs.declared.Letter.{Letter}
use Rattle.letters.specs.declared.Letter.TheVariants.{Tell, Lines, Printed}
use Rattle.letters.specs.Letters.{little, put, flag, head, head_bytes, carries, size, fits, in_bounds, letter_bytes, well_formed}
use Rattle.letters.specs.Back.{length_little}
use Rattle.letters.proofs.Numbers.{put_more, put_none, length_put, put_put}
use Rattle.letters.proofs.Fields.{Written, and_then}

-- One byte more behind what was written.
pub and_byte : {o p : List ℕ} {at k : ℕ} {xs : List ℕ} (b : ℕ) → Written o at k xs p → at + (k + 1) ≤ length o → Written o at (k + 1) (xs ++ (b ∷ [])) (set p (at + k) b)
and_byte {o} {p} {at} {k} {xs} b w h =
    let l : length p ≡ length o = ap length w.is ∙ length_put o at xs (omega (arith, w.long)) in
    and_then (set p (at + k) b) (b ∷ []) 1 refl w h (sym (put_none (set p (at + k) b) (at + k + 1)) ∙ put_more p (at + k) b [] (omega arith))

pub flag_byte : (b : Bool) → bool_byte b ≡ flag b
flag_byte true = refl
flag_byte false = refl

-- The fields of a letter one behind another.
pub tell_head : (from epoch earliest heard start byte : ℕ) (finished : Bool) (count : ℕ) → byte ≡ flag finished → (((((1 ∷ from ∷ little epoch 8) ++ little earliest 8) ++ little heard 8) ++ little start 8) ++ (byte ∷ [])) ++ (count ∷ []) ≡ head_bytes (Tell from epoch earliest heard start finished count)
unfolding head_bytes
tell_head from epoch earliest heard start byte finished count e =
    let s = 1 ∷ from ∷ little epoch 8 in
    ap (λ f. ((((s ++ little earliest 8) ++ little heard 8) ++ little start 8) ++ (f ∷ [])) ++ (count ∷ [])) e ∙ simp append_assoc

pub lines_head : (from first time process count : ℕ) → (((2 ∷ from ∷ little first 8) ++ little time 8) ++ little process 4) ++ (count ∷ []) ≡ head_bytes (Lines from first time process count)
unfolding head_bytes
lines_head from first time process count = simp append_assoc

pub length_head : (l : Letter) → length (head_bytes l) ≡ head l
unfolding head_bytes
length_head (Tell from epoch earliest heard start finished count) =
    simp (length-append, length_little)
length_head (Lines from first time process count) = simp (length-append, length_little)
length_head (Printed from upto) = simp (length_little)

-- What is carried behind the rest of a letter.
pub letter_written : (o p s : List ℕ) (at : ℕ) (l : Letter) (c : List ℕ) (n : ℕ) → n ≡ size l → length c ≡ carries l → at + n ≤ length o → p ≡ put o at (head_bytes l) → s ≡ c → put_mid (at + n - length c) (at + n - (at + n - length c)) p s ≡ take at o ++ (letter_bytes l c ++ drop (at + size l) o)
letter_written o p s at l c n e f h w v =
    let a : at + n - length c ≡ at + head l = omega arith in
    let k : length c ≡ at + n - (at + n - length c) = omega arith in
    let m : length (head_bytes l ++ c) ≡ size l = length-append (head_bytes l) c ∙ ap (λ x. x + length c) (length_head l) ∙ ap (λ x. head l + x) f in
    let q : put_mid (at + n - length c) (at + n - (at + n - length c)) p s ≡ put p (at + head l) c =
    put_mid-paste (at + n - length c) (at + n - (at + n - length c)) p s c (length c) v k refl
    ∙ append_assoc (take (at + n - length c) p) (take (length c) c) (drop (at + n - length c + length c) p)
    ∙ ap (λ x. take (at + n - length c) p ++ (x ++ drop (at + n - length c + length c) p)) (take_all (length c) c (omega arith))
    ∙ ap (λ x. take x p ++ (c ++ drop (x + length c) p)) a in
    put_put o p _ at (head l) (head_bytes l) c (length_head l) (omega arith) w q ∙ ap (λ x. take at o ++ ((head_bytes l ++ c) ++ drop (at + x) o)) m

pub answered : (o : List ℕ) (at : ℕ) (l : Letter) (c : List ℕ) (n : ℕ) → fits l ≡ true → in_bounds l ≡ true → length c ≡ carries l → n ≡ size l → at + n ≤ length o → Some (at + n) ≡ cond (well_formed l c && leb (at + size l) (length o)) (Some (at + size l)) None
answered o at l c n f b k e h =
    ap (λ x. Some (at + x)) e
    ∙ sym (cond-true (well_formed l c && leb (at + size l) (length o)) (Some (at + size l)) None
    (and_from (well_formed l c) (leb (at + size l) (length o)) (and_from (fits l) _ f (and_from (in_bounds l) _ b (eq-eqb (length c) (carries l) k))) (le-leb (at + size l) (length o) (omega arith))))
