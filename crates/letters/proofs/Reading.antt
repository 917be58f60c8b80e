-- Letters are read back, and what is read is what the bytes are.
use Rattle.std.proofs.Common.{◌≡◌, ℕ, ◌+◌, ◌-◌, ◌^◌, ◌<◌, ◌≤◌, Bool, true, false, cond, ◌&&◌, eqb, ltb, leb, ◌⊎◌, List, [], ◌∷◌, ◌++◌, length, get_or, take, drop, Some, None, Option, Result, MatchOption, MatchResult, Bor, ok_or, ◌≢◌, sym, refl, ap, ◌∙◌, subst, inl, inr, arith}
use Rattle.std.specs.List.{AllByRecursion}
use Rattle.std.specs.Slice.{IsGetRangeResult}
use Rattle.std.proofs.lemmas.List.{append_assoc, append_cancel_left, drop_more, drop_at, drop-drop, get_or-drop, length-append, length-drop}
use Rattle.std.proofs.ByRecursion.{All-drop, All-take}
use Rattle.std.proofs.lemmas.Bool.{and_parts, and_from, ltb-true, lt-ltb, leb-true, eqb-true, eqb-false, eq-eqb, ne_eqb, cond-true, cond-false, cases_Bool}
use Rattle.checker.specs.declared.Refusal.{Refusal}
use Rattle.letters.specs.declared.Tag.{Tag}
use Rattle.letters.specs.declared.Letter.{Letter}
use Rattle.letters.specs.declared.Letter.TheVariants.{Tell, Lines, Printed}
use Rattle.letters.specs.Letters.{little, number_at, flag, head, head_bytes, carries, size, fits, in_bounds, letter_bytes, well_formed, tell_of, lines_of, printed_of, kept, told, letter_of, last, part, IsLetter, no_letter, tag_byte}
use Rattle.letters.proofs.Numbers.{value_below}
use Rattle.letters.specs.Back.{found, beyond}
use Rattle.letters.proofs.Fields.{rejoin, part_length, part_bytes}
use Rattle.letters.proofs.Writing.{length_head}

-- The parts of what is well formed.
pub record Formed (l : Letter) (c : List ℕ) : Type 0 where
  pub typed : fits l ≡ true
  pub bounds : in_bounds l ≡ true
  pub long : length c ≡ carries l

pub formed_parts : (l : Letter) (c : List ℕ) → well_formed l c ≡ true → Formed l c
formed_parts l c h =
    let p = and_parts (fits l) _ h in
    let q = and_parts (in_bounds l) (eqb (length c) (carries l)) p.1 in
    record { typed = p.0; bounds = q.0; long = eqb-true (length c) (carries l) q.1 }

pub formed_from : (l : Letter) (c : List ℕ) → Formed l c → well_formed l c ≡ true
formed_from l c f = and_from (fits l) _ f.typed (and_from (in_bounds l) _ f.bounds (eq-eqb (length c) (carries l) f.long))

pub length_letter : (l : Letter) (c : List ℕ) → length c ≡ carries l → length (letter_bytes l c) ≡ size l
length_letter l c h = length-append (head_bytes l) c ∙ ap (λ x. x + length c) (length_head l) ∙ ap (λ x. head l + x) h

-- The fields and what is carried, one behind another.
tell_bytes : (from epoch earliest heard start : ℕ) (finished : Bool) (count : ℕ) (c : List ℕ) → letter_bytes (Tell from epoch earliest heard start finished count) c ≡ 1 ∷ from ∷ (little epoch 8 ++ (little earliest 8 ++ (little heard 8 ++ (little start 8 ++ (flag finished ∷ count ∷ c)))))
unfolding head_bytes
tell_bytes from epoch earliest heard start finished count c = simp append_assoc

lines_bytes : (from first time process count : ℕ) (c : List ℕ) → letter_bytes (Lines from first time process count) c ≡ 2 ∷ from ∷ (little first 8 ++ (little time 8 ++ (little process 4 ++ (count ∷ c))))
unfolding head_bytes
lines_bytes from first time process count c = simp append_assoc

printed_bytes : (from upto : ℕ) (c : List ℕ) → letter_bytes (Printed from upto) c ≡ 3 ∷ from ∷ (little upto 8 ++ c)
unfolding head_bytes
printed_bytes from upto c = refl

byte_at : (bs : List ℕ) (i : ℕ) (b : ℕ) (r : List ℕ) → drop i bs ≡ b ∷ r → get_or bs i 0 ≡ b
byte_at bs i b r e =
    let z : i + 0 ≡ i = omega arith in
    ap (λ n. get_or bs n 0) (sym z) ∙ sym (get_or-drop i bs 0 0) ∙ ap (λ x. get_or x 0 0) e

after_byte : (bs : List ℕ) (i : ℕ) (b : ℕ) (r : List ℕ) → drop i bs ≡ b ∷ r → drop (i + 1) bs ≡ r
after_byte bs i b r e = sym (drop-drop 1 i bs) ∙ ap (drop 1) e

flag_eq : (b : Bool) → eqb (flag b) 1 ≡ b
flag_eq true = refl
flag_eq false = refl

flag_below : (b : Bool) → flag b < 2
flag_below true = omega arith
flag_below false = omega arith

kept_so : (n : ℕ) (l m : Letter) → l ≡ m → in_bounds m ≡ true → n ≡ size m → kept n l ≡ Some m
kept_so n l m e b s = ap (kept n) e ∙ cond-true (in_bounds m && eqb n (size m)) (Some m) None (and_from (in_bounds m) _ b (eq-eqb n (size m) s))

pub letter_back : (l : Letter) (c : List ℕ) → Formed l c → letter_of (letter_bytes l c) ≡ Some l
unfolding letter_of
letter_back (Tell from epoch earliest heard start finished count) c f =
    let l = Tell from epoch earliest heard start finished count in
    let bs = letter_bytes l c in
    let t = tell_bytes from epoch earliest heard start finished count c in
    let p = and_parts (ltb epoch (2 ^ 64)) _ f.typed in
    let q = and_parts (ltb earliest (2 ^ 64)) _ p.1 in
    let r = and_parts (ltb heard (2 ^ 64)) (ltb start (2 ^ 64)) q.1 in
    let d2 = ap (drop 2) t in
    let d10 = beyond bs 2 8 epoch _ d2 in
    let d18 = beyond bs 10 8 earliest _ d10 in
    let d26 = beyond bs 18 8 heard _ d18 in
    let d34 = beyond bs 26 8 start _ d26 in
    let d35 = after_byte bs 34 (flag finished) _ d34 in
    let b0 : get_or bs 0 0 ≡ 1 = ap (λ x. get_or x 0 0) t in
    let b1 : get_or bs 1 0 ≡ from = ap (λ x. get_or x 1 0) t in
    let e2 = found bs 2 8 epoch _ d2 (ltb-true _ _ p.0) in
    let e10 = found bs 10 8 earliest _ d10 (ltb-true _ _ q.0) in
    let e18 = found bs 18 8 heard _ d18 (ltb-true _ _ r.0) in
    let e26 = found bs 26 8 start _ d26 (ltb-true _ _ r.1) in
    let b34 : get_or bs 34 0 ≡ flag finished = byte_at bs 34 _ _ d34 in
    let b35 : get_or bs 35 0 ≡ count = byte_at bs 35 _ _ d35 in
    let fl : eqb (get_or bs 34 0) 1 ≡ finished = ap (λ x. eqb x 1) b34 ∙ flag_eq finished in
    let e : tell_of bs ≡ l = λ i. Tell (b1 i) (e2 i) (e10 i) (e18 i) (e26 i) (fl i) (b35 i) in
    cond-true (eqb (get_or bs 0 0) 1) (told bs) _ (eq-eqb (get_or bs 0 0) 1 b0)
    ∙ cond-true (ltb (get_or bs 34 0) 2) (kept (length bs) (tell_of bs)) None (lt-ltb (get_or bs 34 0) 2 (omega (arith, flag_below finished)))
    ∙ kept_so (length bs) (tell_of bs) l e f.bounds (length_letter l c f.long)
letter_back (Lines from first time process count) c f =
    let l = Lines from first time process count in
    let bs = letter_bytes l c in
    let t = lines_bytes from first time process count c in
    let p = and_parts (ltb first (2 ^ 64)) _ f.typed in
    let q = and_parts (ltb time (2 ^ 64)) (ltb process (2 ^ 32)) p.1 in
    let d2 = ap (drop 2) t in
    let d10 = beyond bs 2 8 first _ d2 in
    let d18 = beyond bs 10 8 time _ d10 in
    let d22 = beyond bs 18 4 process _ d18 in
    let b0 : get_or bs 0 0 ≡ 2 = ap (λ x. get_or x 0 0) t in
    let b1 : get_or bs 1 0 ≡ from = ap (λ x. get_or x 1 0) t in
    let e2 = found bs 2 8 first _ d2 (ltb-true _ _ p.0) in
    let e10 = found bs 10 8 time _ d10 (ltb-true _ _ q.0) in
    let e18 = found bs 18 4 process _ d18 (ltb-true _ _ q.1) in
    let b22 : get_or bs 22 0 ≡ count = byte_at bs 22 _ _ d22 in
    let e : lines_of bs ≡ l = λ i. Lines (b1 i) (e2 i) (e10 i) (e18 i) (b22 i) in
    ap (λ x. cond (eqb x 1) (told bs) (cond (eqb x 2) (kept (length bs) (lines_of bs)) (cond (eqb x 3) (kept (length bs) (printed_of bs)) None))) b0
    ∙ kept_so (length bs) (lines_of bs) l e f.bounds (length_letter l c f.long)
letter_back (Printed from upto) c f =
    let l = Printed from upto in
    let bs = letter_bytes l c in
    let t = printed_bytes from upto c in
    let d2 = ap (drop 2) t in
    let b0 : get_or bs 0 0 ≡ 3 = ap (λ x. get_or x 0 0) t in
    let b1 : get_or bs 1 0 ≡ from = ap (λ x. get_or x 1 0) t in
    let e2 = found bs 2 8 upto _ d2 (ltb-true _ _ f.typed) in
    let e : printed_of bs ≡ l = λ i. Printed (b1 i) (e2 i) in
    ap (λ x. cond (eqb x 1) (told bs) (cond (eqb x 2) (kept (length bs) (lines_of bs)) (cond (eqb x 3) (kept (length bs) (printed_of bs)) None))) b0
    ∙ kept_so (length bs) (printed_of bs) l e f.bounds (length_letter l c f.long)

-- What a letter carries are its last bytes.
pub last_carried : (l : Letter) (c : List ℕ) → length c ≡ carries l → last (carries l) (letter_bytes l c) ≡ c
last_carried l c h =
    let e : length (letter_bytes l c) - carries l ≡ head l = omega (arith, length_letter l c h) in
    ap (λ n. drop n (letter_bytes l c)) e ∙ drop_at (head_bytes l) c (head l) (length_head l)

none_some : (m : Letter) → None ≡ Some m → ⊥
none_some m e = let z : ◌≡◌ {A = ℕ} 0 1 = cc in omega arith

flag_back : (x : ℕ) → x < 2 → flag (eqb x 1) ≡ x
flag_back x h = go (cases_Bool (eqb x 1))
  where
    go : (eqb x 1 ≡ true) ⊎ (eqb x 1 ≡ false) → flag (eqb x 1) ≡ x
    go (inl t) = ap flag t ∙ sym (eqb-true x 1 t)
    go (inr t) = let n : x ≡ 1 → ⊥ = eqb-false x 1 t in ap flag t ∙ omega arith

some_same : (l m : Letter) → Some l ≡ Some m → l ≡ m
some_same l m e = cc

pub no_two : (l m : Letter) (c d : List ℕ) → well_formed l c ≡ true → well_formed m d ≡ true → letter_bytes l c ≡ letter_bytes m d → (l ≡ m) × (c ≡ d)
no_two l m c d f g e =
    let p = letter_back l c (formed_parts l c f) in
    let q = letter_back m d (formed_parts m d g) in
    let s : l ≡ m = some_same l m (sym p ∙ ap letter_of e ∙ q) in
    (s, append_cancel_left (head_bytes l) c d (e ∙ ap (λ x. head_bytes x ++ d) (sym s)))

small : (l : Letter) → in_bounds l ≡ true → size l ≤ 1024
small (Tell from epoch earliest heard start finished count) h =
    let p = and_parts (ltb from 64) (leb count 35) h in
    omega (arith, leb-true count 35 p.1)
small (Lines from first time process count) h =
    let p = and_parts (ltb from 64) (leb count 62) h in
    omega (arith, leb-true count 62 p.1)
small (Printed from upto) h = omega arith

pub at_most : (l : Letter) (c : List ℕ) → well_formed l c ≡ true → length (letter_bytes l c) ≤ 1024
at_most l c h =
    let f = formed_parts l c h in
    omega (arith, length_letter l c f.long, small l f.bounds)

-- The other way: what is read from bytes.
module _ (bs : List ℕ) (good : AllByRecursion (λ b. b < 256) bs) where
  number_below : (i k : ℕ) → i + k ≤ length bs → number_at bs i k < 256 ^ k
  number_below i k h =
      subst (λ n. number_at bs i k < 256 ^ n) (part_length bs i k h) (value_below (take k (drop i bs)) (All-take _ k _ (All-drop _ i bs good)))

  number_fits : (i k : ℕ) → i + k ≤ length bs → ltb (number_at bs i k) (256 ^ k) ≡ true
  number_fits i k h = lt-ltb (number_at bs i k) (256 ^ k) (number_below i k h)

  from_tag : (tag : ℕ) → get_or bs 0 0 ≡ tag → 2 ≤ length bs → tag ∷ get_or bs 1 0 ∷ drop 2 bs ≡ bs
  from_tag tag e h =
      ap (λ x. x ∷ get_or bs 1 0 ∷ drop 2 bs) (sym e)
      ∙ ap (λ x. get_or bs 0 0 ∷ x) (sym (drop_more bs 1 0 (omega arith)))
      ∙ sym (drop_more bs 0 0 (omega arith))

  behind : (l : Letter) → length bs ≡ size l → length (drop (head l) bs) ≡ carries l
  behind l e = length-drop (head l) bs ∙ omega arith

  tell_is : get_or bs 0 0 ≡ 1 → get_or bs 34 0 < 2 → in_bounds (tell_of bs) ≡ true → length bs ≡ size (tell_of bs) → IsLetter bs (tell_of bs) (drop 36 bs)
  tell_is t f b e =
      let h : 36 ≤ length bs = omega arith in
      let a = little (number_at bs 2 8) 8 in
      let d = little (number_at bs 10 8) 8 in
      let g = little (number_at bs 18 8) 8 in
      let s = little (number_at bs 26 8) 8 in
      let w : tell_rest ≡ drop 34 bs =
      ap (λ x. x ∷ get_or bs 35 0 ∷ drop 36 bs) (flag_back (get_or bs 34 0) f)
      ∙ ap (λ x. get_or bs 34 0 ∷ x) (sym (drop_more bs 35 0 (omega arith)))
      ∙ sym (drop_more bs 34 0 (omega arith)) in
      record {
        bytes = sym (
            tell_bytes (get_or bs 1 0) (number_at bs 2 8) (number_at bs 10 8) (number_at bs 18 8) (number_at bs 26 8) (eqb (get_or bs 34 0) 1) (get_or bs 35 0) (drop 36 bs)
            ∙ ap (λ x. 1 ∷ get_or bs 1 0 ∷ (a ++ (d ++ (g ++ (s ++ x))))) w
            ∙ ap (λ x. 1 ∷ get_or bs 1 0 ∷ (a ++ (d ++ (g ++ x)))) (rejoin bs good 26 8 (omega arith))
            ∙ ap (λ x. 1 ∷ get_or bs 1 0 ∷ (a ++ (d ++ x))) (rejoin bs good 18 8 (omega arith))
            ∙ ap (λ x. 1 ∷ get_or bs 1 0 ∷ (a ++ x)) (rejoin bs good 10 8 (omega arith))
            ∙ ap (λ x. 1 ∷ get_or bs 1 0 ∷ x) (rejoin bs good 2 8 (omega arith))
            ∙ from_tag 1 t (omega arith));
        formed = formed_from (tell_of bs) (drop 36 bs) (record {
          typed = and_from _ _ (number_fits 2 8 (omega arith)) (and_from _ _ (number_fits 10 8 (omega arith)) (and_from _ _ (number_fits 18 8 (omega arith)) (number_fits 26 8 (omega arith))));
          bounds = b;
          long = behind (tell_of bs) e;
        });
      }
    where
      tell_rest : List ℕ
      tell_rest = flag (eqb (get_or bs 34 0) 1) ∷ get_or bs 35 0 ∷ drop 36 bs

  lines_is : get_or bs 0 0 ≡ 2 → in_bounds (lines_of bs) ≡ true → length bs ≡ size (lines_of bs) → IsLetter bs (lines_of bs) (drop 23 bs)
  lines_is t b e =
      let h : 23 ≤ length bs = omega arith in
      let a = little (number_at bs 2 8) 8 in
      let d = little (number_at bs 10 8) 8 in
      let g = little (number_at bs 18 4) 4 in
      record {
        bytes = sym (
            lines_bytes (get_or bs 1 0) (number_at bs 2 8) (number_at bs 10 8) (number_at bs 18 4) (get_or bs 22 0) (drop 23 bs)
            ∙ ap (λ x. 2 ∷ get_or bs 1 0 ∷ (a ++ (d ++ (g ++ x)))) (sym (drop_more bs 22 0 (omega arith)))
            ∙ ap (λ x. 2 ∷ get_or bs 1 0 ∷ (a ++ (d ++ x))) (rejoin bs good 18 4 (omega arith))
            ∙ ap (λ x. 2 ∷ get_or bs 1 0 ∷ (a ++ x)) (rejoin bs good 10 8 (omega arith))
            ∙ ap (λ x. 2 ∷ get_or bs 1 0 ∷ x) (rejoin bs good 2 8 (omega arith))
            ∙ from_tag 2 t (omega arith));
        formed = formed_from (lines_of bs) (drop 23 bs) (record {
          typed = and_from _ _ (number_fits 2 8 (omega arith)) (and_from _ _ (number_fits 10 8 (omega arith)) (number_fits 18 4 (omega arith)));
          bounds = b;
          long = behind (lines_of bs) e;
        });
      }

  printed_is : get_or bs 0 0 ≡ 3 → in_bounds (printed_of bs) ≡ true → length bs ≡ size (printed_of bs) → IsLetter bs (printed_of bs) (drop 10 bs)
  printed_is t b e =
      record {
        bytes = sym (
            printed_bytes (get_or bs 1 0) (number_at bs 2 8) (drop 10 bs)
            ∙ ap (λ x. 3 ∷ get_or bs 1 0 ∷ x) (rejoin bs good 2 8 (omega arith))
            ∙ from_tag 3 t (omega arith));
        formed = formed_from (printed_of bs) (drop 10 bs) (record {
          typed = number_fits 2 8 (omega arith);
          bounds = b;
          long = behind (printed_of bs) e;
        });
      }

  -- The same, of what is read.
  read_kept : (l m : Letter) → (in_bounds l ≡ true → length bs ≡ size l → IsLetter bs l (drop (head l) bs)) → kept (length bs) l ≡ Some m → IsLetter bs m (last (carries m) bs)
  read_kept l m is e = go (cases_Bool (in_bounds l && eqb (length bs) (size l)))
    where
      go : (in_bounds l && eqb (length bs) (size l) ≡ true) ⊎ (in_bounds l && eqb (length bs) (size l) ≡ false) → IsLetter bs m (last (carries m) bs)
      go (inl t) =
          let p = and_parts (in_bounds l) (eqb (length bs) (size l)) t in
          let s : length bs ≡ size l = eqb-true (length bs) (size l) p.1 in
          let z : head l ≡ length bs - carries l = omega arith in
          let q : IsLetter bs l (last (carries l) bs) = subst (λ n. IsLetter bs l (drop n bs)) z (is p.0 s) in
          let k : Some l ≡ Some m = sym (cond-true (in_bounds l && eqb (length bs) (size l)) (Some l) None t) ∙ e in
          subst (λ x. IsLetter bs x (last (carries x) bs)) (some_same l m k) q
      go (inr t) = absurd (none_some m (sym (cond-false (in_bounds l && eqb (length bs) (size l)) (Some l) None t) ∙ e))

  read_told : (m : Letter) → get_or bs 0 0 ≡ 1 → told bs ≡ Some m → IsLetter bs m (last (carries m) bs)
  read_told m t e = go (cases_Bool (ltb (get_or bs 34 0) 2))
    where
      go : (ltb (get_or bs 34 0) 2 ≡ true) ⊎ (ltb (get_or bs 34 0) 2 ≡ false) → IsLetter bs m (last (carries m) bs)
      go (inl f) = read_kept (tell_of bs) m (tell_is t (ltb-true (get_or bs 34 0) 2 f)) (sym (cond-true (ltb (get_or bs 34 0) 2) (kept (length bs) (tell_of bs)) None f) ∙ e)
      go (inr f) = absurd (none_some m (sym (cond-false (ltb (get_or bs 34 0) 2) (kept (length bs) (tell_of bs)) None f) ∙ e))

  pub read_so : (m : Letter) → letter_of bs ≡ Some m → IsLetter bs m (last (carries m) bs)
  unfolding letter_of
  read_so m e = one (cases_Bool (eqb (get_or bs 0 0) 1))
    where
      rest_3 : Option Letter
      rest_3 = cond (eqb (get_or bs 0 0) 3) (kept (length bs) (printed_of bs)) None

      rest_2 : Option Letter
      rest_2 = cond (eqb (get_or bs 0 0) 2) (kept (length bs) (lines_of bs)) rest_3

      three : (eqb (get_or bs 0 0) 3 ≡ true) ⊎ (eqb (get_or bs 0 0) 3 ≡ false) → rest_3 ≡ Some m → IsLetter bs m (last (carries m) bs)
      three (inl t) k = read_kept (printed_of bs) m (printed_is (eqb-true (get_or bs 0 0) 3 t)) (sym (cond-true (eqb (get_or bs 0 0) 3) (kept (length bs) (printed_of bs)) None t) ∙ k)
      three (inr t) k = absurd (none_some m (sym (cond-false (eqb (get_or bs 0 0) 3) (kept (length bs) (printed_of bs)) None t) ∙ k))

      two : (eqb (get_or bs 0 0) 2 ≡ true) ⊎ (eqb (get_or bs 0 0) 2 ≡ false) → rest_2 ≡ Some m → IsLetter bs m (last (carries m) bs)
      two (inl t) k = read_kept (lines_of bs) m (lines_is (eqb-true (get_or bs 0 0) 2 t)) (sym (cond-true (eqb (get_or bs 0 0) 2) (kept (length bs) (lines_of bs)) rest_3 t) ∙ k)
      two (inr t) k = three (cases_Bool (eqb (get_or bs 0 0) 3)) (sym (cond-false (eqb (get_or bs 0 0) 2) (kept (length bs) (lines_of bs)) rest_3 t) ∙ k)

      one : (eqb (get_or bs 0 0) 1 ≡ true) ⊎ (eqb (get_or bs 0 0) 1 ≡ false) → IsLetter bs m (last (carries m) bs)
      one (inl t) = read_told m (eqb-true (get_or bs 0 0) 1 t) (sym (cond-true (eqb (get_or bs 0 0) 1) (told bs) rest_2 t) ∙ e)
      one (inr t) = two (cases_Bool (eqb (get_or bs 0 0) 2)) (sym (cond-false (eqb (get_or bs 0 0) 1) (told bs) rest_2 t) ∙ e)

-- Where nothing is read, there is no letter.
pub no_such : (bs : List ℕ) → None ≡ letter_of bs → (l : Letter) (c : List ℕ) → IsLetter bs l c → ⊥
no_such bs e l c i = none_some l (e ∙ ap letter_of i.bytes ∙ letter_back l c (formed_parts l c i.formed))

-- None where there are no bytes.
pub none_empty : (bs : List ℕ) → length bs ≡ 0 → (l : Letter) (c : List ℕ) → IsLetter bs l c → ⊥
none_empty bs e l c i = some_head l (omega (arith, ap length i.bytes, length_letter l c (formed_parts l c i.formed).long))
  where
    some_head : (l : Letter) → size l ≡ 0 → ⊥
    some_head (Tell from epoch earliest heard start finished count) z = omega arith
    some_head (Lines from first time process count) z = omega arith
    some_head (Printed from upto) z = omega arith

-- None where the first byte is none of the tags.
pub no_tag : (bs : List ℕ) (r : Option Letter) → r ≡ None → ((t : Tag) → get_or bs 0 0 ≢ tag_byte t) → r ≡ letter_of bs
unfolding letter_of
no_tag bs r e n =
    e ∙ sym (
    cond-false (eqb (get_or bs 0 0) 1) (told bs) _ (ne_eqb _ _ (n Tag.Tell))
    ∙ cond-false (eqb (get_or bs 0 0) 2) (kept (length bs) (lines_of bs)) _ (ne_eqb _ _ (n Tag.Lines))
    ∙ cond-false (eqb (get_or bs 0 0) 3) (kept (length bs) (printed_of bs)) _ (ne_eqb _ _ (n Tag.Printed)))

pub no_byte : (bs : List ℕ) (r : Option Letter) → r ≡ None → length bs ≤ 0 → r ≡ letter_of bs
no_byte [] r e h = no_tag [] r e zero_no_tag
  where
    zero_no_tag : (t : Tag) → 0 ≢ tag_byte t
    zero_no_tag Tag.Tell p = omega arith
    zero_no_tag Tag.Lines p = omega arith
    zero_no_tag Tag.Printed p = omega arith
no_byte (b ∷ bs) r e h = absurd (omega arith)

-- What is read from a part of the bytes.
module _ (bs : List ℕ) (from to : ℕ) (bytes : (i : ℕ) → get_or bs i 0 < 256) where
  abbrev pub IsReadPart : Result Letter Refusal → Type 0
  IsReadPart r = MatchResult r (λ l. (to ≤ length bs) × IsLetter (part bs from to) l (last (carries l) (part bs from to))) (λ f. (f ≡ no_letter) × (to ≤ length bs → (l : Letter) (c : List ℕ) → IsLetter (part bs from to) l c → ⊥))

  read_got : (o : Option Letter) → o ≡ letter_of (part bs from to) → to ≤ length bs → IsReadPart (ok_or o no_letter)
  read_got None e h = (refl, λ _ l c i. no_such _ e l c i)
  read_got (Some l) e h = (h, read_so (part bs from to) (part_bytes bs from (to - from) bytes) l (sym e))

  pub read_part : (g : Option (Bor (List ℕ))) (o : Option Letter) → IsGetRangeResult bs from to g → MatchOption g (o ≡ None) (λ x. o ≡ letter_of x.now) → IsReadPart (ok_or o no_letter)
  read_part None o p m =
      subst IsReadPart (ap (λ x. ok_or x no_letter) (sym m)) (
        refl,
        λ h l c i. elim p.0 [
          | inl k ↦ (let z : to - from ≡ 0 = omega arith in none_empty _ (ap (λ n. length (take n (drop from bs))) z) l c i)
          | inr k ↦ omega arith
        ],
      )
  read_part (Some x) o p m = read_got o (m ∙ ap letter_of p.0.2) p.0.1
