-- Elements written one behind the other.
use Rattle.std.proofs.Common.{◌≡◌, ℕ, suc, ◌+◌, ◌<◌, ◌≤◌, ◌≢◌, ◌⊎◌, List, [], ◌∷◌, ◌++◌, length, take, drop, set, sym, refl, ap, ◌∙◌, inl, inr, ⊎_elim, add-zero, arith}
use Rattle.std.proofs.lemmas.List.{length-set, length-append, append_assoc, set_comm, set-set, set_past, set_at, length-take-le, length-drop, take-append-drop, drop_at, take_at}
use Rattle.std.proofs.lemmas.Bool.{cond-true, cond-false, cases_lt, lt-ltb, le-ltb}
use Rattle.text.specs.Writes.{Row, row_of, push, writes}

module _ {A : Type 0} where
  pub writes_on : (xs ys : List A) (r : Row A) → writes (xs ++ ys) r ≡ writes ys (writes xs r)
  unfolding writes
  writes_on [] ys r = refl
  writes_on (x ∷ xs) ys r = writes_on xs ys (push x r)

  push_in : (x : A) (n : ℕ) (xs : List A) → n < length xs → push x (row_of n xs) ≡ row_of (n + 1) (set xs n x)
  push_in x n xs h = cond-true _ _ _ (lt-ltb n (length xs) h)

  push_full : (x : A) (n : ℕ) (xs : List A) → length xs ≤ n → push x (row_of n xs) ≡ row_of n xs
  push_full x n xs h = cond-false _ _ _ (le-ltb n (length xs) h)

  -- As many elements are lent as before.
  pub writes_length : (ys : List A) (n : ℕ) (xs : List A) → length (writes ys (row_of n xs)).items ≡ length xs
  unfolding writes
  writes_length [] n xs = refl
  writes_length (y ∷ ys) n xs =
      ⊎_elim (λ h. ap (λ r. length (writes ys r).items) (push_in y n xs h) ∙ writes_length ys (n + 1) (set xs n y) ∙ length-set xs n y)
      (λ h. ap (λ r. length (writes ys r).items) (push_full y n xs h) ∙ writes_length ys n xs) (cases_lt n (length xs))

  -- What is written later leaves what stands before.
  writes_behind : (ys : List A) (m n : ℕ) (xs : List A) (v : A) → m < n →
      writes ys (row_of n (set xs m v)) ≡ row_of (writes ys (row_of n xs)).used (set (writes ys (row_of n xs)).items m v)
  unfolding writes
  writes_behind [] m n xs v h = refl
  writes_behind (y ∷ ys) m n xs v h =
      (let ne : m ≢ n = omega arith in
      ⊎_elim
      (λ l.
      ap (writes ys) (push_in y n (set xs m v) (omega (arith, length-set xs m v)) ∙ ap (row_of (n + 1)) (set_comm xs m n v y ne))
      ∙ writes_behind ys m (n + 1) (set xs n y) v (omega arith)
      ∙ ap (λ r. row_of (writes ys r).used (set (writes ys r).items m v)) (sym (push_in y n xs l)))
      (λ l.
      ap (writes ys) (push_full y n (set xs m v) (omega (arith, length-set xs m v))) ∙ writes_behind ys m n xs v h
      ∙ ap (λ r. row_of (writes ys r).used (set (writes ys r).items m v)) (sym (push_full y n xs l)))
      (cases_lt n (length xs)))

  patch : (a v : A) (ys : List A) (n : ℕ) (xs : List A) →
      row_of (writes (a ∷ ys) (row_of n xs)).used (set (writes (a ∷ ys) (row_of n xs)).items n v) ≡ writes (v ∷ ys) (row_of n xs)
  unfolding writes
  patch a v ys n xs = go (cases_lt n (length xs))
    where
      go : (n < length xs) ⊎ (length xs ≤ n) →
          row_of (writes ys (push a (row_of n xs))).used (set (writes ys (push a (row_of n xs))).items n v) ≡ writes ys (push v (row_of n xs))
      go (inl l) =
          ap (λ r. row_of (writes ys r).used (set (writes ys r).items n v)) (push_in a n xs l)
          ∙ sym (writes_behind ys n (n + 1) (set xs n a) v (omega arith)) ∙ ap (λ z. writes ys (row_of (n + 1) z)) (set-set xs n a v)
          ∙ ap (writes ys) (sym (push_in v n xs l))
      go (inr l) =
          ap (λ r. row_of (writes ys r).used (set (writes ys r).items n v)) (push_full a n xs l)
          ∙ ap (row_of (writes ys (row_of n xs)).used) (set_past (writes ys (row_of n xs)).items n v (omega (arith, writes_length ys n xs)))
          ∙ ap (writes ys) (sym (push_full v n xs l))

  -- An element that was written first and is put again.
  pub patched : (a v : A) (ys : List A) (n u : ℕ) (xs zs : List A) → row_of u zs ≡ writes (a ∷ ys) (row_of n xs) →
      row_of u (set zs n v) ≡ writes (v ∷ ys) (row_of n xs)
  patched a v ys n u xs zs e = ap (λ r. row_of r.used (set r.items n v)) e ∙ patch a v ys n xs

  -- With places enough, so many more are in use.
  used_after : (ws : List A) (n : ℕ) (xs : List A) → n + length ws ≤ length xs → (writes ws (row_of n xs)).used ≡ n + length ws
  unfolding writes
  used_after [] n xs h = omega arith
  used_after (w ∷ ws) n xs h =
      ap (λ r. (writes ws r).used) (push_in w n xs (omega arith)) ∙ used_after ws (n + 1) (set xs n w) (omega (arith, length-set xs n w)) ∙ (omega arith)

  -- After these, there are places for m more.
  pub room_on : (ws : List A) (m : ℕ) (r r' : Row A) → r' ≡ writes ws r → r.used + (length ws + m) ≤ length r.items →
      (r'.used ≡ r.used + length ws) × (r'.used + m ≤ length r'.items)
  room_on ws m r r' e h =
      let u = ap (λ x. x.used) e ∙ used_after ws r.used r.items (omega arith) in
      let l = ap (λ x. length x.items) e ∙ writes_length ws r.used r.items in
      (u, omega arith)

  -- All that is written, from the first place on.
  writes_all : (ws : List A) (n : ℕ) (front xs : List A) → length front ≡ n → length ws ≤ length xs →
      writes ws (row_of n (front ++ xs)) ≡ row_of (n + length ws) (front ++ (ws ++ drop (length ws) xs))
  unfolding writes
  writes_all [] n front xs e h = ap (λ m. row_of m (front ++ xs)) (sym (add-zero n))
  writes_all (w ∷ ws) n front [] e h = absurd (omega arith)
  writes_all (w ∷ ws) n front (x ∷ xs) e h =
      ap (writes ws)
      (push_in w n (front ++ (x ∷ xs)) (omega (arith, length-append front (x ∷ xs))) ∙ ap (row_of (n + 1)) (set_at front x xs w n e ∙ sym (append_assoc front (w ∷ []) xs)))
      ∙ writes_all ws (n + 1) (front ++ w ∷ []) xs (omega (arith, length-append front (w ∷ []))) (omega arith)
      ∙ ap (λ m. row_of m ((front ++ w ∷ []) ++ (ws ++ drop (length ws) xs))) (omega arith)
      ∙ ap (row_of (n + suc (length ws))) (append_assoc front (w ∷ []) (ws ++ drop (length ws) xs))

  pub writes_over : (ws xs : List A) → length ws ≤ length xs → writes ws (row_of 0 xs) ≡ row_of (length ws) (ws ++ drop (length ws) xs)
  writes_over ws xs h = writes_all ws 0 [] xs refl h ∙ ap (λ m. row_of m (ws ++ drop (length ws) xs)) (omega arith)

  -- How many are in use does not depend on what is written.
  pub pushed_same : (a b : A) (r : Row A) → (writes (a ∷ []) r).used ≡ (writes (b ∷ []) r).used
  unfolding writes
  pushed_same a b r =
      ⊎_elim (λ h. ap (λ x. x.used) (push_in a r.used r.items h) ∙ ap (λ x. x.used) (sym (push_in b r.used r.items h)))
      (λ h. ap (λ x. x.used) (push_full a r.used r.items h) ∙ ap (λ x. x.used) (sym (push_full b r.used r.items h)))
      (cases_lt r.used (length r.items))

module _ {A : Type 0} where
  -- What was written can be read.
  pub writes_read : (ws : List A) (n : ℕ) (xs : List A) → n + length ws ≤ length xs → take (length ws) (drop n (writes ws (row_of n xs)).items) ≡ ws
  writes_read ws n xs h =
      let l : length (take n xs) ≡ n = length-take-le n xs (omega arith) in
      let e = ap (λ z. writes ws (row_of n z)) (sym (take-append-drop n xs)) ∙ writes_all ws n (take n xs) (drop n xs) l (omega (arith, length-drop n xs)) in
      ap (λ r. take (length ws) (drop n r.items)) e
      ∙ ap (take (length ws)) (drop_at (take n xs) (ws ++ drop (length ws) (drop n xs)) n l) ∙ take_at ws (drop (length ws) (drop n xs)) (length ws) refl

-- The words of a branch, of which two are put when the lines in it are written.
pub branch_rows : (E B C : List ℕ) (m n : ℕ) (r r1 r2 r3 r4 r5 r6 r7 r8 : Row ℕ) →
    r1 ≡ writes (5 ∷ []) r → r2 ≡ writes (0 ∷ []) r1 → r3 ≡ writes (0 ∷ []) r2 → r4 ≡ writes E r3 → r5 ≡ writes B r4 → r6 ≡ row_of r5.used (set r5.items r1.used m) →
    r7 ≡ writes C r6 → r8 ≡ row_of r7.used (set r7.items r2.used n) → r8 ≡ writes (5 ∷ m ∷ n ∷ E ++ B ++ C) r
unfolding writes
branch_rows E B C m n r r1 r2 r3 r4 r5 r6 r7 r8 e1 e2 e3 e4 e5 e6 e7 e8 =
    let f4 : r4 ≡ writes (0 ∷ 0 ∷ E) r1 = e4 ∙ ap (writes E) (e3 ∙ ap (writes (0 ∷ [])) e2) in
    let f5 : r5 ≡ writes (0 ∷ 0 ∷ E ++ B) r1 = e5 ∙ ap (writes B) f4 ∙ sym (writes_on (0 ∷ 0 ∷ E) B r1) in
    let f6 : r6 ≡ writes (m ∷ 0 ∷ E ++ B) r1 = e6 ∙ patched 0 m (0 ∷ E ++ B) r1.used r5.used r1.items r5.items f5 in
    let f7 : r7 ≡ writes (m ∷ 0 ∷ E ++ B ++ C) r1 = e7 ∙ ap (writes C) f6 ∙ sym (writes_on (m ∷ 0 ∷ E ++ B) C r1) in
    let u : r2.used ≡ (writes (m ∷ []) r1).used = ap (λ x. x.used) e2 ∙ pushed_same 0 m r1 in
    let f8 = patched 0 n (E ++ B ++ C) (writes (m ∷ []) r1).used r7.used (writes (m ∷ []) r1).items r7.items f7 in
    e8 ∙ ap (λ i. row_of r7.used (set r7.items i n)) u ∙ f8 ∙ ap (writes (m ∷ n ∷ E ++ B ++ C)) e1

-- The words of a repeat.
pub repeat_rows : (E B : List ℕ) (m : ℕ) (r r1 r2 r3 r4 r5 : Row ℕ) →
    r1 ≡ writes (6 ∷ []) r → r2 ≡ writes (0 ∷ []) r1 → r3 ≡ writes E r2 → r4 ≡ writes B r3 → r5 ≡ row_of r4.used (set r4.items r1.used m) → r5 ≡ writes (6 ∷ m ∷ E ++ B) r
unfolding writes
repeat_rows E B m r r1 r2 r3 r4 r5 e1 e2 e3 e4 e5 =
    let f3 : r3 ≡ writes (0 ∷ E) r1 = e3 ∙ ap (writes E) e2 in
    let f4 : r4 ≡ writes (0 ∷ E ++ B) r1 = e4 ∙ ap (writes B) f3 ∙ sym (writes_on (0 ∷ E) B r1) in
    e5 ∙ patched 0 m (E ++ B) r1.used r4.used r1.items r4.items f4 ∙ ap (writes (m ∷ E ++ B)) e1

-- Where no place is lent nothing is written.
pub nothing_written : {A : Type 0} (ws : List A) → writes ws (row_of 0 []) ≡ row_of 0 []
unfolding writes
nothing_written [] = refl
nothing_written (w ∷ ws) = nothing_written ws
