-- Numbers and names in rows.
use Rattle.std.proofs.Common.{◌≡◌, ℕ, zero, suc, ◌+◌, ◌-◌, ◌≤◌, Bool, true, false, ◌&&◌, List, [], ◌∷◌, ◌++◌, map, length, get_or, take, drop, replicate, sym, refl, ap, ◌∙◌, append_assoc, arith}
use Rattle.std.proofs.lemmas.Bool.{and_parts, and_from}
use Rattle.grammar.specs.Syntax.{in_word, every, show_row}
use Rattle.text.specs.Slices.{row}
use Rattle.text.specs.Writes.{Row, writes}
use Rattle.text.specs.Parts.{ReadAt}
use Rattle.text.specs.Tables.{padded, WroteRow, RowAt}
use Rattle.text.proofs.FillTerms.{first_byte}

-- What is padded is a row.
padded_take : (n m : ℕ) (xs : List ℕ) → n ≤ m → padded 0 n xs ≡ take n (xs ++ replicate m 0)
unfolding padded
padded_take zero m xs h = refl
padded_take (suc n) zero xs h = absurd (omega arith)
padded_take (suc n) (suc m) [] h = ap (λ z. 0 ∷ z) (padded_take n m [] (omega arith))
padded_take (suc n) (suc m) (x ∷ xs) h = ap (λ z. x ∷ z) (padded_take n (suc m) xs (omega arith))

pub padded_row : (n : ℕ) (xs : List ℕ) → padded 0 n xs ≡ row n xs
padded_row n xs = padded_take n n xs (omega arith)

pub padded_length : (n : ℕ) (xs : List ℕ) → length (padded 0 n xs) ≡ n
unfolding padded
padded_length zero xs = refl
padded_length (suc n) [] = ap suc (padded_length n [])
padded_length (suc n) (x ∷ xs) = ap suc (padded_length n xs)

-- The row begins with what was padded.
pub padded_front : (n : ℕ) (xs : List ℕ) → length xs ≤ n → take (length xs) (padded 0 n xs) ≡ xs
unfolding padded
padded_front n [] h = refl
padded_front zero (x ∷ xs) h = absurd (omega arith)
padded_front (suc n) (x ∷ xs) h = ap (λ z. x ∷ z) (padded_front n xs (omega arith))

-- What stands behind one of a row.
pub row_next : (es : List (List ℕ)) (k : List ℕ) → (b : ℕ) × (k' : List ℕ) × (show_row es ++ 10 ∷ k ≡ b ∷ k') × (in_word b ≡ false)
unfolding show_row
row_next [] k = (10, k, refl, refl)
row_next (e ∷ es) k = (32, _, refl, refl)

-- A row of entries: none is left, the row ends, or there is one more.
module _ {A : Type 0} (good : List ℕ → Bool) (value : List ℕ → A) (other : A) (bs : List ℕ) (n : ℕ) (r : Row A) where
  pub row_none : n ≡ 0 → RowAt good value other bs n r bs 0 r
  unfolding show_row padded writes
  row_none z ds k e g l = go ds e l
    where
      go : (ds : List (List ℕ)) → bs ≡ show_row ds ++ 10 ∷ k → length ds ≤ n → WroteRow other bs (10 ∷ k) 0 n (map value ds) r r
      go [] e l = record { goes_on = e; width_is = refl; written = ap (λ x. writes (padded other x []) r) (sym z) }
      go (d ∷ ds) e l = absurd (omega arith)

  -- The row is over, and one place more is left empty.
  pub row_over : (r1 : Row A) (bs' : List ℕ) (width : ℕ) (r' : Row A) → (n ≡ 0 → ⊥) → (get_or bs 0 0 ≡ 32 → ⊥) → r1 ≡ writes (other ∷ []) r →
      RowAt good value other bs (n - 1) r1 bs' width r' → RowAt good value other bs n r bs' width r'
  unfolding show_row every padded writes
  row_over r1 bs' width r' h b p f ds k e g l = go ds e
    where
      go : (ds : List (List ℕ)) → bs ≡ show_row ds ++ 10 ∷ k → WroteRow other bs' (10 ∷ k) width n (map value ds) r r'
      go [] e =
          let q = f [] k e refl (omega arith) in
          let s : n ≡ suc (n - 1) = omega arith in
          record { goes_on = q.goes_on; width_is = q.width_is; written = q.written ∙ ap (writes (padded other (n - 1) [])) p ∙ ap (λ x. writes (padded other x []) r) (sym s) }
      go (d ∷ ds) e = absurd (b (first_byte _ bs 32 e))

  -- One more.
  pub row_more : (r1 : Row A) (bs1 : List ℕ) (x : A) (bs2 bs' : List ℕ) (width : ℕ) (r' : Row A) → (n ≡ 0 → ⊥) → get_or bs 0 0 ≡ 32 → bs1 ≡ drop 1 bs → ReadAt good value bs1 x bs2 →
      r1 ≡ writes (x ∷ []) r → RowAt good value other bs2 (n - 1) r1 bs' width r' → RowAt good value other bs n r bs' (width + 1) r'
  unfolding show_row every padded writes
  row_more r1 bs1 x bs2 bs' width r' h b e1 f p z ds k e g l = go ds e g l
    where
      go : (ds : List (List ℕ)) → bs ≡ show_row ds ++ 10 ∷ k → every good ds ≡ true → length ds ≤ n → WroteRow other bs' (10 ∷ k) (width + 1) n (map value ds) r r'
      go [] e g l = absurd (let v = first_byte k bs 10 e in omega arith)
      go (d ∷ ds) e g l =
          let sp = and_parts (good d) (every good ds) g in
          let o = row_next ds k in
          let a = e1 ∙ ap (drop 1) e ∙ append_assoc d (show_row ds) (10 ∷ k) in
          let w = f d o.1 o.0 (a ∙ ap (λ y. d ++ y) o.2) sp.0 o.3 in
          let q = z ds k (w.1 ∙ sym o.2) sp.1 (omega arith) in
          let s : n ≡ suc (n - 1) = omega arith in
          record {
            goes_on = q.goes_on;
            width_is = let v = q.width_is in omega arith;
            written =
                q.written ∙ ap (writes (padded other (n - 1) (map value ds))) p ∙ ap (λ y. writes (y ∷ padded other (n - 1) (map value ds)) r) w.0
                ∙ ap (λ y. writes (padded other y (value d ∷ map value ds)) r) (sym s);
          }

pub every_both : (p q : List ℕ → Bool) (ds : List (List ℕ)) → every p ds ≡ true → every q ds ≡ true → every (λ d. p d && q d) ds ≡ true
unfolding every
every_both p q [] h g = refl
every_both p q (d ∷ ds) h g =
    let a = and_parts (p d) (every p ds) h in
    let b = and_parts (q d) (every q ds) g in
    and_from (p d && q d) _ (and_from (p d) (q d) a.0 b.0) (every_both p q ds a.1 b.1)
