-- Rows of numbers and things with all their rules.
use Rattle.std.proofs.Common.{◌≡◌, ℕ, zero, suc, ◌+◌, ◌-◌, true, false, cond, eqb, List, [], ◌∷◌, length, Some, None, codes, Option, sym, refl, ap, ◌∙◌, ap₂, arith}
use Rattle.std.proofs.lemmas.Bool.{eq-eqb, ne_eqb, cond-true, cond-false}
use Rattle.grammar.specs.Parse.{Got, got, bad, expect, read_number, read_name}
use Rattle.grammar.specs.Syntax.{among, Thing}
use Rattle.grammar.specs.Check.{Checked, taken, refused, then, formed, Known, count_of, check_count, check_thing, Row, broken, sooner, large_at, check_one, check_row}
use Rattle.checker.specs.Refusals.{left_out, map_checked}
use Rattle.checker.specs.Texts.{Length, row_length}
use Rattle.checker.proofs.Tables.{names_of}

-- A row that breaks off.
broken_length : (k : ℕ) (large : Option (List ℕ)) (c : List ℕ) → map_checked (row_length k) (broken large c) ≡ broken large c
broken_length k None c = refl
broken_length k (Some l) c = refl

pub broken_same : {A B : Type 0} (large : Option (List ℕ)) (c : List ℕ) (n : ℕ) (d : List ℕ) → refused n d ≡ broken {A = A} large c → broken {A = B} large c ≡ refused n d
broken_same None c n d e = let p : ◌≡◌ {A = ℕ} 1 n = cc in let q : c ≡ d = cc in ap₂ refused p q
broken_same (Some l) c n d e = let p : ◌≡◌ {A = ℕ} 3 n = cc in let q : l ≡ d = cc in ap₂ refused p q

pub row_zero : (n k : ℕ) (large : Option (List ℕ)) (c : List ℕ) → n ≡ 0 → map_checked (row_length k) (check_row n large c) ≡ refused 4 c
unfolding check_row
row_zero zero k large c z = refl
row_zero (suc n) k large c z = absurd (omega arith)

-- n more may come, k were before, and large is the first so far that was too large.
module _ (n k : ℕ) (large : Option (List ℕ)) (some : n ≡ 0 → ⊥) where
  pub row_none : (bs : List ℕ) → length bs ≡ 0 → map_checked (row_length k) (check_row n large bs) ≡ broken large bs
  unfolding check_row
  row_none (b ∷ bs) h = absurd (omega arith)
  row_none [] h = empty n some
    where
      empty : (n : ℕ) → (n ≡ 0 → ⊥) → map_checked (row_length k) (check_row n large []) ≡ broken large []
      empty zero s = absurd (s refl)
      empty (suc n) s = broken_length k large []

  module _ (b : ℕ) (c : List ℕ) where
    abbrev line : Checked Row
    line = cond (eqb b 10) (taken (record { numbers = []; large = large }) c) (cond (eqb b 32) (check_one (check_row (n - 1)) large c (read_number c)) (broken large (b ∷ c)))

    row_step : check_row n large (b ∷ c) ≡ line
    unfolding check_row
    row_step = go n some
      where
        go : (n : ℕ) → (n ≡ 0 → ⊥) → check_row n large (b ∷ c) ≡
            cond (eqb b 10) (taken (record { numbers = []; large = large }) c) (cond (eqb b 32) (check_one (check_row (n - 1)) large c (read_number c)) (broken large (b ∷ c)))
        go zero s = absurd (s refl)
        go (suc n) s =
            let m : n ≡ suc n - 1 = omega arith in
            ap (λ (j : ℕ). cond (eqb b 10) (taken (record { numbers = []; large = large }) c) (cond (eqb b 32) (check_one (check_row j) large c (read_number c)) (broken large (b ∷ c)))) m

    pub row_end : b ≡ 10 → map_checked (row_length k) (check_row n large (b ∷ c)) ≡ taken (record { count = k; large = large }) c
    row_end e =
        let z : k + 0 ≡ k = omega arith in
        ap (λ g. map_checked (row_length k) g) (row_step ∙ cond-true (eqb b 10) _ _ (eq-eqb _ _ e)) ∙ ap (λ m. taken (record { count = m; large = large }) c) z

    pub row_other : (b ≡ 10 → ⊥) → (b ≡ 32 → ⊥) → map_checked (row_length k) (check_row n large (b ∷ c)) ≡ broken large (b ∷ c)
    row_other e s =
        ap (λ g. map_checked (row_length k) g) (row_step ∙ cond-false (eqb b 10) _ _ (ne_eqb _ _ e) ∙ cond-false (eqb b 32) _ _ (ne_eqb _ _ s)) ∙ broken_length k large (b ∷ c)

    item : b ≡ 32 → (g : Got (List ℕ)) → read_number c ≡ g → map_checked (row_length k) (check_row n large (b ∷ c)) ≡ map_checked (row_length k) (check_one (check_row (n - 1)) large c g)
    item s g r =
        ap (λ g. map_checked (row_length k) g) (row_step ∙ cond-false (eqb b 10) _ _ (ne_eqb _ _ (λ z. omega arith)) ∙ cond-true (eqb b 32) _ _ (eq-eqb _ _ s))
        ∙ ap (λ g. map_checked (row_length k) (check_one (check_row (n - 1)) large c g)) r

    pub row_bad : b ≡ 32 → (d : List ℕ) → read_number c ≡ bad d → map_checked (row_length k) (check_row n large (b ∷ c)) ≡ broken large d
    row_bad s d r = item s (bad d) r ∙ broken_length k large d

    pub row_more : b ≡ 32 → (ds d : List ℕ) (l : Option (List ℕ)) → read_number c ≡ got ds d → l ≡ sooner large (large_at ds c) →
        map_checked (row_length k) (check_row n large (b ∷ c)) ≡ map_checked (row_length (k + 1)) (check_row (n - 1) l d)
    row_more s ds d l r x =
        item s (got ds d) r ∙ one (check_row (n - 1) (sooner large (large_at ds c)) d) ∙ ap (λ m. map_checked (row_length (k + 1)) (check_row (n - 1) m d)) (sym x)
      where
        one : (g : Checked Row) → map_checked (row_length k) (then g (λ r d. taken (record { numbers = ds ∷ r.numbers; large = r.large }) d)) ≡ map_checked (row_length (k + 1)) g
        one (taken r d) = ap (λ m. taken (record { count = m; large = r.large }) d) (let q : k + suc (length r.numbers) ≡ k + 1 + length r.numbers = omega arith in q)
        one (refused m d) = refl

-- A row that was read, by its length.
row_of : (g : Checked Row) (k : ℕ) (l : Option (List ℕ)) (c : List ℕ) → map_checked (row_length 0) g ≡ taken (record { count = k; large = l }) c →
    (r : Row) × (g ≡ taken r c) × (length r.numbers ≡ k) × (r.large ≡ l)
row_of (taken r d) k l c e =
    let f : d ≡ c = cc in
    let q : ◌≡◌ {A = Length} (record { count = 0 + length r.numbers; large = r.large }) (record { count = k; large = l }) = cc in
    let n = ap (λ (x : Length). x.count) q in
    (r, ap (λ q. taken r q) f, omega arith, ap (λ (x : Length). x.large) q)
row_of (refused m d) k l c e = absurd (let z : ◌≡◌ {A = ℕ} 0 1 = cc in omega arith)

row_refused : (g : Checked Row) (m : ℕ) (c : List ℕ) → map_checked (row_length 0) g ≡ refused m c → g ≡ refused m c
row_refused (taken r d) m c e = absurd (let z : ◌≡◌ {A = ℕ} 0 1 = cc in omega arith)
row_refused (refused n d) m c e = let h : n ≡ m = cc in let k : d ≡ c = cc in ap₂ refused h k

-- A thing, part by part.
module _ (ks : List Known) (b₀ c₁ : List ℕ) (l₁ : expect (codes "thing ") b₀ ≡ got tt c₁) (w c₂ : List ℕ) (l₂ : read_name c₁ ≡ got w c₂) where
  abbrev behind : Checked Thing
  behind = cond (among w (names_of ks)) (then (check_row (suc (length c₂)) None c₂) (λ r e. check_count ks b₀ w r e)) (refused 2 c₁)

  named : check_thing ks b₀ ≡ behind
  named =
      ap (λ (g : Checked (Unit {0})). then g (λ _ c. then (formed (read_name c)) (λ w d. cond (among w (names_of ks)) (then (check_row (suc (length d)) None d) (λ r e. check_count ks b₀ w r e)) (refused 2 c)))) (ap formed l₁)
      ∙ ap (λ (g : Checked (List ℕ)). then g (λ w d. cond (among w (names_of ks)) (then (check_row (suc (length d)) None d) (λ r e. check_count ks b₀ w r e)) (refused 2 c₁))) (ap formed l₂)

  pub thing_unknown : among w (names_of ks) ≡ false → left_out (check_thing ks b₀) ≡ refused 2 c₁
  thing_unknown h = ap (λ (g : Checked Thing). left_out g) (named ∙ cond-false (among w (names_of ks)) _ _ h)

  module _ (h : among w (names_of ks) ≡ true) (n : ℕ) (f : n ≡ suc (length c₂)) where
    rowed : check_thing ks b₀ ≡ then (check_row n None c₂) (λ r e. check_count ks b₀ w r e)
    rowed = named ∙ cond-true (among w (names_of ks)) _ _ h ∙ ap (λ m. then (check_row m None c₂) (λ r e. check_count ks b₀ w r e)) (sym f)

    pub thing_refused : (m : ℕ) (c : List ℕ) → map_checked (row_length 0) (check_row n None c₂) ≡ refused m c → left_out (check_thing ks b₀) ≡ refused m c
    thing_refused m c e =
        ap (λ (g : Checked Thing). left_out g) (rowed ∙ ap (λ (g : Checked Row). then g (λ r e. check_count ks b₀ w r e)) (row_refused (check_row n None c₂) m c e))

    module _ (k : ℕ) (l : Option (List ℕ)) (c : List ℕ) (e : map_checked (row_length 0) (check_row n None c₂) ≡ taken (record { count = k; large = l }) c) where
      counted : (X : Checked (Unit {0})) → ((r : Row) → length r.numbers ≡ k → r.large ≡ l → left_out (check_count ks b₀ w r c) ≡ X) → left_out (check_thing ks b₀) ≡ X
      counted X x =
          let p = row_of (check_row n None c₂) k l c e in
          ap (λ (g : Checked Thing). left_out g) (rowed ∙ ap (λ (g : Checked Row). then g (λ r e. check_count ks b₀ w r e)) p.1) ∙ x p.0 p.2 p.3

      pub thing_count : (k ≡ count_of w ks → ⊥) → left_out (check_thing ks b₀) ≡ refused 3 b₀
      thing_count z =
          counted (refused 3 b₀) (λ r q x. ap (λ (g : Checked Thing). left_out g) (cond-false (eqb (length r.numbers) (count_of w ks)) _ _ (ne_eqb _ _ (λ y. z (sym q ∙ y)))))

      pub thing_large : k ≡ count_of w ks → (q : List ℕ) → l ≡ Some q → left_out (check_thing ks b₀) ≡ refused 3 q
      thing_large z q y = counted (refused 3 q) (λ r p x. small r.numbers r.large (p ∙ z) (x ∙ y))
        where
          small : (ns : List (List ℕ)) (m : Option (List ℕ)) → length ns ≡ count_of w ks → m ≡ Some q → left_out (check_count ks b₀ w (record { numbers = ns; large = m }) c) ≡ refused 3 q
          small ns None p x = absurd (let z : ◌≡◌ {A = ℕ} 0 1 = cc in omega arith)
          small ns (Some l) p x = ap (λ (g : Checked Thing). left_out g) (cond-true (eqb (length ns) (count_of w ks)) _ _ (eq-eqb _ _ p)) ∙ ap (λ r. refused 3 r) (let f : l ≡ q = cc in f)

      pub thing_whole : k ≡ count_of w ks → l ≡ None → left_out (check_thing ks b₀) ≡ taken tt c
      thing_whole z y = counted (taken tt c) (λ r p x. small r.numbers r.large (p ∙ z) (x ∙ y))
        where
          small : (ns : List (List ℕ)) (m : Option (List ℕ)) → length ns ≡ count_of w ks → m ≡ None → left_out (check_count ks b₀ w (record { numbers = ns; large = m }) c) ≡ taken tt c
          small ns None p x = ap (λ (g : Checked Thing). left_out g) (cond-true (eqb (length ns) (count_of w ks)) _ _ (eq-eqb _ _ p))
          small ns (Some l) p x = absurd (let z : ◌≡◌ {A = ℕ} 0 1 = cc in omega arith)
