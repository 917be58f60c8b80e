-- Elements written one behind the other into lent ones. Where all lent ones are in use, nothing is written.
use Rattle.std.specs.Prelude.{ℕ, ◌+◌, cond, List, [], ◌∷◌, length, nat_lt, slice_set}

-- Lent elements, the first so many of them in use.
pub record Row (A : Type 0) : Type 0 where
  pub used : ℕ
  pub items : List A

abbrev pub row_of : {A : Type 0} → ℕ → List A → Row A
row_of n xs = record { used = n; items = xs }

-- One more.
abbrev pub push : {A : Type 0} → A → Row A → Row A
push x r = cond (nat_lt r.used (length r.items)) (row_of (r.used + 1) (slice_set r.items r.used x)) r

unfoldable pub writes : {A : Type 0} → List A → Row A → Row A
writes [] r = r
writes (x ∷ xs) r = writes xs (push x r)
