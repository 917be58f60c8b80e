-- Messages of one sender with counts that follow each other are distinct.
use Rattle.std.proofs.Common.{◌≡◌, ℕ, suc, ◌+◌, ◌<◌, ◌≤◌, List, [], ◌∷◌, length, get_or, refl, arith}
use Rattle.std.specs.List.{AllByRecursion}
use Rattle.std.proofs.ByRecursion.{All-weaker}
use Rattle.meaning.specs.declared.Message.{Message}
use Rattle.meaning.proofs.Order.{Apart, apart}
use Rattle.meaning.proofs.Ordered.{Distinct}
use Rattle.meaning.proofs.Exec.{Counted}

-- All from f, counted c, c + 1 and so on.
abbrev pub Numbered : ℕ → ℕ → List Message → Type 0
Numbered f c [] = Unit {0}
Numbered f c (x ∷ xs) = ((x.from ≡ f) × (x.count ≡ c)) × Numbered f (suc c) xs

-- From f, with a count from low up to and without high.
pub record Between (f low high : ℕ) (x : Message) : Type 0 where
  pub from : x.from ≡ f
  pub low_is : low ≤ x.count
  pub high_is : x.count < high

pub numbered_between : (f c : ℕ) (xs : List Message) → Numbered f c xs → AllByRecursion (Between f c (c + length xs)) xs
numbered_between f c [] h = tt
numbered_between f c (x ∷ xs) h = (
  record { from = h.0.0; low_is = omega arith; high_is = omega arith },
  All-weaker (Between f (suc c) (suc c + length xs)) (Between f c (c + suc (length xs)))
      (λ y b. record { from = b.from; low_is = omega arith; high_is = omega arith }) xs (numbered_between f (suc c) xs h.1),
)

pub numbered_distinct : (f c : ℕ) (xs : List Message) → Numbered f c xs → Distinct xs
numbered_distinct f c [] h = tt
numbered_distinct f c (x ∷ xs) h = (
  All-weaker (Between f (suc c) (suc c + length xs)) (Apart x) (λ y b. apart x y (λ _ e. omega (arith, h.0.1, b.low_is))) xs
      (numbered_between f (suc c) xs h.1),
  numbered_distinct f (suc c) xs h.1,
)

-- The same said by places.
pub numbered_by_place :
    (f c : ℕ) (xs : List Message) → ((k : ℕ) (x : Message) → k < length xs → get_or xs k x ≡ x → (x.from ≡ f) × (x.count ≡ c + k)) → Numbered f c xs
numbered_by_place f c [] h = tt
numbered_by_place f c (x ∷ xs) h =
    let a = h 0 x (omega arith) refl in (
      (a.0, omega (arith, a.1)),
      numbered_by_place f (suc c) xs (λ k y l e. let b = h (suc k) y (omega arith) e in (b.0, omega (arith, b.1))),
    )

pub counted_numbered : (ps m n c : ℕ) (xs : List Message) → Counted ps m n c xs → Numbered m c xs
counted_numbered ps m n c [] h = tt
counted_numbered ps m n c (x ∷ xs) h = ((h.0.from, h.0.count), counted_numbered ps m n (suc c) xs h.1)

pub counted_later : (ps m n c : ℕ) (xs : List Message) → Counted ps m n c xs → AllByRecursion (λ y. n < y.time) xs
counted_later ps m n c [] h = tt
counted_later ps m n c (x ∷ xs) h = (h.0.later, counted_later ps m n (suc c) xs h.1)

pub counted_to : (ps m n c : ℕ) (xs : List Message) → Counted ps m n c xs → AllByRecursion (λ y. y.to < ps) xs
counted_to ps m n c [] h = tt
counted_to ps m n c (x ∷ xs) h = (h.0.to, counted_to ps m n (suc c) xs h.1)
