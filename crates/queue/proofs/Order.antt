-- A message put in where none has its key leaves those that wait in their order.
use Rattle.std.proofs.Common.{◌≡◌, ℕ, zero, suc, Bool, true, ◌&&◌, ◌||◌, eqb, ltb, List, [], ◌∷◌, get_or, refl, inl, inr, suc-le-suc, arith}
use Rattle.std.proofs.ByRecursion.{All-get_or, All-from_get_or, All-weaker}
use Rattle.std.proofs.lemmas.List.{get_or_default}
use Rattle.std.proofs.lemmas.Bool.{cond_both, both_ways}
use Rattle.std.proofs.lemmas.Bool.Decides.{nat_tests}
use Rattle.std.specs.List.{AllByRecursion}
use Rattle.meaning.specs.declared.Message.{Message}
use Rattle.meaning.specs.Model.{before, insert}
use Rattle.meaning.specs.Promise.{Sorted}
use Rattle.queue.specs.Row.{Fresh}

-- one key of the order, with p for the keys behind it
level_trans :
    (a b c : ℕ) (p q r : Bool) → (p ≡ true → q ≡ true → r ≡ true) →
    (ltb a b || (eqb a b && p)) ≡ true → (ltb b c || (eqb b c && q)) ≡ true → (ltb a c || (eqb a c && r)) ≡ true
level_trans a b c p q r t h k = grind (arith, nat_tests)

before_trans : (x y z : Message) → before x y ≡ true → before y z ≡ true → before x z ≡ true
unfolding before
before_trans x y z =
    level_trans x.time y.time z.time _ _ _
    (level_trans x.to y.to z.to _ _ _
    (level_trans x.from y.from z.from _ _ _ (λ h k. grind (arith, nat_tests))))

-- each comes before every later one, by recursion
abbrev Ordered : List Message → Type 0
Ordered [] = Unit {0}
Ordered (x ∷ xs) = AllByRecursion (λ y. before x y ≡ true) xs × Ordered xs

ordered : (xs : List Message) → Sorted xs → Ordered xs
ordered [] s = tt
ordered (x ∷ xs) s = (
  All-from_get_or (λ y. before x y ≡ true) xs x
      (λ i h. s 0 (suc i) x (get_or xs i x) (omega arith) (suc-le-suc h) refl (get_or_default xs i (get_or xs i x) x h)),
  ordered xs (λ j k y z l h. s (suc j) (suc k) y z (suc-le-suc l) (suc-le-suc h)),
)

sorted : (xs : List Message) → Ordered xs → Sorted xs
sorted [] o j k y z l h at_y at_z = absurd (omega arith)
sorted (x ∷ xs) o zero zero y z l h at_y at_z = absurd (omega arith)
sorted (x ∷ xs) o (suc j) zero y z l h at_y at_z = absurd (omega arith)
sorted (x ∷ xs) o zero (suc k) y z l h at_y at_z =
    let p : before x (get_or xs k z) ≡ true = All-get_or (λ v. before x v ≡ true) xs k z (omega arith) o.0 in
    cc
sorted (x ∷ xs) o (suc j) (suc k) y z l h at_y at_z = sorted xs o.1 j k y z (omega arith) (omega arith) at_y at_z

all_insert : (P : Message → Type 0) (m : Message) (ys : List Message) → P m → AllByRecursion P ys → AllByRecursion P (insert m ys)
unfolding insert
all_insert P m [] h a = (h, tt)
all_insert P m (y ∷ ys) h a =
    cond_both (before m y) (m ∷ y ∷ ys) (y ∷ insert m ys) (AllByRecursion P) (λ _. (h, a)) (λ _. (a.0, all_insert P m ys h a.1))

ordered_insert : (m : Message) (ys : List Message) → Ordered ys → Fresh m ys → Ordered (insert m ys)
unfolding insert
ordered_insert m [] o f = (tt, tt)
ordered_insert m (y ∷ ys) o f =
    cond_both (before m y) (m ∷ y ∷ ys) (y ∷ insert m ys) Ordered
    (λ e. ((e, All-weaker (λ z. before y z ≡ true) (λ z. before m z ≡ true) (λ z. before_trans m y z e) ys o.0), o))
    (λ e. (
      all_insert (λ z. before y z ≡ true) m ys (elim f.0 [ inl h ↦ absurd (both_ways (before m y) e h) | inr h ↦ h ]) o.0,
      ordered_insert m ys o.1 f.1,
    ))

pub sorted_insert : (m : Message) (ys : List Message) → Sorted ys → Fresh m ys → Sorted (insert m ys)
sorted_insert m ys s f = sorted (insert m ys) (ordered_insert m ys (ordered ys s) f)

pub sorted_rest : (x : Message) (xs : List Message) → Sorted (x ∷ xs) → Sorted xs
sorted_rest x xs s j k y z l h = s (suc j) (suc k) y z (suc-le-suc l) (suc-le-suc h)
