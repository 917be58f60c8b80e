-- Membership by recursion over the list, which is easier to take apart than `Has`.
use Rattle.std.proofs.Common.{◌≡◌, ℕ, zero, suc, ◌<◌, ◌⊎◌, List, [], ◌∷◌, ◌++◌, length, get_or, refl, subst, inl, inr, ⊎_elim, arith}
use Rattle.std.specs.List.{ContainsAt as Has, AllByRecursion}

abbrev pub Member : {X : Type 0} → X → List X → Type 0
Member x [] = ⊥
Member x (y ∷ ys) = (y ≡ x) ⊎ Member x ys

pub has_from_member : {X : Type 0} (x : X) (xs : List X) → Member x xs → Has xs x
has_from_member x [] h = absurd h
has_from_member x (y ∷ ys) (inl e) = (zero, omega arith, λ d. e)
has_from_member x (y ∷ ys) (inr h) = let r = has_from_member x ys h in (suc r.0, omega (arith, r.1), λ d. r.2 d)

pub member_at : {X : Type 0} (x : X) (xs : List X) (k : ℕ) → k < length xs → ((d : X) → get_or xs k d ≡ x) → Member x xs
member_at x [] k l e = absurd (omega arith)
member_at x (y ∷ ys) zero l e = inl (e x)
member_at x (y ∷ ys) (suc k) l e = inr (member_at x ys k (omega arith) e)

pub member_from_has : {X : Type 0} (x : X) (xs : List X) → Has xs x → Member x xs
member_from_has x xs h = member_at x xs h.0 h.1 h.2

pub member_left : {X : Type 0} (x : X) (xs ys : List X) → Member x xs → Member x (xs ++ ys)
member_left x [] ys h = absurd h
member_left x (z ∷ xs) ys (inl e) = inl e
member_left x (z ∷ xs) ys (inr h) = inr (member_left x xs ys h)

pub member_right : {X : Type 0} (x : X) (xs ys : List X) → Member x ys → Member x (xs ++ ys)
member_right x [] ys h = h
member_right x (z ∷ xs) ys h = inr (member_right x xs ys h)

pub member_cases : {X : Type 0} (x : X) (xs ys : List X) → Member x (xs ++ ys) → Member x xs ⊎ Member x ys
member_cases x [] ys h = inr h
member_cases x (z ∷ xs) ys (inl e) = inl (inl e)
member_cases x (z ∷ xs) ys (inr h) = ⊎_elim (λ k. inl (inr k)) (λ k. inr k) (member_cases x xs ys h)

pub all_member : {X : Type 0} (P : X → Type 0) (x : X) (xs : List X) → AllByRecursion P xs → Member x xs → P x
all_member P x [] a h = absurd h
all_member P x (y ∷ ys) a (inl e) = subst P e a.0
all_member P x (y ∷ ys) a (inr h) = all_member P x ys a.1 h

pub all_from_member : {X : Type 0} (P : X → Type 0) (xs : List X) → ((x : X) → Member x xs → P x) → AllByRecursion P xs
all_from_member P [] f = tt
all_from_member P (y ∷ ys) f = (f y (inl refl), all_from_member P ys (λ x h. f x (inr h)))

-- The statements' way to speak of each place.
pub all_by_place : {X : Type 0} (P : X → Type 0) (xs : List X) → ((k : ℕ) (x : X) → k < length xs → get_or xs k x ≡ x → P x) → AllByRecursion P xs
all_by_place P [] f = tt
all_by_place P (y ∷ ys) f = (f 0 y (omega arith) refl, all_by_place P ys (λ k x l e. f (suc k) x (omega arith) e))
