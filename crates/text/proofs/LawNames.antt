-- Names by their places, and what holds of every element of a list.
use Rattle.std.proofs.Common.{◌≡◌, ℕ, zero, suc, ◌<◌, Bool, true, false, cond, not, ◌&&◌, List, [], ◌∷◌, map, length, get_or, sym, refl, ap, ◌∙◌, subst, ⊎_elim, map-id, arith}
use mathlib.Core.List.{map-map}
use Rattle.std.proofs.lemmas.Bool.{both_ways, and_parts, and_from, or_cases, or_left, or_right, not-true, cond-true, cond_both}
use Rattle.grammar.specs.Syntax.{same, among, every}
use Rattle.grammar.specs.Check.{Known, count_of}
use Rattle.grammar.specs.Rules.{distinct}
use Rattle.grammar.proofs.Words.{same_is, same_self}
use Rattle.text.specs.Named.{index_of}

-- A word that is there has a place, and stands there.
pub index_in : (w : List ℕ) (vs : List (List ℕ)) → among w vs ≡ true → index_of w vs < length vs
unfolding among index_of
index_in w [] h = absurd (both_ways true (sym h) refl)
index_in w (v ∷ vs) h =
    cond_both (same w v) 0 (suc (index_of w vs)) (λ i. i < suc (length vs)) (λ t. omega arith)
    (λ f. omega (arith, index_in w vs (⊎_elim (λ t. absurd (both_ways (same w v) f t)) (λ t. t) (or_cases (same w v) (among w vs) h))))

pub at_index : (w : List ℕ) (vs : List (List ℕ)) → among w vs ≡ true → get_or vs (index_of w vs) [] ≡ w
unfolding among index_of
at_index w [] h = absurd (both_ways true (sym h) refl)
at_index w (v ∷ vs) h =
    cond_both (same w v) 0 (suc (index_of w vs)) (λ i. get_or (v ∷ vs) i [] ≡ w) (λ t. sym (same_is w v t))
    (λ f. at_index w vs (⊎_elim (λ t. absurd (both_ways (same w v) f t)) (λ t. t) (or_cases (same w v) (among w vs) h)))

-- What stands at a place is there, and at that place if none is there twice.
pub among_at : (vs : List (List ℕ)) (k : ℕ) → k < length vs → among (get_or vs k []) vs ≡ true
unfolding among
among_at [] k l = absurd (omega arith)
among_at (v ∷ vs) zero l = or_left (same v v) (among v vs) (same_self v)
among_at (v ∷ vs) (suc k) l = or_right (same (get_or vs k []) v) (among (get_or vs k []) vs) (among_at vs k (omega arith))

pub index_at : (vs : List (List ℕ)) (k : ℕ) → distinct vs ≡ true → k < length vs → index_of (get_or vs k []) vs ≡ k
unfolding distinct index_of
index_at [] k h l = absurd (omega arith)
index_at (v ∷ vs) zero h l = cond-true (same v v) 0 (suc (index_of v vs)) (same_self v)
index_at (v ∷ vs) (suc k) h l =
    (let p = and_parts (not (among v vs)) (distinct vs) h in
    let m : k < length vs = omega arith in
    cond_both (same (get_or vs k []) v) 0 (suc (index_of (get_or vs k []) vs)) (λ i. i ≡ suc k)
    (λ t. absurd (both_ways (among v vs) (not-true (among v vs) p.0) (subst (λ u. among u vs ≡ true) (same_is (get_or vs k []) v t) (among_at vs k m))))
    (λ f. ap suc (index_at vs k p.1 m)))

-- Of one at a place, of other lists, and of two tests.
pub every_at : {A : Type 0} (p : A → Bool) (xs : List A) (d : A) (k : ℕ) → every p xs ≡ true → k < length xs → p (get_or xs k d) ≡ true
unfolding every
every_at p [] d k h l = absurd (omega arith)
every_at p (x ∷ xs) d zero h l = (and_parts (p x) (every p xs) h).0
every_at p (x ∷ xs) d (suc k) h l = every_at p xs d k (and_parts (p x) (every p xs) h).1 (omega arith)

pub every_map : {A B : Type 0} (p : A → Bool) (q : B → Bool) (f : A → B) (xs : List A) → ((x : A) → p x ≡ true → q (f x) ≡ true) → every p xs ≡ true →
    every q (map f xs) ≡ true
unfolding every
every_map p q f [] g h = refl
every_map p q f (x ∷ xs) g h =
    (let r = and_parts (p x) (every p xs) h in and_from (q (f x)) (every q (map f xs)) (g x r.0) (every_map p q f xs g r.1))

pub every_both : {A : Type 0} (p q : A → Bool) (xs : List A) → every p xs ≡ true → every q xs ≡ true → every (λ x. p x && q x) xs ≡ true
unfolding every
every_both p q [] h g = refl
every_both p q (x ∷ xs) h g =
    (let r = and_parts (p x) (every p xs) h in
    let s = and_parts (q x) (every q xs) g in
    and_from (p x && q x) _ (and_from (p x) (q x) r.0 s.0) (every_both p q xs r.1 s.1))

-- Two maps that agree on those that pass; and a map with what undoes it.
pub map_same : {A B : Type 0} (p : A → Bool) (f g : A → B) (xs : List A) → ((x : A) → p x ≡ true → f x ≡ g x) → every p xs ≡ true → map f xs ≡ map g xs
unfolding every
map_same p f g [] e h = refl
map_same p f g (x ∷ xs) e h =
    (let r = and_parts (p x) (every p xs) h in
    let a = e x r.0 in
    let b = map_same p f g xs e r.1 in cc)

pub map_back : {A B : Type 0} (p : A → Bool) (f : B → A) (g : A → B) (xs : List A) → ((x : A) → p x ≡ true → f (g x) ≡ x) → every p xs ≡ true →
    map f (map g xs) ≡ xs
map_back p f g xs e h = map-map f g xs ∙ map_same p (λ x. f (g x)) (λ x. x) xs e h ∙ map-id xs

-- How many numbers a kind has, by its place.
pub count_is : (w : List ℕ) (ks : List Known) → among w (map (λ k. k.name) ks) ≡ true →
    count_of w ks ≡ get_or (map (λ k. k.count) ks) (index_of w (map (λ k. k.name) ks)) 0
unfolding among index_of count_of
count_is w [] h = absurd (both_ways true (sym h) refl)
count_is w (k ∷ ks) h =
    by (same w k.name) k.count (count_of w ks) (index_of w (map (λ k. k.name) ks)) (map (λ k. k.count) ks) (λ f. count_is w ks
    (⊎_elim (λ t. absurd (both_ways (same w k.name) f t)) (λ t. t) (or_cases (same w k.name) (among w (map (λ k. k.name) ks)) h)))
  where
    by : (b : Bool) (c n i : ℕ) (cs : List ℕ) → (b ≡ false → n ≡ get_or cs i 0) → cond b c n ≡ get_or (c ∷ cs) (cond b 0 (suc i)) 0
    by true c n i cs e = refl
    by false c n i cs e = e refl

-- What is made of parts is the same if they are.
pub from_two : {A B C : Type 0} (f : A → B → C) {a x : A} {b y : B} → a ≡ x → b ≡ y → f a b ≡ f x y
from_two f p q = cc

pub from_three : {A B C D : Type 0} (f : A → B → C → D) {a x : A} {b y : B} {c z : C} → a ≡ x → b ≡ y → c ≡ z → f a b c ≡ f x y z
from_three f p q r = cc
