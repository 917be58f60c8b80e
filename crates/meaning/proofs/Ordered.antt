-- Lists of messages in strict order, and insertion into them.
use Rattle.std.proofs.Common.{◌≡◌, zero, suc, ◌+◌, true, false, ◌⊎◌, List, [], ◌∷◌, length, get_or, sym, refl, ap, ◌∙◌, subst, ap₂, inl, inr, arith}
use Rattle.std.specs.List.{AllByRecursion}
use Rattle.std.proofs.lemmas.List.{get_or_default}
use Rattle.std.proofs.ByRecursion.{All-get_or, All-from_get_or, All-weaker}
use Rattle.std.proofs.lemmas.Bool.{cond_both, both_ways}
use Rattle.meaning.specs.declared.Message.{Message}
use Rattle.meaning.specs.Model.{before, insert, insert_all}
use Rattle.meaning.specs.Promise.{Sorted}
use Rattle.meaning.proofs.Order.{Apart, apart_swap, before_trans, before_irreflexive, before_asymmetric, before_differs}
use Rattle.meaning.proofs.Members.{Member, all_member, all_from_member}

-- Every message of the list comes after a.
abbrev pub After : Message → List Message → Type 0
After a xs = AllByRecursion (λ y. before a y ≡ true) xs

-- Each comes before every later one.
abbrev pub Ordered : List Message → Type 0
Ordered [] = Unit {0}
Ordered (x ∷ xs) = After x xs × Ordered xs

-- Any two of the list can be told apart by the order.
abbrev pub Distinct : List Message → Type 0
Distinct [] = Unit {0}
Distinct (x ∷ xs) = AllByRecursion (Apart x) xs × Distinct xs

pub sorted_from_ordered : (xs : List Message) → Ordered xs → Sorted xs
sorted_from_ordered [] h j k x y l i p q = absurd (omega arith)
sorted_from_ordered (a ∷ cs) h zero zero x y l i p q = absurd (omega arith)
sorted_from_ordered (a ∷ cs) h zero (suc k) x y l i p q =
    let r = All-get_or (λ z. before a z ≡ true) cs k y (omega arith) h.0 in
    subst (λ z. before z y ≡ true) p (subst (λ z. before a z ≡ true) q r)
sorted_from_ordered (a ∷ cs) h (suc j) zero x y l i p q = absurd (omega arith)
sorted_from_ordered (a ∷ cs) h (suc j) (suc k) x y l i p q = sorted_from_ordered cs h.1 j k x y (omega arith) (omega arith) p q

pub ordered_from_sorted : (xs : List Message) → Sorted xs → Ordered xs
ordered_from_sorted [] h = tt
ordered_from_sorted (a ∷ cs) h = (
  All-from_get_or (λ z. before a z ≡ true) cs a
      (λ i l. h 0 (suc i) a (get_or cs i a) (omega arith) (omega arith) refl (get_or_default cs i (get_or cs i a) a l)),
  ordered_from_sorted cs (λ j k x y l i p q. h (suc j) (suc k) x y (omega arith) (omega arith) p q),
)

-- What comes before the first comes before all.
pub after_trans : (a b : Message) (xs : List Message) → before a b ≡ true → After b xs → After a xs
after_trans a b xs h k = All-weaker (λ y. before b y ≡ true) (λ y. before a y ≡ true) (λ y q. before_trans a b y h q) xs k

pub not_after_itself : (a : Message) (xs : List Message) → After a xs → Member a xs → ⊥
not_after_itself a xs h k = before_irreflexive a (all_member (λ y. before a y ≡ true) a xs h k)

-- Two lists in strict order with the same members are equal.
pub ordered_same :
    (xs ys : List Message) → Ordered xs → Ordered ys → ((x : Message) → Member x xs → Member x ys) → ((x : Message) → Member x ys → Member x xs) → xs ≡ ys
ordered_same [] [] h k f g = refl
ordered_same [] (y ∷ ys) h k f g = absurd (g y (inl refl))
ordered_same (x ∷ xs) [] h k f g = absurd (f x (inl refl))
ordered_same (x ∷ xs) (y ∷ ys) h k f g =
    let e : x ≡ y = first (f x (inl refl)) (g y (inl refl)) in
    ap₂ (λ z zs. z ∷ zs) e
    (ordered_same xs ys h.1 k.1
    (λ z i. rest x y z xs ys e h.0 i (f z (inr i))) (λ z i. rest y x z ys xs (sym e) k.0 i (g z (inr i))))
  where
    first : Member x (y ∷ ys) → Member y (x ∷ xs) → x ≡ y
    first (inl e) j = sym e
    first (inr i) (inl e) = e
    first (inr i) (inr j) =
        absurd (before_asymmetric x y (all_member (λ z. before x z ≡ true) y xs h.0 j) (all_member (λ z. before y z ≡ true) x ys k.0 i))

    rest : (a b z : Message) (cs bs : List Message) → a ≡ b → After a cs → Member z cs → Member z (b ∷ bs) → Member z bs
    rest a b z cs bs e s i (inl d) = absurd (before_differs a z (all_member (λ y. before a y ≡ true) z cs s i) (e ∙ d))
    rest a b z cs bs e s i (inr j) = j

-- What holds of a message and of all others holds of all after its insertion.
pub all_insert : (P : Message → Type 0) (x : Message) (ys : List Message) → P x → AllByRecursion P ys → AllByRecursion P (insert x ys)
unfolding insert
all_insert P x [] p h = (p, tt)
all_insert P x (y ∷ ys) p h =
    cond_both (before x y) (x ∷ y ∷ ys) (y ∷ insert x ys) (AllByRecursion P) (λ _. (p, h)) (λ _. (h.0, all_insert P x ys p h.1))

pub all_insert_all : (P : Message → Type 0) (xs ys : List Message) → AllByRecursion P xs → AllByRecursion P ys → AllByRecursion P (insert_all xs ys)
unfolding insert_all
all_insert_all P [] ys h k = k
all_insert_all P (x ∷ xs) ys h k = all_insert_all P xs (insert x ys) h.1 (all_insert P x ys h.0 k)

pub member_insert_new : (x : Message) (ys : List Message) → Member x (insert x ys)
unfolding insert
member_insert_new x [] = inl refl
member_insert_new x (y ∷ ys) =
    cond_both (before x y) (x ∷ y ∷ ys) (y ∷ insert x ys) (Member x) (λ _. inl refl) (λ _. inr (member_insert_new x ys))

pub member_insert_old : (z x : Message) (ys : List Message) → Member z ys → Member z (insert x ys)
unfolding insert
member_insert_old z x [] h = absurd h
member_insert_old z x (y ∷ ys) (inl e) =
    cond_both (before x y) (x ∷ y ∷ ys) (y ∷ insert x ys) (Member z) (λ _. inr (inl e)) (λ _. inl e)
member_insert_old z x (y ∷ ys) (inr h) =
    cond_both (before x y) (x ∷ y ∷ ys) (y ∷ insert x ys) (Member z) (λ _. inr (inr h)) (λ _. inr (member_insert_old z x ys h))

pub member_insert_all_old : (z : Message) (xs ys : List Message) → Member z ys → Member z (insert_all xs ys)
unfolding insert_all
member_insert_all_old z [] ys h = h
member_insert_all_old z (x ∷ xs) ys h = member_insert_all_old z xs (insert x ys) (member_insert_old z x ys h)

pub member_insert_all_new : (z : Message) (xs ys : List Message) → Member z xs → Member z (insert_all xs ys)
unfolding insert_all
member_insert_all_new z [] ys h = absurd h
member_insert_all_new z (x ∷ xs) ys (inl e) =
    member_insert_all_old z xs (insert x ys) (subst (λ w. Member w (insert x ys)) e (member_insert_new x ys))
member_insert_all_new z (x ∷ xs) ys (inr h) = member_insert_all_new z xs (insert x ys) h

-- What is there after an insertion was there or was inserted.
pub member_insert_all_cases : (z : Message) (xs ys : List Message) → Member z (insert_all xs ys) → Member z xs ⊎ Member z ys
member_insert_all_cases z xs ys h =
    all_member (λ w. Member w xs ⊎ Member w ys) z (insert_all xs ys)
    (all_insert_all (λ w. Member w xs ⊎ Member w ys) xs ys
    (all_from_member (λ w. Member w xs ⊎ Member w ys) xs (λ w i. inl i)) (all_from_member (λ w. Member w xs ⊎ Member w ys) ys (λ w i. inr i)))
    h

pub insert_ordered : (x : Message) (ys : List Message) → Ordered ys → AllByRecursion (Apart x) ys → Ordered (insert x ys)
unfolding insert
insert_ordered x [] h a = (tt, tt)
insert_ordered x (y ∷ ys) h a =
    cond_both (before x y) (x ∷ y ∷ ys) (y ∷ insert x ys) Ordered (λ e. ((e, after_trans x y ys e h.0), h))
    (λ e. (all_insert (λ z. before y z ≡ true) x ys (other e a.0) h.0, insert_ordered x ys h.1 a.1))
  where
    other : before x y ≡ false → Apart x y → before y x ≡ true
    other e (inl t) = absurd (both_ways (before x y) e t)
    other e (inr t) = t

pub insert_all_ordered : (xs ys : List Message) → Ordered ys → Distinct xs → AllByRecursion (λ x. AllByRecursion (Apart x) ys) xs → Ordered (insert_all xs ys)
unfolding insert_all
insert_all_ordered [] ys h d a = h
insert_all_ordered (x ∷ xs) ys h d a =
    insert_all_ordered xs (insert x ys) (insert_ordered x ys h a.0) d.1 (still xs d.0 a.1)
  where
    still : (zs : List Message) → AllByRecursion (Apart x) zs → AllByRecursion (λ z. AllByRecursion (Apart z) ys) zs → AllByRecursion (λ z. AllByRecursion (Apart z) (insert x ys)) zs
    still [] p q = tt
    still (z ∷ zs) p q = (all_insert (Apart z) x ys (apart_swap x z p.0) q.0, still zs p.1 q.1)

pub ordered_distinct : (xs : List Message) → Ordered xs → Distinct xs
ordered_distinct [] h = tt
ordered_distinct (x ∷ xs) h = (All-weaker (λ y. before x y ≡ true) (Apart x) (λ y b. inl b) xs h.0, ordered_distinct xs h.1)

pub length_insert : (x : Message) (ys : List Message) → length (insert x ys) ≡ suc (length ys)
unfolding insert
length_insert x [] = refl
length_insert x (y ∷ ys) =
    cond_both (before x y) (x ∷ y ∷ ys) (y ∷ insert x ys) (λ zs. length zs ≡ suc (suc (length ys))) (λ _. refl) (λ _. ap suc (length_insert x ys))

pub length_insert_all : (xs ys : List Message) → length (insert_all xs ys) ≡ length xs + length ys
unfolding insert_all
length_insert_all [] ys = omega arith
length_insert_all (x ∷ xs) ys = omega (arith, length_insert_all xs (insert x ys), length_insert x ys)
