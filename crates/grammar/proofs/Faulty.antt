-- What is so of a refusal with another number than 1, one thing checked after the other.
use Rattle.std.proofs.Common.{◌≡◌, ℕ, suc, ◌-◌, ◌<◌, ◌≤◌, Bool, true, false, cond, leb, List, [], ◌++◌, length, drop, sym, refl, ap, ◌∙◌, subst, arith}
use Rattle.std.proofs.lemmas.Bool.{both_ways, leb-true, leb-false}
use Rattle.grammar.specs.Parse.{Got, got, bad, and_then, expect}
use Rattle.grammar.specs.Check.{Checked, taken, refused, then, formed, overrun, excess}
use Rattle.grammar.specs.Faults.{Fault}
use Rattle.grammar.proofs.Reading.{Reads}
use Rattle.grammar.proofs.Leaves.{expects}
use Rattle.grammar.proofs.Follow.{Follows, took, off, Front, front_read, formed_as}

-- What is taken passes Q, and a refusal with another number than 1 is a fault F.
pub data Faulty {A : Type 0} (Q : A → List ℕ → Type 0) (F : ℕ → List ℕ → Type 0) : Checked A → Type 0 where
  fine : {a : A} {c : List ℕ} → Q a c → Faulty Q F (taken a c)
  fault : {n : ℕ} {c : List ℕ} → ((n ≡ 1 → ⊥) → F n c) → Faulty Q F (refused n c)

abbrev pub Faults : {A : Type 0} → (ℕ → List ℕ → Type 0) → Checked A → Type 0
Faults F = Faulty (λ _ _. Unit {0}) F

pub by_either : {A : Type 0} {Q : A → List ℕ → Type 0} {F : ℕ → List ℕ → Type 0} {r s : Checked A} (t : Bool) →
    (t ≡ true → Faulty Q F r) → (t ≡ false → Faulty Q F s) → Faulty Q F (cond t r s)
by_either true f g = f refl
by_either false f g = g refl

-- The fault that is found in the whole text where rest is left.
pub record Found (whole : List ℕ) (n : ℕ) (rest : List ℕ) : Type 0 where
  pub front : List ℕ
  pub splits : whole ≡ front ++ rest
  pub what : Fault front rest n

-- A refusal with 1.
pub no_fault : {A : Type 0} {Q : A → List ℕ → Type 0} {F : ℕ → List ℕ → Type 0} {c : List ℕ} → Faulty Q F (refused 1 c)
no_fault = fault (λ z. absurd (z refl))

pub at_fault : {A : Type 0} {Q : A → List ℕ → Type 0} {F : ℕ → List ℕ → Type 0} {n : ℕ} {c : List ℕ} → F n c → Faulty Q F (refused n c)
at_fault x = fault (λ _. x)

formed_faults : {A : Type 0} {F : ℕ → List ℕ → Type 0} (g : Got A) → Faults F (formed g)
formed_faults (got a c) = fine tt
formed_faults (bad c) = no_fault

-- One after the other.
pub afters : {A B C : Type 0} {X : A → List ℕ → Got C} {Q : A → List ℕ → Type 0} {R : A → List ℕ → Type 0} {P : B → List ℕ → Type 0} {F : ℕ → List ℕ → Type 0}
    {k : A → List ℕ → Checked B} {r : Checked A} {g : Got C} → Follows X Q r g → Faulty R F r →
    ((a : A) (c : List ℕ) → g ≡ X a c → Q a c → R a c → Faulty P F (k a c)) → Faulty P F (then r k)
afters (took {a} {c} e q) (fine x) f = f a c e q x
afters (off e) (fault x) f = fault x

-- The same, where the bytes that were read don't matter.
pub ended : {A B : Type 0} {R : A → List ℕ → Type 0} {P : B → List ℕ → Type 0} {F : ℕ → List ℕ → Type 0} {k : A → List ℕ → Checked B} {r : Checked A} → Faulty R F r →
    ((a : A) (c : List ℕ) → R a c → Faulty P F (k a c)) → Faulty P F (then r k)
ended (fine {a} {c} x) f = f a c x
ended (fault x) f = fault x

-- The same, where R reads the first.
pub then_faults : {A B D : Type 0} {f : A → D} {R : ℕ → List ℕ → Got D} {S : D → List ℕ} {ok : D → Type 0} {Q : A → List ℕ → Type 0}
    {P : B → List ℕ → Type 0} {F : ℕ → List ℕ → Type 0} {k : A → List ℕ → Checked B} {n : ℕ} {bs : List ℕ} {r : Checked A} →
    Reads R S ok [] 0 n → length bs < n → Follows (λ a c. got (f a) c) Q r (R n bs) → Faults F r →
    ((a : A) (c : List ℕ) → Front (ok (f a)) bs (S (f a)) c → Q a c → Faulty P F (k a c)) → Faulty P F (then r k)
then_faults reads l x y f = afters x y (λ a c e q _. f a c (front_read reads l e) q)

-- The same, where it reads with any bound.
pub by_faults : {A B D : Type 0} {f : A → D} {R : List ℕ → Got D} {S : D → List ℕ} {ok : D → Type 0} {Q : A → List ℕ → Type 0}
    {P : B → List ℕ → Type 0} {F : ℕ → List ℕ → Type 0} {k : A → List ℕ → Checked B} {bs : List ℕ} {r : Checked A} →
    ((n : ℕ) → Reads (λ m bs. R bs) S ok [] 0 n) → Follows (λ a c. got (f a) c) Q r (R bs) → Faults F r →
    ((a : A) (c : List ℕ) → Front (ok (f a)) bs (S (f a)) c → Q a c → Faulty P F (k a c)) → Faulty P F (then r k)
by_faults {bs = bs} reads x y f = then_faults (reads (suc (length bs))) (omega arith) x y f

-- The same, where it is just read.
pub leaf_faults : {B D : Type 0} {R : List ℕ → Got D} {S : D → List ℕ} {ok : D → Type 0} {P : B → List ℕ → Type 0} {F : ℕ → List ℕ → Type 0}
    {k : D → List ℕ → Checked B} {bs : List ℕ} → ((n : ℕ) → Reads (λ m bs. R bs) S ok [] 0 n) →
    ((a : D) (c : List ℕ) → R bs ≡ got a c → Front (ok a) bs (S a) c → Faulty P F (k a c)) → Faulty P F (then (formed (R bs)) k)
leaf_faults {R = R} {bs = bs} reads f = afters (formed_as (R bs)) (formed_faults (R bs)) (λ a c e _ _. f a c e (front_read (reads (suc (length bs))) (omega arith) e))

-- The same, where it is just these bytes.
pub bytes_faults : {B : Type 0} {P : B → List ℕ → Type 0} {F : ℕ → List ℕ → Type 0} {k : Unit {0} → List ℕ → Checked B} (p : List ℕ) (bs : List ℕ) →
    ((u : Unit {0}) (c : List ℕ) → bs ≡ p ++ c → Faulty P F (k u c)) → Faulty P F (then (formed (expect p bs)) k)
bytes_faults p bs f = leaf_faults (λ n. expects p) (λ u c _ x. f u c x.splits)

-- Where byte m is one too many, if it is one.
pub over_faults : {A : Type 0} {Q : A → List ℕ → Type 0} {F G : ℕ → List ℕ → Type 0} {r : Checked A} (m : ℕ) (bs : List ℕ) (t : Bool) → (t ≡ true → G 4 (drop m bs)) →
    ((n : ℕ) (c : List ℕ) → (t ≡ true → leb (length bs - length c) m ≡ true) → F n c → G n c) → Faulty Q F r → Faulty Q G (cond t (overrun m bs r) r)
over_faults m bs true g f (fine q) = at_fault (g refl)
over_faults m bs true g f (fault {n} {c} x) =
    by_either (leb (length bs - length c) m) (λ t. fault (λ z. f n c (λ _. t) (x z))) (λ _. at_fault (g refl))
over_faults m bs false g f (fine q) = fine q
over_faults m bs false g f (fault {n} {c} x) = fault (λ z. f n c (λ t. absurd (both_ways true (sym t) refl)) (x z))

-- Where the first byte is one too many.
pub excess_faults : {A B : Type 0} {Q : A → List ℕ → Type 0} {P : B → List ℕ → Type 0} {F G : ℕ → List ℕ → Type 0} {r : Checked A} (bs : List ℕ) → G 4 bs →
    ((n : ℕ) (c : List ℕ) → length bs - length c ≤ 0 → F n c → G n c) → Faulty Q F r → Faulty P G (excess bs r)
excess_faults bs g f (fine q) = at_fault g
excess_faults bs g f (fault {n} {c} x) =
    by_either (leb (length bs - length c) 0) (λ t. fault (λ z. f n c (leb-true (length bs - length c) 0 t) (x z))) (λ _. at_fault g)

-- And a refusal of the form there.
pub excess_form : {A B : Type 0} {P : B → List ℕ → Type 0} {F : ℕ → List ℕ → Type 0} {r : Checked A} (bs : List ℕ) → r ≡ refused 1 bs → Faulty P F (excess bs r)
excess_form {P = P} {F} bs e =
    subst (λ z. Faulty P F (excess bs z)) (sym e)
    (by_either (leb (length bs - length bs) 0) (λ _. no_fault) (λ f. absurd (omega (arith, leb-false (length bs - length bs) 0 f))))

-- What is read behind the bytes p.
pub headed : {A : Type 0} {R : List ℕ → Got A} {S : A → List ℕ} {ok : A → Type 0} (p : List ℕ) → ((n : ℕ) → Reads (λ m bs. R bs) S ok [] 0 n) → (bs c : List ℕ) (x : A) →
    and_then (expect p bs) (λ _ d. R d) ≡ got x c → (bs ≡ p ++ (S x ++ c)) × ok x
headed {A} {R} {S} {ok} p reads bs c x h = go (expect p bs) refl h
  where
    go : (g : Got (Unit {0})) → expect p bs ≡ g → and_then g (λ _ d. R d) ≡ got x c → (bs ≡ p ++ (S x ++ c)) × ok x
    go (got _ d) e k =
        (let l : length bs < suc (length bs) = omega arith in
        let q = (front_read (expects p {e = 0} {n = suc (length bs)}) l e).splits in
        let z = front_read (reads (suc (length d))) (omega arith) k in
        (q ∙ ap (λ y. p ++ y) z.splits, z.fine))
    go (bad d) e k = (let z : ◌≡◌ {A = ℕ} 0 1 = cc in absurd (omega arith))
