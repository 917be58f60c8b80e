-- What is checked beside what is read: where one is taken the other is got, and a refusal with 1 is where no text goes on so.
use Rattle.std.proofs.Common.{◌≡◌, ℕ, zero, suc, ◌+◌, ◌-◌, ◌<◌, Bool, true, false, cond, ◌||◌, eqb, leb, List, [], ◌∷◌, ◌++◌, length, drop, codes, sym, refl, ap, ◌∙◌, subst, arith, length-append}
use Rattle.std.proofs.lemmas.Bool.{and_from, cond_both}
use Rattle.grammar.specs.Syntax.{is_letter, among, is_operand, newline}
use Rattle.grammar.specs.Parse.{Got, got, bad, and_then, read_word, checked, read_number, read_plain, read_term, read_last}
use Rattle.grammar.specs.Check.{Checked, taken, refused, then, formed, overrun, excess, stand_ins, check_plain, check_term, check_last}
use Rattle.grammar.specs.Rules.{right_term, small}
use Rattle.grammar.proofs.Reading.{Reading, Reads}
use Rattle.grammar.proofs.Leaves.{expects, signs, operands, numbers}
use Rattle.grammar.proofs.Trees.{term_reads, exprs}

-- What is taken passes Q, and X of it is got.
pub data Follows {A B : Type 0} (X : A → List ℕ → Got B) (Q : A → List ℕ → Type 0) : Checked A → Got B → Type 0 where
  took : {a : A} {c : List ℕ} {g : Got B} → g ≡ X a c → Q a c → Follows X Q (taken a c) g
  off : {n : ℕ} {c : List ℕ} {g : Got B} → (n ≡ 1 → g ≡ bad c) → Follows X Q (refused n c) g

-- The bytes bs are those of a value and c.
pub record Front (ok : Type 0) (bs q c : List ℕ) : Type 0 where
  pub splits : bs ≡ q ++ c
  pub size : length bs ≡ length q + length c
  pub fine : ok

pub front_read : {A : Type 0} {S : A → List ℕ} {ok : A → Type 0} {R : ℕ → List ℕ → Got A} {n : ℕ} {a : A} {bs c : List ℕ} → Reads R S ok [] 0 n → length bs < n →
    R n bs ≡ got a c → Front (ok a) bs (S a) c
front_read {S = S} {ok} {R} {n} {a} {bs} {c} r l h = go (subst (Reading R S ok [] 0 bs) h (r.reading bs (omega arith)))
  where
    go : Reading R S ok [] 0 bs (got a c) → Front (ok a) bs (S a) c
    go x =
        (let e : bs ≡ S a ++ c = x.splits ∙ ap (λ z. z ++ c) x.outcome.shows in
        record { splits = e; size = ap length e ∙ length-append (S a) c; fine = x.outcome.fine })

pub by_test : {A B : Type 0} {X : A → List ℕ → Got B} {Q : A → List ℕ → Type 0} {r s : Checked A} {g h : Got B} (t : Bool) →
    (t ≡ true → Follows X Q r g) → (t ≡ false → Follows X Q s h) → Follows X Q (cond t r s) (cond t g h)
by_test true f g = f refl
by_test false f g = g refl

pub formed_as : {A : Type 0} (g : Got A) → Follows got (λ _ _. Unit {0}) (formed g) g
formed_as (got a c) = took refl tt
formed_as (bad c) = off (λ _. refl)

-- One after the other.
pub next : {A B C D : Type 0} {X : A → List ℕ → Got D} {Y : B → List ℕ → Got C} {Q : A → List ℕ → Type 0} {P : B → List ℕ → Type 0} {k : A → List ℕ → Checked B}
    {r : Checked A} {g : Got D} (h : D → List ℕ → Got C) →
    Follows X Q r g → ((a : A) (c : List ℕ) → g ≡ X a c → Q a c → Follows Y P (k a c) (and_then (X a c) h)) → Follows Y P (then r k) (and_then g h)
next {Y = Y} {P = P} {k = k} h (took {a} {c} {g} e q) f = subst (λ z. Follows Y P (k a c) (and_then z h)) (sym e) (f a c e q)
next h (off {n} {c} {g} e) f = off (λ z. ap (λ x. and_then x h) (e z))

pub on : {A B C : Type 0} {X : A → List ℕ → Got C} {Y : B → List ℕ → Got C} {Q : A → List ℕ → Type 0} {P : B → List ℕ → Type 0} {k : A → List ℕ → Checked B}
    {r : Checked A} {g : Got C} → Follows X Q r g → ((a : A) (c : List ℕ) → Q a c → Follows Y P (k a c) (X a c)) → Follows Y P (then r k) g
on {Y = Y} {P = P} {k = k} (took {a} {c} {g} e q) f = subst (Follows Y P (k a c)) (sym e) (f a c q)
on (off e) f = off e

pub weaker : {A B : Type 0} {X : A → List ℕ → Got B} {Q P : A → List ℕ → Type 0} {r : Checked A} {g : Got B} →
    ((a : A) (c : List ℕ) → Q a c → P a c) → Follows X Q r g → Follows X P r g
weaker f (took {a} {c} e q) = took e (f a c q)
weaker f (off e) = off e

-- The same, where R reads the first.
pub then_as : {A B C D : Type 0} {X : B → List ℕ → Got C} {f : A → D} {R : ℕ → List ℕ → Got D} {S : D → List ℕ} {ok : D → Type 0} {Q : A → List ℕ → Type 0}
    {P : B → List ℕ → Type 0} {k : A → List ℕ → Checked B} {n : ℕ} {bs : List ℕ} {r : Checked A} (h : D → List ℕ → Got C) →
    Reads R S ok [] 0 n → length bs < n → Follows (λ a c. got (f a) c) Q r (R n bs) →
    ((a : A) (c : List ℕ) → Front (ok (f a)) bs (S (f a)) c → Q a c → Follows X P (k a c) (h (f a) c)) → Follows X P (then r k) (and_then (R n bs) h)
then_as h reads l first second = next h first (λ a c e q. second a c (front_read reads l e) q)

-- The same, where it reads with any bound.
pub then_by : {A B C D : Type 0} {X : B → List ℕ → Got C} {f : A → D} {R : List ℕ → Got D} {S : D → List ℕ} {ok : D → Type 0} {Q : A → List ℕ → Type 0}
    {P : B → List ℕ → Type 0} {k : A → List ℕ → Checked B} {bs : List ℕ} {r : Checked A} (h : D → List ℕ → Got C) →
    ((n : ℕ) → Reads (λ m bs. R bs) S ok [] 0 n) → Follows (λ a c. got (f a) c) Q r (R bs) →
    ((a : A) (c : List ℕ) → Front (ok (f a)) bs (S (f a)) c → Q a c → Follows X P (k a c) (h (f a) c)) → Follows X P (then r k) (and_then (R bs) h)
then_by {bs = bs} h reads first second = then_as h (reads (suc (length bs))) (omega arith) first second

-- The same, where both read alike.
pub leaf : {B C D : Type 0} {X : B → List ℕ → Got C} {R : List ℕ → Got D} {S : D → List ℕ} {ok : D → Type 0}
    {P : B → List ℕ → Type 0} {k : D → List ℕ → Checked B} {bs : List ℕ} (h : D → List ℕ → Got C) →
    ((n : ℕ) → Reads (λ m bs. R bs) S ok [] 0 n) →
    ((a : D) (c : List ℕ) → Front (ok a) bs (S a) c → Follows X P (k a c) (h a c)) → Follows X P (then (formed (R bs)) k) (and_then (R bs) h)
leaf {R = R} {bs = bs} h reads second = then_by h reads (formed_as (R bs)) (λ a c x _. second a c x)

-- A rule is asked of what was got: if it isn't kept, the refusal isn't 1.
pub asked : {A B : Type 0} {X : A → List ℕ → Got B} {Q : A → List ℕ → Type 0} {r : Checked A} {g : Got B} (n : ℕ) (c : List ℕ) (t : Bool) → (n ≡ 1 → ⊥) →
    (t ≡ true → Follows X Q r g) → Follows X Q (cond t r (refused n c)) g
asked n c true z f = f refl
asked n c false z f = off (λ e. absurd (z e))

-- A refusal at byte m instead isn't 1.
pub overrun_follows : {A B : Type 0} {X : A → List ℕ → Got B} {Q P : A → List ℕ → Type 0} {r : Checked A} {g : Got B} (m : ℕ) (bs : List ℕ) →
    Follows X Q r g → Follows X P (overrun m bs r) g
overrun_follows m bs (took e q) = off (λ z. absurd (omega arith))
overrun_follows {X = X} {P = P} {g = g} m bs (off {n} {c} e) =
    cond_both (leb (length bs - length c) m) (refused n c) (refused 4 (drop m bs)) (λ r. Follows X P r g) (λ _. off e) (λ _. off (λ z. absurd (omega arith)))

-- The same, if there is such a byte.
pub unless_over : {A B : Type 0} {X : A → List ℕ → Got B} {Q P : A → List ℕ → Type 0} {r : Checked A} {g : Got B} (m : ℕ) (bs : List ℕ) (t : Bool) →
    ((a : A) (c : List ℕ) → g ≡ X a c → t ≡ false → Q a c → P a c) → Follows X Q r g → Follows X P (cond t (overrun m bs r) r) g
unless_over m bs true f h = overrun_follows m bs h
unless_over m bs false f (took {a} {c} e q) = took e (f a c e refl q)
unless_over m bs false f (off e) = off e

-- One too many: only a refusal at the first byte is left.
pub excess_follows : {A B C D : Type 0} {X : A → List ℕ → Got B} {Y : C → List ℕ → Got D} {Q : A → List ℕ → Type 0} {P : C → List ℕ → Type 0} {r : Checked A} {g : Got B} {k : Got D} (bs : List ℕ) →
    ((c : List ℕ) → g ≡ bad c → k ≡ bad c) → Follows X Q r g → Follows Y P (excess bs r) k
excess_follows bs f (took e q) = off (λ z. absurd (omega arith))
excess_follows {Y = Y} {P} {k = k} bs f (off {n} {c} e) =
    cond_both (leb (length bs - length c) 0) (refused n c) (refused 4 bs) (λ r. Follows Y P r k) (λ _. off (λ z. f c (e z))) (λ _. off (λ z. absurd (omega arith)))

-- The same before more is read.
pub excess_then : {A B C D : Type 0} {X : A → List ℕ → Got B} {Y : C → List ℕ → Got D} {Q : A → List ℕ → Type 0} {P : C → List ℕ → Type 0} {r : Checked A} {g : Got B} (bs : List ℕ) (k : B → List ℕ → Got D) →
    Follows X Q r g → Follows Y P (excess bs r) (and_then g k)
excess_then bs k h = excess_follows bs (λ c e. ap (λ z. and_then z k) e) h

-- A rule is asked right behind what was got.
pub ruled : {A : Type 0} (n : ℕ) (p : A → Bool) (bs : List ℕ) → (n ≡ 1 → ⊥) → (g : Got A) →
    Follows got (λ a _. p a ≡ true) (then (formed g) (λ a c. cond (p a) (taken a c) (refused n bs))) g
ruled n p bs z (got a c) = asked n bs (p a) z (λ t. took refl t)
ruled n p bs z (bad c) = off (λ _. refl)

-- A number or a word by its first byte.
plain_follows : (names : List (List ℕ)) (b : ℕ) (bs : List ℕ) →
    Follows got (λ t _. right_term names t ≡ true) (check_plain names (b ∷ bs)) (read_plain (b ∷ bs))
unfolding right_term
plain_follows names b bs =
    by_test (is_letter b)
    (λ _. then_by _ (λ n. operands)
    (ruled 2 (λ w. among w stand_ins || among w names) (b ∷ bs) (λ z. omega arith) (checked is_operand (read_word (b ∷ bs)))) (λ w c _ p. took refl p))
    (λ _. then_by _ (λ n. numbers) (ruled 3 small (b ∷ bs) (λ z. omega arith) (read_number (b ∷ bs))) (λ ds c _ p. took refl p))

pub term_follows : (names : List (List ℕ)) (m n : ℕ) (bs : List ℕ) → length bs < n →
    Follows got (λ t _. right_term names t ≡ true) (check_term names m bs) (read_term n bs)
unfolding check_term read_term right_term
term_follows names zero n bs l = off (λ z. absurd (omega arith))
term_follows names (suc m) zero bs l = absurd (omega arith)
term_follows names (suc m) (suc n) [] l = off (λ _. refl)
term_follows names (suc m) (suc n) (b ∷ bs) l =
    by_test (eqb b 40)
    (λ _. then_as _ (term_reads n) (omega arith) (term_follows names m n bs (omega arith)) (λ t c x p.
    leaf _ (λ n. expects (codes " ")) (λ _ d y. leaf _ (λ n. signs) (λ s e z. leaf _ (λ n. expects (codes " ")) (λ _ f v.
    then_as _ (term_reads n) (omega arith) (term_follows names m n f (omega arith)) (λ u g w q.
    leaf _ (λ n. expects (codes ")")) (λ _ h _. took refl (and_from (right_term names t) _ p q))))))))
    (λ _. plain_follows names b bs)

pub last_follows : (names : List (List ℕ)) (bs : List ℕ) → Follows got (λ t _. right_term names t ≡ true) (check_last names bs) (read_last bs)
last_follows names bs = then_by _ (λ n. exprs) (term_follows names _ (suc (length bs)) bs (omega arith)) (λ t c _ p. leaf _ (λ n. expects newline) (λ _ d _. took refl p))
