-- The order of messages is a strict order, total on messages with different keys.
use Rattle.std.proofs.Common.{◌≡◌, ℕ, ◌<◌, ◌≤◌, Bool, true, ◌&&◌, ◌||◌, eqb, ltb, ◌⊎◌, Decides, sym, ◌∙◌, subst, inl, inr, ⊎_elim, arith}
use Rattle.std.proofs.lemmas.Bool.{cases_order}
use Rattle.std.proofs.lemmas.Bool.Decides.{Decides-eqb, Decides-and, Decides-or, Decides-ltb}
use Rattle.meaning.specs.declared.Message.{Message}
use Rattle.meaning.specs.Model.{before}

-- One level of a lexicographic order: a is less than b, or they are the same and the next level decides.
pub data Level (a b : ℕ) (P : Type 0) : Type 0 where
  less : a < b → Level a b P
  same : a ≡ b → P → Level a b P

level_decides : (a b : ℕ) (r : Bool) (P : Type 0) → Decides r P → Decides (ltb a b || (eqb a b && r)) (Level a b P)
level_decides a b r P h =
    let d = Decides-or (ltb a b) (eqb a b && r) (Decides-ltb a b) (Decides-and (eqb a b) r (Decides-eqb a b) h) in
    (λ e. ⊎_elim (λ l. less l) (λ p. same p.0 p.1) (d.0 e), λ l. d.1 (to_sum l))
  where
    to_sum : Level a b P → (a < b) ⊎ ((a ≡ b) × P)
    to_sum (less l) = inl l
    to_sum (same e p) = inr (e, p)

level_trans : {a b c : ℕ} {P Q R : Type 0} → (P → Q → R) → Level a b P → Level b c Q → Level a c R
level_trans f (less l) (less k) = less (omega arith)
level_trans f (less l) (same e q) = less (omega arith)
level_trans f (same d p) (less k) = less (omega arith)
level_trans f (same d p) (same e q) = same (d ∙ e) (f p q)

level_irreflexive : {a : ℕ} {P : Type 0} → (P → ⊥) → Level a a P → ⊥
level_irreflexive f (less l) = omega arith
level_irreflexive f (same e p) = f p

-- Where the numbers are the same the next level has to decide.
level_total : (a b : ℕ) {P Q : Type 0} → (a ≡ b → P ⊎ Q) → Level a b P ⊎ Level b a Q
level_total a b f =
    ⊎_elim (λ e. ⊎_elim (λ p. inl (same e p)) (λ q. inr (same (sym e) q)) (f e)) (λ h. ⊎_elim (λ l. inl (less l)) (λ l. inr (less l)) h)
    (cases_order a b)

level_le : {a b : ℕ} {P : Type 0} → Level a b P → a ≤ b
level_le (less l) = omega arith
level_le (same e p) = omega arith

-- What `before` tests.
abbrev pub Before : Message → Message → Type 0
Before a b = Level a.time b.time (Level a.to b.to (Level a.from b.from (a.count < b.count)))

pub before_decides : (a b : Message) → Decides (before a b) (Before a b)
unfolding before
before_decides a b =
    level_decides a.time b.time _ _
    (level_decides a.to b.to _ _ (level_decides a.from b.from _ _ (Decides-ltb a.count b.count)))

pub before_trans : (a b c : Message) → before a b ≡ true → before b c ≡ true → before a c ≡ true
before_trans a b c h k =
    (before_decides a c).1
    (level_trans (level_trans (level_trans (λ l m. omega arith))) ((before_decides a b).0 h) ((before_decides b c).0 k))

pub before_irreflexive : (a : Message) → before a a ≡ true → ⊥
before_irreflexive a h =
    level_irreflexive (level_irreflexive (level_irreflexive (λ l. omega arith))) ((before_decides a a).0 h)

-- One of two comes before the other.
abbrev pub Apart : Message → Message → Type 0
Apart a b = (before a b ≡ true) ⊎ (before b a ≡ true)

pub apart_swap : (a b : Message) → Apart a b → Apart b a
apart_swap a b h = ⊎_elim (λ p. inr p) (λ p. inl p) h

-- Messages that are not of one sender and with one count are apart.
pub apart : (a b : Message) → (a.from ≡ b.from → a.count ≡ b.count → ⊥) → Apart a b
apart a b h =
    ⊎_elim (λ l. inl ((before_decides a b).1 l)) (λ l. inr ((before_decides b a).1 l))
    (level_total a.time b.time
    (λ _. level_total a.to b.to (λ _. level_total a.from b.from (λ e. differ e (cases_order a.count b.count)))))
  where
    differ : a.from ≡ b.from → (a.count ≡ b.count) ⊎ ((a.count < b.count) ⊎ (b.count < a.count)) → (a.count < b.count) ⊎ (b.count < a.count)
    differ e (inl c) = absurd (h e c)
    differ e (inr k) = k

-- Messages to different processes are apart.
pub apart_to : (a b : Message) → (a.to ≡ b.to → ⊥) → Apart a b
apart_to a b h =
    ⊎_elim (λ l. inl ((before_decides a b).1 l)) (λ l. inr ((before_decides b a).1 l))
    (level_total a.time b.time (λ _. level_total a.to b.to (λ e. absurd (h e))))

-- Messages in either order would be the same one.
pub before_asymmetric : (a b : Message) → before a b ≡ true → before b a ≡ true → ⊥
before_asymmetric a b h k = before_irreflexive a (before_trans a b a h k)

pub before_differs : (a b : Message) → before a b ≡ true → a ≡ b → ⊥
before_differs a b h e = before_irreflexive b (subst (λ z. before z b ≡ true) e h)

-- An earlier message comes before a later one, and what comes before is not later.
pub earlier_before : (a b : Message) → a.time < b.time → before a b ≡ true
earlier_before a b l = (before_decides a b).1 (less l)

pub before_time : (a b : Message) → before a b ≡ true → a.time ≤ b.time
before_time a b h = level_le ((before_decides a b).0 h)
