-- Lines that are too long, and where there is one byte too many.
use Rattle.std.proofs.Common.{◌≡◌, ℕ, ◌-◌, ◌<◌, Bool, not, ◌&&◌, ◌||◌, cond, eqb, leb, List, [], ◌∷◌, length, take, drop, Ok, Err, Result, sym, refl, ap, ap₂, ◌∙◌, true, false, arith}
use Rattle.std.specs.Borrow.{Bor}
use Rattle.std.specs.List.{list_any}
use Rattle.std.proofs.lemmas.Bool.{lt-ltb}
use Rattle.grammar.specs.Syntax.{all}
use Rattle.grammar.specs.Check.{Checked, taken, refused, overrun, excess, too_long, in_line, line_bytes}
use Rattle.checker.specs.declared.limits.Refused.{Refused}
use Rattle.checker.specs.Refusals.{map_checked, number_of, refused_by, read, outcome}

-- A line that holds no line's end.
no_end : (bs : List ℕ) → not (list_any (λ b. eqb b 10) bs) ≡ all (λ b. not (eqb b 10)) bs
unfolding all
no_end [] = refl
no_end (b ∷ bs) = go (eqb b 10) (no_end bs)
  where
    go : (t : Bool) → not (list_any (λ b. eqb b 10) bs) ≡ all (λ b. not (eqb b 10)) bs → not (t || list_any (λ b. eqb b 10) bs) ≡ (not t && all (λ b. not (eqb b 10)) bs)
    go true h = refl
    go false h = h

pub long_line : (bs : List ℕ) (b : Bool) → line_bytes < length bs → b ≡ list_any (λ b. eqb b 10) (take line_bytes bs) → not b ≡ too_long bs
long_line bs b h e =
    ap not e ∙ no_end (take line_bytes bs) ∙ ap (λ t. t && all (λ b. not (eqb b 10)) (take line_bytes bs)) (sym (lt-ltb line_bytes (length bs) h))

-- What is read of a line, in other words, is what the code read of it.
module _ {A B C : Type 0} (f : A → C) (F : B → C) (bs : List ℕ) where
  -- A line that is too long is refused.
  never : (t : Bool) (n m : ℕ) (c d : List ℕ) (x : B × Bor (List ℕ)) → taken x [] ≡ cond {A = Checked (B × Bor (List ℕ))} t (refused n c) (refused m d) → ⊥
  never true n m c d x h = let z : ◌≡◌ {A = ℕ} 0 1 = cc in omega arith
  never false n m c d x h = let z : ◌≡◌ {A = ℕ} 0 1 = cc in omega arith

  pub line_taken : (g : Checked A) (R : Result (B × Bor (List ℕ)) Refused) (b : B) (r : Bor (List ℕ)) → map_checked f g ≡ map_checked F (read R) → taken (b, r) [] ≡ in_line bs (outcome R) →
      map_checked f (in_line bs g) ≡ taken (F b) r.now
  line_taken g R b r e h = go (too_long bs) R e h
    where
      go : (t : Bool) (R : Result (B × Bor (List ℕ)) Refused) → map_checked f g ≡ map_checked F (read R) → taken (b, r) [] ≡ cond t (overrun line_bytes bs (outcome R)) (outcome R) →
          map_checked f (cond t (overrun line_bytes bs g) g) ≡ taken (F b) r.now
      go true (Ok x) e h = absurd (let z : ◌≡◌ {A = ℕ} 0 1 = cc in omega arith)
      go true (Err y) e h = absurd (never (leb (length bs - length y.from.now) line_bytes) (number_of y.rule) 4 y.from.now (drop line_bytes bs) (b, r) h)
      go false (Ok x) e h = let p : ◌≡◌ {A = B × Bor (List ℕ)} (b, r) x = cc in e ∙ ap (λ (q : B × Bor (List ℕ)). taken (F q.0) q.1.now) (sym p)
      go false (Err y) e h = absurd (let z : ◌≡◌ {A = ℕ} 0 1 = cc in omega arith)

  cut : (t : Bool) (n m : ℕ) (c d : List ℕ) (x : Refused) → refused_by x ≡ cond {A = Checked (B × Bor (List ℕ))} t (refused n c) (refused m d) → map_checked f (cond t (refused n c) (refused m d)) ≡ refused_by x
  cut true n m c d x h = let p : n ≡ number_of x.rule = cc in let q : c ≡ x.from.now = cc in ap₂ refused p q
  cut false n m c d x h = let p : m ≡ number_of x.rule = cc in let q : d ≡ x.from.now = cc in ap₂ refused p q

  pub line_refused : (g : Checked A) (R : Result (B × Bor (List ℕ)) Refused) (x : Refused) → map_checked f g ≡ map_checked F (read R) → refused_by x ≡ in_line bs (outcome R) →
      map_checked f (in_line bs g) ≡ refused_by x
  line_refused g R x e h = go (too_long bs) g R e h
    where
      go : (t : Bool) (g : Checked A) (R : Result (B × Bor (List ℕ)) Refused) → map_checked f g ≡ map_checked F (read R) → refused_by x ≡ cond t (overrun line_bytes bs (outcome R)) (outcome R) →
          map_checked f (cond t (overrun line_bytes bs g) g) ≡ refused_by x
      go true (taken a c) (Ok y) e h = let p : ◌≡◌ {A = ℕ} 4 (number_of x.rule) = cc in let q : drop line_bytes bs ≡ x.from.now = cc in ap₂ refused p q
      go true (taken a c) (Err y) e h = absurd (let z : ◌≡◌ {A = ℕ} 0 1 = cc in omega arith)
      go true (refused n c) (Ok y) e h = absurd (let z : ◌≡◌ {A = ℕ} 0 1 = cc in omega arith)
      go true (refused n c) (Err y) e h =
          let p : n ≡ number_of y.rule = cc in
          let q : c ≡ y.from.now = cc in
          ap₂ (λ m d. map_checked f (cond (leb (length bs - length d) line_bytes) (refused m d) (refused 4 (drop line_bytes bs)))) p q
          ∙ cut (leb (length bs - length y.from.now) line_bytes) (number_of y.rule) 4 y.from.now (drop line_bytes bs) x h
      go false g (Ok y) e h = absurd (let z : ◌≡◌ {A = ℕ} 0 1 = cc in omega arith)
      go false g (Err y) e h = let p : number_of y.rule ≡ number_of x.rule = cc in let q : y.from.now ≡ x.from.now = cc in e ∙ ap₂ refused p q

-- What was read of a line that is not too long, was read.
pub line_kept : {A B : Type 0} (bs : List ℕ) (R : Result (B × Bor (List ℕ)) Refused) (x : B × Bor (List ℕ)) → taken x [] ≡ in_line bs (outcome R) → (g : Checked A) → (R ≡ Ok x) × (in_line bs g ≡ g)
line_kept {B = B} bs R x h g = go (too_long bs) R h
  where
    go : (t : Bool) (R : Result (B × Bor (List ℕ)) Refused) → taken x [] ≡ cond t (overrun line_bytes bs (outcome R)) (outcome R) → (R ≡ Ok x) × (cond t (overrun line_bytes bs g) g ≡ g)
    go true (Ok y) h = absurd (let z : ◌≡◌ {A = ℕ} 0 1 = cc in omega arith)
    go true (Err y) h = absurd (never {A = Unit {0}} {C = Unit {0}} (λ _. tt) (λ _. tt) bs (leb (length bs - length y.from.now) line_bytes) (number_of y.rule) 4 y.from.now (drop line_bytes bs) x h)
    go false (Ok y) h = (let p : y ≡ x = cc in ap (λ q. Ok q) p, refl)
    go false (Err y) h = absurd (let z : ◌≡◌ {A = ℕ} 0 1 = cc in omega arith)

pub map_same : {A : Type 0} (g : Checked A) → map_checked (λ x. x) g ≡ g
map_same (taken a c) = refl
map_same (refused n c) = refl

pub refused_of : {A : Type 0} (g : Checked A) (n : ℕ) (c : List ℕ) → map_checked (λ _. tt {0}) g ≡ refused n c → g ≡ refused n c
refused_of (taken a d) n c e = absurd (let z : ◌≡◌ {A = ℕ} 0 1 = cc in omega arith)
refused_of (refused m d) n c e = let h : m ≡ n = cc in let k : d ≡ c = cc in ap₂ refused h k

pub left_same : {A B C : Type 0} (f : A → C) (F : B → C) (g : Checked A) (h : Checked B) → map_checked f g ≡ map_checked F h → map_checked (λ _. tt {0}) g ≡ map_checked (λ _. tt {0}) h
left_same f F (taken a c) (taken b d) e = let q : c ≡ d = cc in ap (λ r. taken tt r) q
left_same f F (taken a c) (refused m d) e = absurd (let z : ◌≡◌ {A = ℕ} 0 1 = cc in omega arith)
left_same f F (refused n c) (taken b d) e = absurd (let z : ◌≡◌ {A = ℕ} 0 1 = cc in omega arith)
left_same f F (refused n c) (refused m d) e = let p : n ≡ m = cc in let q : c ≡ d = cc in ap₂ refused p q

-- Where one line is too many, it is refused as the code refuses it.
pub one_over : {A B C : Type 0} (f : A → B) (bs : List ℕ) (g : Checked A) (R : Result (B × Bor (List ℕ)) Refused) (x : Refused) → map_checked f g ≡ read R →
    refused_by x ≡ overrun 0 bs (outcome R) → excess {B = C} bs g ≡ refused_by x
one_over {A} {B} {C} f bs (taken a c) (Ok y) x e h = let p : ◌≡◌ {A = ℕ} 4 (number_of x.rule) = cc in let q : bs ≡ x.from.now = cc in ap₂ refused p q
one_over {A} {B} {C} f bs (taken a c) (Err y) x e h = absurd (let z : ◌≡◌ {A = ℕ} 0 1 = cc in omega arith)
one_over {A} {B} {C} f bs (refused n c) (Ok y) x e h = absurd (let z : ◌≡◌ {A = ℕ} 0 1 = cc in omega arith)
one_over {A} {B} {C} f bs (refused n c) (Err y) x e h =
    let p : n ≡ number_of y.rule = cc in
    let q : c ≡ y.from.now = cc in
    ap₂ (λ m d. cond {A = Checked C} (leb (length bs - length d) 0) (refused m d) (refused 4 bs)) p q ∙ last (leb (length bs - length y.from.now) 0) h
  where
    last : (u : Bool) → refused_by x ≡ cond {A = Checked (B × Bor (List ℕ))} u (refused (number_of y.rule) y.from.now) (refused 4 bs) →
        cond {A = Checked C} u (refused (number_of y.rule) y.from.now) (refused 4 bs) ≡ refused_by x
    last true h = let p : number_of y.rule ≡ number_of x.rule = cc in let q : y.from.now ≡ x.from.now = cc in ap₂ refused p q
    last false h = let p : ◌≡◌ {A = ℕ} 4 (number_of x.rule) = cc in let q : bs ≡ x.from.now = cc in ap₂ refused p q
