-- What reading bytes from the left means: the bytes read show the value, or can go on to show one; and what is answered hangs on those
-- bytes and the next one only.
use Rattle.std.proofs.Common.{◌≡◌, ℕ, zero, suc, ◌+◌, ◌<◌, ◌≤◌, Bool, true, false, cond, List, [], ◌∷◌, ◌++◌, length, sym, refl, ap, ◌∙◌, subst, append_assoc, append-nil, arith, length-append}
use Rattle.grammar.specs.Parse.{Got, got, bad, and_then}

-- The bytes behind, and the same answer with others behind.
abbrev pub rest_of : {A : Type 0} → Got A → List ℕ
rest_of (got a k) = k
rest_of (bad k) = k

abbrev pub with_rest : {A : Type 0} → Got A → List ℕ → Got A
with_rest (got a k) c = got a c
with_rest (bad k) c = bad c

-- The bytes q can go on to show a value.
pub record GoesOn {A : Type 0} (S : A → List ℕ) (ok : A → Type 0) (q : List ℕ) : Type 0 where
  pub more : List ℕ
  pub value : A
  pub shows : q ++ more ≡ S value
  pub fine : ok value

pub record Shown {A : Type 0} (S : A → List ℕ) (ok : A → Type 0) (q : List ℕ) (a : A) : Type 0 where
  pub shows : q ≡ S a
  pub fine : ok a

abbrev pub Outcome : {A : Type 0} → (A → List ℕ) → (A → Type 0) → List ℕ → Got A → Type 0
Outcome S ok q (got a k) = Shown S ok q a
Outcome S ok q (bad k) = GoesOn S ok q

-- g is what R answers on bs, behind the bytes p; R m may read fewer than m + e bytes.
pub record Reading {A : Type 0} (R : ℕ → List ℕ → Got A) (S : A → List ℕ) (ok : A → Type 0) (p : List ℕ) (e : ℕ) (bs : List ℕ) (g : Got A) : Type 0 where
  pub front : List ℕ
  pub splits : bs ≡ front ++ rest_of g
  pub local : (b : ℕ) (c more : List ℕ) (m : ℕ) → rest_of g ≡ b ∷ c → length (front ++ b ∷ more) < m + e → R m (front ++ b ∷ more) ≡ with_rest g (b ∷ more)
  pub outcome : Outcome S ok (p ++ front) g

pub record Reads {A : Type 0} (R : ℕ → List ℕ → Got A) (S : A → List ℕ) (ok : A → Type 0) (p : List ℕ) (e n : ℕ) : Type 0 where
  pub goes_on : GoesOn S ok p
  pub reading : (bs : List ℕ) → length bs < n + e → Reading R S ok p e bs (R n bs)

abbrev pub seq : {A B : Type 0} → (ℕ → List ℕ → Got A) → (A → ℕ → List ℕ → Got B) → ℕ → List ℕ → Got B
seq R K n bs = and_then (R n bs) (λ a c. K a n c)

module _ {A : Type 0} {S : A → List ℕ} {ok : A → Type 0} where
  -- The value is there already.
  pub done : {p : List ℕ} {e n : ℕ} (a : A) → p ≡ S a → ok a → Reads (λ m bs. got a bs) S ok p e n
  done {p} a h o =
      record {
        goes_on = record { more = []; value = a; shows = append-nil p ∙ h; fine = o };
        reading = λ bs l. record { front = []; splits = refl; local = λ b c more m r k. refl; outcome = record { shows = append-nil p ∙ h; fine = o } };
      }

  -- No value goes on so.
  pub fails : {p : List ℕ} {e n : ℕ} → GoesOn S ok p → Reads (λ m bs. bad bs) S ok p e n
  fails {p} g =
      record {
        goes_on = g;
        reading = λ bs l. record { front = []; splits = refl; local = λ b c more m r k. refl; outcome = subst (GoesOn S ok) (sym (append-nil p)) g };
      }

  pub by_test : {p : List ℕ} {e n : ℕ} {X Y : ℕ → List ℕ → Got A} (t : Bool) → (t ≡ true → Reads X S ok p e n) → (t ≡ false → Reads Y S ok p e n) →
      Reads (λ m bs. cond t (X m bs) (Y m bs)) S ok p e n
  by_test true f g = f refl
  by_test false f g = g refl

  -- It answers before it reads any byte.
  pub here : {R : ℕ → List ℕ → Got A} {p : List ℕ} {e : ℕ} (bs : List ℕ) (g : Got A) → rest_of g ≡ bs →
      ((b : ℕ) (c more : List ℕ) (m : ℕ) → bs ≡ b ∷ c → R m (b ∷ more) ≡ with_rest g (b ∷ more)) → Outcome S ok p g → Reading R S ok p e bs g
  here {R} {p} bs g h l o =
      record {
        front = [];
        splits = sym h;
        local = λ b c more m r k. l b c more m (sym h ∙ r);
        outcome = subst (λ q. Outcome S ok q g) (sym (append-nil p)) o;
      }

  -- At the end of the bytes.
  pub at_end : {R : ℕ → List ℕ → Got A} {p : List ℕ} {e : ℕ} (g : Got A) → rest_of g ≡ [] → Outcome S ok p g → Reading R S ok p e [] g
  at_end g h o = here [] g h (λ b c more m r. absurd (nil_cons b c r)) o
    where
      nil_cons : (b : ℕ) (c : List ℕ) → [] ≡ b ∷ c → ⊥
      nil_cons b c r = let z : ◌≡◌ {A = ℕ} 0 1 = cc in omega arith

  -- At the first byte.
  pub at_first : {R : ℕ → List ℕ → Got A} {p : List ℕ} {e : ℕ} (b : ℕ) (bs : List ℕ) (g : Got A) → rest_of g ≡ b ∷ bs →
      ((m : ℕ) (c : List ℕ) → R m (b ∷ c) ≡ with_rest g (b ∷ c)) → Outcome S ok p g → Reading R S ok p e (b ∷ bs) g
  at_first {R} b bs g h l o =
      here (b ∷ bs) g h (λ d c more m r. (let q : b ≡ d = cc in subst (λ x. R m (x ∷ more) ≡ with_rest g (x ∷ more)) q (l m more))) o

  -- By its first byte, which is read.
  pub eats : {R X : ℕ → List ℕ → Got A} {p : List ℕ} {e f : ℕ} (b : ℕ) (bs : List ℕ) (g : Got A) → ((m : ℕ) (c : List ℕ) → R m (b ∷ c) ≡ X m c) → e ≤ suc f →
      Reading X S ok (p ++ b ∷ []) f bs g → Reading R S ok p e (b ∷ bs) g
  eats {p = p} b bs g h l r =
      record {
        front = b ∷ r.front;
        splits = ap (λ x. b ∷ x) r.splits;
        local = λ d c more m q k. h m (r.front ++ d ∷ more) ∙ r.local d c more m q (omega arith);
        outcome = subst (λ x. Outcome S ok x g) (append_assoc p (b ∷ []) r.front) r.outcome;
      }

  -- By its first byte, which is left.
  pub sees : {R X : ℕ → List ℕ → Got A} {p : List ℕ} {e : ℕ} (b : ℕ) (bs : List ℕ) (g : Got A) → ((m : ℕ) (c : List ℕ) → R m (b ∷ c) ≡ X m (b ∷ c)) →
      Reading X S ok p e (b ∷ bs) g → Reading R S ok p e (b ∷ bs) g
  sees {R} {X} {p} {e} b bs g h r = record { front = r.front; splits = r.splits; local = λ d c more m q k. at_front r.front d c more m r.splits q ∙ r.local d c more m q k; outcome = r.outcome }
    where
      at_front : (w : List ℕ) (d : ℕ) (c more : List ℕ) (m : ℕ) → b ∷ bs ≡ w ++ rest_of g → rest_of g ≡ d ∷ c → R m (w ++ d ∷ more) ≡ X m (w ++ d ∷ more)
      at_front [] d c more m s q = let z : b ≡ d = cc in subst (λ x. R m (x ∷ more) ≡ X m (x ∷ more)) z (h m more)
      at_front (x ∷ w) d c more m s q = let z : b ≡ x = cc in subst (λ y. R m (y ∷ (w ++ d ∷ more)) ≡ X m (y ∷ (w ++ d ∷ more))) z (h m (w ++ d ∷ more))

  -- Behind the same bytes.
  pub behind : {R : ℕ → List ℕ → Got A} {p q : List ℕ} {e n : ℕ} → p ≡ q → Reads R S ok q e n → Reads R S ok p e n
  behind {R} {e = e} {n} h r = subst (λ z. Reads R S ok z e n) (sym h) r

  -- With one more that it may read.
  pub shift : {R : ℕ → List ℕ → Got A} {p : List ℕ} {n : ℕ} → Reads (λ m. R (suc m)) S ok p 1 n → Reads R S ok p 0 (suc n)
  shift {R} {p} {n} r =
      record {
        goes_on = r.goes_on;
        reading = λ bs l. (let x = r.reading bs (omega arith) in
            record { front = x.front; splits = x.splits; local = λ b c more m q k. at x.front b c more m (R (suc n) bs) q x.local k; outcome = x.outcome });
      }
    where
      at : (w : List ℕ) (b : ℕ) (c more : List ℕ) (m : ℕ) (g : Got A) → rest_of g ≡ b ∷ c →
          ((b : ℕ) (c more : List ℕ) (m : ℕ) → rest_of g ≡ b ∷ c → length (w ++ b ∷ more) < m + 1 → R (suc m) (w ++ b ∷ more) ≡ with_rest g (b ∷ more)) →
          length (w ++ b ∷ more) < m + 0 → R m (w ++ b ∷ more) ≡ with_rest g (b ∷ more)
      at w b c more zero g q h k = absurd (omega arith)
      at w b c more (suc m) g q h k = h b c more m q (omega arith)

  pub unshift : {R : ℕ → List ℕ → Got A} {p : List ℕ} {n : ℕ} → Reads R S ok p 0 (suc n) → Reads (λ m. R (suc m)) S ok p 1 n
  unshift r =
      record {
        goes_on = r.goes_on;
        reading = λ bs l. (let x = r.reading bs (omega arith) in
            record { front = x.front; splits = x.splits; local = λ b c more m q k. x.local b c more (suc m) q (omega arith); outcome = x.outcome });
      }

  pub nothing_left : {R : ℕ → List ℕ → Got A} {p : List ℕ} → GoesOn S ok p → Reads R S ok p 0 zero
  nothing_left g = record { goes_on = g; reading = λ bs l. absurd (omega arith) }

  pub weaker : {R : ℕ → List ℕ → Got A} {p : List ℕ} {e n : ℕ} {T : A → List ℕ} {fine : A → Type 0} → ((a : A) → ok a → (S a ≡ T a) × fine a) → Reads R S ok p e n → Reads R T fine p e n
  weaker {R} {p} {e} {n} {T} {fine} f r =
      record {
        goes_on = on p r.goes_on;
        reading = λ bs l. (let x = r.reading bs l in record { front = x.front; splits = x.splits; local = x.local; outcome = out (p ++ x.front) (R n bs) x.outcome });
      }
    where
      on : (q : List ℕ) → GoesOn S ok q → GoesOn T fine q
      on q g = record { more = g.more; value = g.value; shows = g.shows ∙ (f g.value g.fine).0; fine = (f g.value g.fine).1 }

      out : (q : List ℕ) (g : Got A) → Outcome S ok q g → Outcome T fine q g
      out q (got a k) o = record { shows = o.shows ∙ (f a o.fine).0; fine = (f a o.fine).1 }
      out q (bad k) o = on q o

-- A reader that goes by the length of what it reads reads with any bound.
pub by_length : {A : Type 0} {R : ℕ → List ℕ → Got A} {S : A → List ℕ} {ok : A → Type 0} → ((n : ℕ) → Reads R S ok [] 0 n) → {e n : ℕ} →
    Reads (λ m bs. R (suc (length bs)) bs) S ok [] e n
by_length r =
    record {
      goes_on = (r zero).goes_on;
      reading = λ bs l. (let x = (r (suc (length bs))).reading bs (omega arith) in
          record {
            front = x.front;
            splits = x.splits;
            local = λ b c more m q k. x.local b c more (suc (length (x.front ++ b ∷ more))) q (omega arith);
            outcome = x.outcome;
          });
    }

-- One after the other. What the second may read, f, is at least e less what the first has read.
module _
    {A B : Type 0} {R : ℕ → List ℕ → Got A} {S : A → List ℕ} {ok : A → Type 0} {K : A → ℕ → List ℕ → Got B} {T : B → List ℕ} {fine : B → Type 0}
    (p : List ℕ) (e n f : ℕ) (big : (a : A) → ok a → e ≤ f + length (S a))
    (first : Reads R S ok [] e n) (second : (a : A) → ok a → Reads (K a) T fine (p ++ S a) f n) where
  then_on : (q : List ℕ) → GoesOn S ok q → GoesOn T fine (p ++ q)
  then_on q g =
      (let h = (second g.value g.fine).goes_on in
      record {
        more = g.more ++ h.more;
        value = h.value;
        shows =
            append_assoc p q (g.more ++ h.more) ∙ ap (λ x. p ++ x) (sym (append_assoc q g.more h.more) ∙ ap (λ x. x ++ h.more) g.shows)
            ∙ sym (append_assoc p (S g.value) h.more) ∙ h.shows;
        fine = h.fine;
      })

  module _
      (bs w c : List ℕ) (a : A) (s : bs ≡ w ++ c) (sa : w ≡ S a) (o : ok a)
      (l : (b : ℕ) (d more : List ℕ) (m : ℕ) → c ≡ b ∷ d → length (w ++ b ∷ more) < m + e → R m (w ++ b ∷ more) ≡ got a (b ∷ more)) where
    -- The first answers the same, with the second's front behind.
    first_same : (v r : List ℕ) (b : ℕ) (d more : List ℕ) (m : ℕ) → c ≡ v ++ r → r ≡ b ∷ d → length (w ++ (v ++ b ∷ more)) < m + e →
        R m (w ++ (v ++ b ∷ more)) ≡ got a (v ++ b ∷ more)
    first_same [] r b d more m q z k = l b d more m (q ∙ z) k
    first_same (x ∷ v) r b d more m q z k = l x (v ++ r) (v ++ b ∷ more) m q k

    joined : (g : Got B) → Reading (K a) T fine (p ++ S a) f c g → Reading (seq R K) T fine p e bs g
    joined g r =
        record {
          front = w ++ r.front;
          splits = s ∙ ap (λ x. w ++ x) r.splits ∙ sym (append_assoc w r.front (rest_of g));
          local = λ b d more m q k.
              subst (λ z. length z < m + e → seq R K m z ≡ with_rest g (b ∷ more)) (sym (append_assoc w r.front (b ∷ more)))
              (λ k'. ap (λ z. and_then z (λ a' c'. K a' m c')) (first_same r.front (rest_of g) b d more m r.splits q k')
              ∙ r.local b d more m q (omega (arith, length-append w (r.front ++ b ∷ more), big a o, ap length sa)))
              k;
          outcome =
              subst (λ z. Outcome T fine z g) (ap (λ z. p ++ z ++ r.front) (sym sa) ∙ append_assoc p w r.front) r.outcome;
        }

  seq_by : (bs : List ℕ) → length bs < n + e → (g : Got A) → Reading R S ok [] e bs g → Reading (seq R K) T fine p e bs (and_then g (λ a c. K a n c))
  seq_by bs l (bad k) r =
      record {
        front = r.front;
        splits = r.splits;
        local = λ b d more m q h. ap (λ z. and_then z (λ a c. K a m c)) (r.local b d more m q h);
        outcome = then_on r.front r.outcome;
      }
  seq_by bs l (got a c) r =
      joined bs r.front c a r.splits r.outcome.shows r.outcome.fine r.local (K a n c)
      ((second a r.outcome.fine).reading c
      (omega (arith, length-append r.front c, ap length r.splits, ap length r.outcome.shows, big a r.outcome.fine)))

  then_reads : Reads (seq R K) T fine p e n
  then_reads = record { goes_on = subst (GoesOn T fine) (append-nil p) (then_on [] first.goes_on); reading = λ bs l. seq_by bs l (R n bs) (first.reading bs l) }

pub then :
    {A B : Type 0} {R : ℕ → List ℕ → Got A} {S : A → List ℕ} {ok : A → Type 0} {K : A → ℕ → List ℕ → Got B} {T : B → List ℕ} {fine : B → Type 0}
    {p : List ℕ} {e n : ℕ} (f : ℕ) (big : (a : A) → ok a → e ≤ f + length (S a)) → Reads R S ok [] e n →
    ((a : A) → ok a → Reads (K a) T fine (p ++ S a) f n) → Reads (seq R K) T fine p e n
then {p = p} {e} {n} f big first second = then_reads p e n f big first second

-- The same, and both may read as much.
pub and_so :
    {A B : Type 0} {R : ℕ → List ℕ → Got A} {S : A → List ℕ} {ok : A → Type 0} {K : A → ℕ → List ℕ → Got B} {T : B → List ℕ} {fine : B → Type 0}
    {p : List ℕ} {e n : ℕ} → Reads R S ok [] e n → ((a : A) → ok a → Reads (K a) T fine (p ++ S a) e n) → Reads (seq R K) T fine p e n
and_so {e = e} first second = then e (λ a o. omega arith) first second
