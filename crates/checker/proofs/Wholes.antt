-- Messages, things and kinds with all their rules, one after the other, up to the end of the bytes.
use Rattle.std.proofs.Common.{◌≡◌, ℕ, zero, suc, ◌+◌, ◌-◌, ◌<◌, ◌≤◌, Bool, true, false, cond, eqb, ltb, leb, ◌⊎◌, inl, inr, List, [], ◌∷◌, ◌++◌, length, drop, Ok, Err, Result, sym, refl, ap, ◌∙◌, ap₂, length-append, arith}
use Rattle.std.specs.Borrow.{Bor}
use Rattle.std.specs.Result.{MatchResult, IsErrAnd}
use Rattle.std.proofs.lemmas.Result.{err_from_is_err_and}
use Rattle.std.proofs.lemmas.Bool.{lt-ltb, le-ltb, cases_eq, cond-true, cond-false}
use Rattle.grammar.specs.Syntax.{Kind, Thing, Note, Text, show_kinds}
use Rattle.grammar.specs.Check.{Checked, taken, refused, then, Known, check_thing, check_note, check_notes, check_things, most_notes, most_things, known, Counted, check_kind, check_kinds, check, overrun, excess, text_bytes}
use Rattle.grammar.proofs.Taken.{refused_form}
use Rattle.grammar.proofs.Wrong.{refused_fault}
use Rattle.words.specs.Reads.{first_is}
use Rattle.checker.specs.declared.Refusal.{Refusal}
use Rattle.checker.specs.declared.limits.Refused.{Refused}
use Rattle.checker.specs.declared.texts.Extent.{Extent}
use Rattle.checker.specs.Refusals.{left_out, map_checked, number_of, refused_by, ended, outcome}
use Rattle.checker.specs.Texts.{Amounts, amounts, Seen, seen, Sizes, sizes, sizes_of, sized, Answered}
use Rattle.checker.proofs.Lengths.{kind_size}
use Rattle.checker.proofs.Longs.{refused_of}

-- What was read and left out is there.
taken_of : {A : Type 0} (g : Checked A) (c : List ℕ) → left_out g ≡ taken tt c → (a : A) × (g ≡ taken a c)
taken_of (taken a d) c e = (a, let k : d ≡ c = cc in ap (λ r. taken a r) k)
taken_of (refused n d) c e = absurd (let z : ◌≡◌ {A = ℕ} 0 1 = cc in omega arith)

pub notes_end : (things n k : ℕ) (bs : List ℕ) → length bs ≡ 0 → map_checked (sized k) (check_notes things n bs) ≡ taken k []
unfolding check_notes
notes_end things n k (b ∷ bs) h = absurd (omega arith)
notes_end things zero k [] h = ap (λ m. taken m []) (let z : k + 0 ≡ k = omega arith in z)
notes_end things (suc n) k [] h = ap (λ m. taken m []) (let z : k + 0 ≡ k = omega arith in z)

pub notes_full : (things n k : ℕ) (bs : List ℕ) → n ≡ 0 → true ≡ first_is (λ b. eqb b 109) bs → map_checked (sized k) (check_notes things n bs) ≡ refused 4 bs
unfolding check_notes
notes_full things n k [] z h = absurd (let y : ◌≡◌ {A = Bool} true false = h in cc)
notes_full things (suc n) k (b ∷ bs) z h = absurd (omega arith)
notes_full things zero k (b ∷ bs) z h = ap (λ (g : Checked (List Note)). map_checked (sized k) g) (cond-true (eqb b 109) _ _ (sym h))

pub notes_other : (things n k : ℕ) (bs : List ℕ) → n ≡ 0 → (length bs ≡ 0 → ⊥) → false ≡ first_is (λ b. eqb b 109) bs → map_checked (sized k) (check_notes things n bs) ≡ refused 1 bs
unfolding check_notes
notes_other things n k [] z s h = absurd (s refl)
notes_other things (suc n) k (b ∷ bs) z s h = absurd (omega arith)
notes_other things zero k (b ∷ bs) z s h = ap (λ (g : Checked (List Note)). map_checked (sized k) g) (cond-false (eqb b 109) _ _ (sym h))

module _ (things n k : ℕ) (bs : List ℕ) (z : n ≡ 0 → ⊥) (s : length bs ≡ 0 → ⊥) where
  notes_step : check_notes things n bs ≡ then (check_note things bs) (λ x c. then (check_notes things (n - 1) c) (λ xs d. taken (x ∷ xs) d))
  unfolding check_notes
  notes_step = go n bs z s
    where
      go : (n : ℕ) (bs : List ℕ) → (n ≡ 0 → ⊥) → (length bs ≡ 0 → ⊥) → check_notes things n bs ≡ then (check_note things bs) (λ x c. then (check_notes things (n - 1) c) (λ xs d. taken (x ∷ xs) d))
      go n [] z s = absurd (s refl)
      go zero (b ∷ bs) z s = absurd (z refl)
      go (suc n) (b ∷ bs) z s =
          let m : n ≡ suc n - 1 = omega arith in
          ap (λ j. then (check_note things (b ∷ bs)) (λ x c. then (check_notes things j c) (λ xs d. taken (x ∷ xs) d))) m

  pub notes_refused : (m : ℕ) (c : List ℕ) → left_out (check_note things bs) ≡ refused m c → map_checked (sized k) (check_notes things n bs) ≡ refused m c
  notes_refused m c e =
      ap (λ g. map_checked (sized k) g) notes_step
      ∙ ap (λ g. map_checked (sized k) (then g (λ x c. then (check_notes things (n - 1) c) (λ xs d. taken (x ∷ xs) d)))) (refused_of (check_note things bs) m c e)

  pub notes_more : (c : List ℕ) → left_out (check_note things bs) ≡ taken tt c → map_checked (sized k) (check_notes things n bs) ≡ map_checked (sized (k + 1)) (check_notes things (n - 1) c)
  notes_more c e =
      let p = taken_of (check_note things bs) c e in
      ap (λ g. map_checked (sized k) g) notes_step
      ∙ ap (λ g. map_checked (sized k) (then g (λ x c. then (check_notes things (n - 1) c) (λ xs d. taken (x ∷ xs) d)))) p.1
      ∙ one p.0 (check_notes things (n - 1) c)
    where
      one : (x : Note) (g : Checked (List Note)) → map_checked (sized k) (then g (λ xs d. taken (x ∷ xs) d)) ≡ map_checked (sized (k + 1)) g
      one x (taken xs d) = ap (λ m. taken m d) (let q : k + suc (length xs) ≡ k + 1 + length xs = omega arith in q)
      one x (refused m d) = refl

-- One too many is refused in what was read as in what the code answered.
pub cut_same : {A : Type 0} (bs : List ℕ) (g : Checked A) (R : Result (Bor (List ℕ)) Refused) (x : Refused) → left_out g ≡ ended R → refused_by x ≡ overrun 0 bs (outcome R) → left_out (overrun 0 bs g) ≡ refused_by x
cut_same {A} bs (taken a c) (Ok y) x e h = let p : ◌≡◌ {A = ℕ} 4 (number_of x.rule) = cc in let q : bs ≡ x.from.now = cc in ap₂ refused p q
cut_same {A} bs (taken a c) (Err y) x e h = absurd (let z : ◌≡◌ {A = ℕ} 0 1 = cc in omega arith)
cut_same {A} bs (refused n c) (Ok y) x e h = absurd (let z : ◌≡◌ {A = ℕ} 0 1 = cc in omega arith)
cut_same {A} bs (refused n c) (Err y) x e h =
    let p : n ≡ number_of y.rule = cc in
    let q : c ≡ y.from.now = cc in
    ap₂ (λ m d. left_out (cond {A = Checked A} (leb (length bs - length d) 0) (refused m d) (refused 4 bs))) p q ∙ last (leb (length bs - length y.from.now) 0) h
  where
    last : (u : Bool) → refused_by x ≡ cond {A = Checked (Bor (List ℕ))} u (refused (number_of y.rule) y.from.now) (refused 4 bs) →
        left_out (cond {A = Checked A} u (refused (number_of y.rule) y.from.now) (refused 4 bs)) ≡ refused_by x
    last true h = let p : number_of y.rule ≡ number_of x.rule = cc in let q : y.from.now ≡ x.from.now = cc in ap₂ refused p q
    last false h = let p : ◌≡◌ {A = ℕ} 4 (number_of x.rule) = cc in let q : bs ≡ x.from.now = cc in ap₂ refused p q

-- A text of messages alone.
abbrev only_notes : Checked (List Note) → Checked Text
only_notes g = then g (λ ns c. taken (record { kinds = []; things = []; notes = ns }) c)

-- A thing before the others.
abbrev thing_first : Thing → Checked Text → Checked Text
thing_first x g = then g (λ t d. taken (record { kinds = []; things = x ∷ t.things; notes = t.notes }) d)

module _ (ks : List Known) (m n t : ℕ) (bs : List ℕ) where
  things_over : false ≡ first_is (λ b. eqb b 116) bs → check_things ks m n bs ≡ only_notes (check_notes m most_notes bs)
  unfolding check_things check_notes
  things_over e = go n bs e
    where
      go : (n : ℕ) (bs : List ℕ) → false ≡ first_is (λ b. eqb b 116) bs → check_things ks m n bs ≡ only_notes (check_notes m most_notes bs)
      go zero [] e = refl
      go (suc n) [] e = refl
      go zero (b ∷ bs) e = cond-false (eqb b 116) _ _ (sym e)
      go (suc n) (b ∷ bs) e = cond-false (eqb b 116) _ _ (sym e)

  pub things_notes : false ≡ first_is (λ b. eqb b 116) bs → (s : ℕ) → map_checked (sized 0) (check_notes m most_notes bs) ≡ taken s [] →
      map_checked (amounts t) (check_things ks m n bs) ≡ taken (record { things = t; notes = s }) []
  things_notes e s x = ap (λ g. map_checked (amounts t) g) (things_over e) ∙ one (check_notes m most_notes bs) x
    where
      one : (g : Checked (List Note)) → map_checked (sized 0) g ≡ taken s [] → map_checked (amounts t) (only_notes g) ≡ taken (record { things = t; notes = s }) []
      one (taken ns d) x =
          let f : d ≡ [] = cc in
          let k : 0 + length ns ≡ s = cc in
          let l : length ns ≡ s = omega arith in
          let z : t + 0 ≡ t = omega arith in
          ap₂ (λ a b. taken (record { things = a; notes = b }) d) z l ∙ ap (λ r. taken (record { things = t; notes = s }) r) f
      one (refused k d) x = absurd (let z : ◌≡◌ {A = ℕ} 0 1 = cc in omega arith)

  pub things_notes_refused : false ≡ first_is (λ b. eqb b 116) bs → (k : ℕ) (c : List ℕ) → map_checked (sized 0) (check_notes m most_notes bs) ≡ refused k c →
      map_checked (amounts t) (check_things ks m n bs) ≡ refused k c
  things_notes_refused e k c x = ap (λ g. map_checked (amounts t) g) (things_over e) ∙ one (check_notes m most_notes bs) x
    where
      one : (g : Checked (List Note)) → map_checked (sized 0) g ≡ refused k c → map_checked (amounts t) (only_notes g) ≡ refused k c
      one (taken ns d) x = absurd (let z : ◌≡◌ {A = ℕ} 0 1 = cc in omega arith)
      one (refused j d) x = let h : j ≡ k = cc in let f : d ≡ c = cc in ap₂ refused h f

  pub things_full : n ≡ 0 → true ≡ first_is (λ b. eqb b 116) bs → (k : ℕ) (c : List ℕ) → left_out (overrun 0 bs (check_thing ks bs)) ≡ refused k c →
      map_checked (amounts t) (check_things ks m n bs) ≡ refused k c
  unfolding check_things
  things_full z e k c x = go n bs z e x
    where
      same : (bs : List ℕ) (g : Checked Thing) → left_out (overrun 0 bs g) ≡ refused k c → map_checked (amounts t) (excess bs g) ≡ refused k c
      same bs (taken a d) x = let p : ◌≡◌ {A = ℕ} 4 k = cc in let q : bs ≡ c = cc in ap₂ refused p q
      same bs (refused i d) x = last (leb (length bs - length d) 0) x
        where
          last : (u : Bool) → left_out (cond {A = Checked Thing} u (refused i d) (refused 4 bs)) ≡ refused k c → map_checked (amounts t) (cond {A = Checked Text} u (refused i d) (refused 4 bs)) ≡ refused k c
          last true x = let p : i ≡ k = cc in let q : d ≡ c = cc in ap₂ refused p q
          last false x = let p : ◌≡◌ {A = ℕ} 4 k = cc in let q : bs ≡ c = cc in ap₂ refused p q

      go : (n : ℕ) (bs : List ℕ) → n ≡ 0 → true ≡ first_is (λ b. eqb b 116) bs → left_out (overrun 0 bs (check_thing ks bs)) ≡ refused k c → map_checked (amounts t) (check_things ks m n bs) ≡ refused k c
      go n [] z e x = absurd (let y : ◌≡◌ {A = Bool} true false = e in cc)
      go (suc n) (b ∷ bs) z e x = absurd (omega arith)
      go zero (b ∷ bs) z e x = ap (λ (g : Checked Text). map_checked (amounts t) g) (cond-true (eqb b 116) _ _ (sym e)) ∙ same (b ∷ bs) (check_thing ks (b ∷ bs)) x

  module _ (z : n ≡ 0 → ⊥) (e : true ≡ first_is (λ b. eqb b 116) bs) where
    things_step : check_things ks m n bs ≡ then (check_thing ks bs) (λ x c. thing_first x (check_things ks (m + 1) (n - 1) c))
    unfolding check_things
    things_step = go n bs z e
      where
        go : (n : ℕ) (bs : List ℕ) → (n ≡ 0 → ⊥) → true ≡ first_is (λ b. eqb b 116) bs → check_things ks m n bs ≡ then (check_thing ks bs) (λ x c. thing_first x (check_things ks (m + 1) (n - 1) c))
        go n [] z e = absurd (let y : ◌≡◌ {A = Bool} true false = e in cc)
        go zero (b ∷ bs) z e = absurd (z refl)
        go (suc n) (b ∷ bs) z e =
            let i : suc m ≡ m + 1 = omega arith in
            let j : n ≡ suc n - 1 = omega arith in
            cond-true (eqb b 116) _ _ (sym e) ∙ ap₂ (λ i j. then (check_thing ks (b ∷ bs)) (λ x c. thing_first x (check_things ks i j c))) i j

    pub things_refused : (k : ℕ) (c : List ℕ) → left_out (check_thing ks bs) ≡ refused k c → map_checked (amounts t) (check_things ks m n bs) ≡ refused k c
    things_refused k c x =
        ap (λ (g : Checked Text). map_checked (amounts t) g)
        (things_step ∙ ap (λ g. then g (λ x c. thing_first x (check_things ks (m + 1) (n - 1) c))) (refused_of (check_thing ks bs) k c x))

    pub things_more : (c : List ℕ) → left_out (check_thing ks bs) ≡ taken tt c → map_checked (amounts t) (check_things ks m n bs) ≡ map_checked (amounts (t + 1)) (check_things ks (m + 1) (n - 1) c)
    things_more c x =
        let p = taken_of (check_thing ks bs) c x in
        ap (λ (g : Checked Text). map_checked (amounts t) g) (things_step ∙ ap (λ g. then g (λ x c. thing_first x (check_things ks (m + 1) (n - 1) c))) p.1)
        ∙ one p.0 (check_things ks (m + 1) (n - 1) c)
      where
        one : (x : Thing) (g : Checked Text) → map_checked (amounts t) (thing_first x g) ≡ map_checked (amounts (t + 1)) g
        one x (taken y d) = ap (λ m. taken (record { things = m; notes = length y.notes }) d) (let q : t + suc (length y.things) ≡ t + 1 + length y.things = omega arith in q)
        one x (refused k d) = refl

-- A kind that was read, by what is kept of it.
seen_of : (g : Checked Counted) (kn : Known) (l : ℕ) (c : List ℕ) → map_checked seen g ≡ taken (record { kind = kn; left = l }) c → (k : Counted) × (g ≡ taken k c) × (known k.kind ≡ kn) × (k.left ≡ l)
seen_of (taken k d) kn l c e =
    let p : ◌≡◌ {A = Seen} (record { kind = known k.kind; left = k.left }) (record { kind = kn; left = l }) = cc in
    let f : d ≡ c = cc in
    (k, ap (λ r. taken k r) f, ap (λ (s : Seen). s.kind) p, ap (λ (s : Seen). s.left) p)
seen_of (refused m d) kn l c e = absurd (let z : ◌≡◌ {A = ℕ} 0 1 = cc in omega arith)

seen_refused : (g : Checked Counted) (m : ℕ) (c : List ℕ) → map_checked seen g ≡ refused m c → g ≡ refused m c
seen_refused (taken k d) m c e = absurd (let z : ◌≡◌ {A = ℕ} 0 1 = cc in omega arith)
seen_refused (refused n d) m c e = let h : n ≡ m = cc in let k : d ≡ c = cc in ap₂ refused h k

-- Things and messages have no kinds among them.
abbrev Kindless : Checked Text → Type 0
Kindless (taken x c) = x.kinds ≡ []
Kindless (refused m c) = Unit {0}

notes_kindless : (g : Checked (List Note)) → Kindless (only_notes g)
notes_kindless (taken ns d) = refl
notes_kindless (refused k d) = tt

first_kindless : (x : Thing) (g : Checked Text) → Kindless (thing_first x g)
first_kindless x (taken y e) = refl
first_kindless x (refused k e) = tt

thing_kindless : (g : Checked Thing) (h : List ℕ → Checked Text) → Kindless (then g (λ x c. thing_first x (h c)))
thing_kindless (taken x d) h = first_kindless x (h d)
thing_kindless (refused k d) h = tt

either_kindless : (t : Bool) (g h : Checked Text) → Kindless g → Kindless h → Kindless (cond t g h)
either_kindless true g h p q = p
either_kindless false g h p q = q

excess_kindless : (c : List ℕ) (g : Checked Thing) → Kindless (excess c g)
excess_kindless c (taken x d) = tt
excess_kindless c (refused k d) = either_kindless (leb (length c - length d) 0) (refused k d) (refused 4 c) tt tt

kindless : (ks : List Known) (m n : ℕ) (c : List ℕ) → Kindless (check_things ks m n c)
unfolding check_things
kindless ks m zero [] = refl
kindless ks m (suc n) [] = refl
kindless ks m zero (b ∷ c) = either_kindless (eqb b 116) _ _ (excess_kindless (b ∷ c) (check_thing ks (b ∷ c))) (notes_kindless (check_notes m most_notes (b ∷ c)))
kindless ks m (suc n) (b ∷ c) =
    either_kindless (eqb b 116) _ _ (thing_kindless (check_thing ks (b ∷ c)) (check_things ks (suc m) n)) (notes_kindless (check_notes m most_notes (b ∷ c)))

-- A kind before the others.
abbrev kind_first : Kind → Checked Text → Checked Text
kind_first x g = then g (λ t d. taken (record { kinds = x ∷ t.kinds; things = t.things; notes = t.notes }) d)

module _ (n : ℕ) (ks : List Known) (left k at : ℕ) (bs : List ℕ) (some : n ≡ 0 → ⊥) where
  kinds_over : false ≡ first_is (λ b. eqb b 107) bs → check_kinds n ks left bs ≡ check_things ks 0 most_things bs
  unfolding check_kinds check_things
  kinds_over e = go n bs some e
    where
      go : (n : ℕ) (bs : List ℕ) → (n ≡ 0 → ⊥) → false ≡ first_is (λ b. eqb b 107) bs → check_kinds n ks left bs ≡ check_things ks 0 most_things bs
      go zero bs s e = absurd (s refl)
      go (suc n) [] s e = refl
      go (suc n) (b ∷ bs) s e = cond-false (eqb b 107) _ _ (sym e)

  pub kinds_things : false ≡ first_is (λ b. eqb b 107) bs → (a b : ℕ) → map_checked (amounts 0) (check_things ks 0 most_things bs) ≡ taken (record { things = a; notes = b }) [] →
      map_checked (sizes at k) (check_kinds n ks left bs) ≡ taken (record { lines = at; kinds = k; things = a; notes = b }) []
  unfolding show_kinds
  kinds_things e a b x =
      ap (λ g. map_checked (sizes at k) g) (kinds_over e) ∙ one (check_things ks 0 most_things bs) (kindless ks 0 most_things bs) x
    where
      one : (g : Checked Text) → Kindless g → map_checked (amounts 0) g ≡ taken (record { things = a; notes = b }) [] → map_checked (sizes at k) g ≡ taken (record { lines = at; kinds = k; things = a; notes = b }) []
      one (taken y d) z x =
          let f : d ≡ [] = cc in
          let p : ◌≡◌ {A = Amounts} (record { things = 0 + length y.things; notes = length y.notes }) (record { things = a; notes = b }) = cc in
          let u = ap (λ (s : Amounts). s.things) p in
          let t : length y.things ≡ a = omega arith in
          let v : at + 0 ≡ at = omega arith in
          let w : k + 0 ≡ k = omega arith in
          ap (λ us. taken (record { lines = at + length (show_kinds us); kinds = k + length us; things = length y.things; notes = length y.notes }) d) z
          ∙ ap₂ (λ i j. taken (record { lines = i; kinds = j; things = length y.things; notes = length y.notes }) d) v w
          ∙ ap₂ (λ i j. taken (record { lines = at; kinds = k; things = i; notes = j }) d) t (ap (λ (s : Amounts). s.notes) p)
          ∙ ap (λ r. taken (record { lines = at; kinds = k; things = a; notes = b }) r) f
      one (refused m d) z x = absurd (let y : ◌≡◌ {A = ℕ} 0 1 = cc in omega arith)

  pub kinds_things_refused : false ≡ first_is (λ b. eqb b 107) bs → (m : ℕ) (c : List ℕ) → map_checked (amounts 0) (check_things ks 0 most_things bs) ≡ refused m c →
      map_checked (sizes at k) (check_kinds n ks left bs) ≡ refused m c
  kinds_things_refused e m c x = ap (λ g. map_checked (sizes at k) g) (kinds_over e) ∙ one (check_things ks 0 most_things bs) x
    where
      one : (g : Checked Text) → map_checked (amounts 0) g ≡ refused m c → map_checked (sizes at k) g ≡ refused m c
      one (taken y d) x = absurd (let z : ◌≡◌ {A = ℕ} 0 1 = cc in omega arith)
      one (refused j d) x = let h : j ≡ m = cc in let f : d ≡ c = cc in ap₂ refused h f

  module _ (e : true ≡ first_is (λ b. eqb b 107) bs) where
    kinds_step : check_kinds n ks left bs ≡ then (check_kind ks left bs) (λ x c. kind_first x.kind (check_kinds (n - 1) (ks ++ known x.kind ∷ []) x.left c))
    unfolding check_kinds
    kinds_step = go n bs some e
      where
        go : (n : ℕ) (bs : List ℕ) → (n ≡ 0 → ⊥) → true ≡ first_is (λ b. eqb b 107) bs →
            check_kinds n ks left bs ≡ then (check_kind ks left bs) (λ x c. kind_first x.kind (check_kinds (n - 1) (ks ++ known x.kind ∷ []) x.left c))
        go zero bs s e = absurd (s refl)
        go (suc n) [] s e = absurd (let y : ◌≡◌ {A = Bool} true false = e in cc)
        go (suc n) (b ∷ bs) s e =
            let j : n ≡ suc n - 1 = omega arith in
            cond-true (eqb b 107) _ _ (sym e)
            ∙ ap (λ j. then (check_kind ks left (b ∷ bs)) (λ x c. kind_first x.kind (check_kinds j (ks ++ known x.kind ∷ []) x.left c))) j

    pub kinds_refused : (m : ℕ) (c : List ℕ) → map_checked seen (check_kind ks left bs) ≡ refused m c → map_checked (sizes at k) (check_kinds n ks left bs) ≡ refused m c
    kinds_refused m c x =
        ap (λ (g : Checked Text). map_checked (sizes at k) g)
        (kinds_step ∙ ap (λ g. then g (λ x c. kind_first x.kind (check_kinds (n - 1) (ks ++ known x.kind ∷ []) x.left c))) (seen_refused (check_kind ks left bs) m c x))

    module _ (kn : Known) (l : ℕ) (c : List ℕ) (x : map_checked seen (check_kind ks left bs) ≡ taken (record { kind = kn; left = l }) c) where
      pub kind_shorter : length c ≤ length bs
      unfolding show_kinds
      kind_shorter =
          let p = seen_of (check_kind ks left bs) kn l c x in
          omega (arith, kind_size ks left bs p.0 c p.1 [])

      pub kinds_more : (q t : ℕ) → at ≡ t - length bs → q ≡ t - length c → length bs ≤ t →
          map_checked (sizes at k) (check_kinds n ks left bs) ≡ map_checked (sizes q (k + 1)) (check_kinds (n - 1) (ks ++ kn ∷ []) l c)
      unfolding show_kinds
      kinds_more q t a b i =
          let p = seen_of (check_kind ks left bs) kn l c x in
          ap (λ (g : Checked Text). map_checked (sizes at k) g)
          (kinds_step ∙ ap (λ g. then g (λ x c. kind_first x.kind (check_kinds (n - 1) (ks ++ known x.kind ∷ []) x.left c))) p.1)
          ∙ one p.0.kind (λ us. kind_size ks left bs p.0 c p.1 us) (check_kinds (n - 1) (ks ++ known p.0.kind ∷ []) p.0.left c)
          ∙ ap₂ (λ kn l. map_checked (sizes q (k + 1)) (check_kinds (n - 1) (ks ++ kn ∷ []) l c)) p.2 p.3
        where
          one : (y : Kind) → ((us : List Kind) → length (show_kinds (y ∷ us)) + length c ≡ length bs + length (show_kinds us)) → (g : Checked Text) →
              map_checked (sizes at k) (kind_first y g) ≡ map_checked (sizes q (k + 1)) g
          one y f (taken t d) =
              let z = f t.kinds in
              let s = kind_shorter in
              let a : at + length (show_kinds (y ∷ t.kinds)) ≡ q + length (show_kinds t.kinds) = omega arith in
              let b : k + suc (length t.kinds) ≡ k + 1 + length t.kinds = omega arith in
              ap₂ (λ i j. taken (record { lines = i; kinds = j; things = length t.things; notes = length t.notes }) d) a b
          one y f (refused m d) = refl

      pub kinds_full : n - 1 ≡ 0 → (t : ℕ) → at ≡ t - length bs → length bs ≤ t → map_checked (sizes at k) (check_kinds n ks left bs) ≡ refused 4 c
      unfolding check_kinds
      kinds_full z t a i = kinds_more (t - length c) t a refl i ∙ ap (λ j. map_checked (sizes (t - length c) (k + 1)) (check_kinds j (ks ++ kn ∷ []) l c)) z

-- A whole text, by its bytes.
abbrev whole : List ℕ → Checked Text
whole bs = check_kinds 4097 [] 4096 bs

pub short_text : (bs : List ℕ) → length bs ≤ text_bytes → check bs ≡ whole bs
unfolding check
short_text bs h = cond-false (ltb text_bytes (length bs)) _ _ (le-ltb _ _ h)

pub long_text : (bs : List ℕ) (R : Result Extent Refused) (x : Refused) → text_bytes < length bs → map_checked (sizes 0 0) (whole bs) ≡ map_checked sizes_of (outcome R) →
    refused_by x ≡ overrun text_bytes bs (outcome R) → map_checked (sizes 0 0) (check bs) ≡ refused_by x
unfolding check
long_text bs R x h e k = ap (λ g. map_checked (sizes 0 0) g) (cond-true (ltb text_bytes (length bs)) _ _ (lt-ltb _ _ h)) ∙ go (whole bs) R e k
  where
    cut : (t : Bool) (n m : ℕ) (c d : List ℕ) → refused_by x ≡ cond {A = Checked Extent} t (refused n c) (refused m d) → map_checked (sizes 0 0) (cond t (refused n c) (refused m d)) ≡ refused_by x
    cut true n m c d h = let p : n ≡ number_of x.rule = cc in let q : c ≡ x.from.now = cc in ap₂ refused p q
    cut false n m c d h = let p : m ≡ number_of x.rule = cc in let q : d ≡ x.from.now = cc in ap₂ refused p q

    go : (g : Checked Text) (R : Result Extent Refused) → map_checked (sizes 0 0) g ≡ map_checked sizes_of (outcome R) → refused_by x ≡ overrun text_bytes bs (outcome R) →
        map_checked (sizes 0 0) (overrun text_bytes bs g) ≡ refused_by x
    go (taken a c) (Ok y) e h = let p : ◌≡◌ {A = ℕ} 4 (number_of x.rule) = cc in let q : drop text_bytes bs ≡ x.from.now = cc in ap₂ refused p q
    go (taken a c) (Err y) e h = absurd (let z : ◌≡◌ {A = ℕ} 0 1 = cc in omega arith)
    go (refused n c) (Ok y) e h = absurd (let z : ◌≡◌ {A = ℕ} 0 1 = cc in omega arith)
    go (refused n c) (Err y) e h =
        let p : n ≡ number_of y.rule = cc in
        let q : c ≡ y.from.now = cc in
        ap₂ (λ m d. map_checked (sizes 0 0) (cond (leb (length bs - length d) text_bytes) (refused m d) (refused 4 (drop text_bytes bs)))) p q
        ∙ cut (leb (length bs - length y.from.now) text_bytes) (number_of y.rule) 4 y.from.now (drop text_bytes bs) h

-- What is refused ends the text.
suffix : (bs c : List ℕ) (n : ℕ) → check bs ≡ refused n c → (front : List ℕ) × (bs ≡ front ++ c)
suffix bs c n e = go (cases_eq n 1)
  where
    go : (n ≡ 1) ⊎ (n ≡ 1 → ⊥) → (front : List ℕ) × (bs ≡ front ++ c)
    go (inl h) = let p = refused_form bs c (e ∙ ap (λ m. refused m c) h) in (p.0, p.1)
    go (inr h) = let p = refused_fault bs c n e h in (p.0, p.1)

drop_front : (front c : List ℕ) → drop (length front) (front ++ c) ≡ c
drop_front [] c = refl
drop_front (b ∷ front) c = drop_front front c

-- What a whole text is answered, by its sizes: a refusal has its place in the text.
abbrev pub placed : List ℕ → Result Extent Refused → Result Extent Refusal
placed bs (Ok x) = Ok x
placed bs (Err y) = Err (record { rule = y.rule; place = length bs - length y.from.now })

pub answered : (bs : List ℕ) (R : Result Extent Refused) → map_checked (sizes 0 0) (check bs) ≡ map_checked sizes_of (outcome R) → Answered bs (placed bs R) (check bs)
answered bs R e = go (check bs) refl R e
  where
    go : (g : Checked Text) → check bs ≡ g → (R : Result Extent Refused) → map_checked (sizes 0 0) g ≡ map_checked sizes_of (outcome R) → Answered bs (placed bs R) g
    go (taken t c) h (Ok x) e =
        let p : ◌≡◌ {A = Sizes} (record { lines = 0 + length (show_kinds t.kinds); kinds = 0 + length t.kinds; things = length t.things; notes = length t.notes }) (record { lines = x.lines; kinds = x.kinds; things = x.things; notes = x.notes }) = cc in
        let a = ap (λ (s : Sizes). s.lines) p in
        let b = ap (λ (s : Sizes). s.kinds) p in
        record { lines = omega arith; kinds = omega arith; things = sym (ap (λ (s : Sizes). s.things) p); notes = sym (ap (λ (s : Sizes). s.notes) p) }
    go (taken t c) h (Err y) e = let z : ◌≡◌ {A = ℕ} 0 1 = cc in absurd (omega arith)
    go (refused n c) h (Ok x) e = let z : ◌≡◌ {A = ℕ} 0 1 = cc in absurd (omega arith)
    go (refused n c) h (Err y) e =
        let p : n ≡ number_of y.rule = cc in
        let q : c ≡ y.from.now = cc in
        let f = suffix bs c n h in
        let l : length bs ≡ length f.0 + length c = ap length f.1 ∙ length-append f.0 c in
        let m : length f.0 ≡ length bs - length c = omega arith in
        let d : c ≡ drop (length bs - length c) bs = sym (drop_front f.0 c) ∙ ap₂ drop m (sym f.1) in
        record { rule = sym p; rest = d ∙ ap (λ x. drop (length bs - length x) bs) q; inside = omega arith }

-- What `map_err` answers.
pub placed_by : (P : Refused → Refusal → Type 0) (bs : List ℕ) (R : Result Extent Refused) (r : Result Extent Refusal) → MatchResult R (λ x. r ≡ Ok x) (λ y. IsErrAnd r (P y)) →
    ((y : Refused) (f : Refusal) → P y f → f ≡ record { rule = y.rule; place = length bs - length y.from.now }) → placed bs R ≡ r
placed_by P bs (Ok x) r h k = sym h
placed_by P bs (Err y) r h k = let p = err_from_is_err_and r h in sym (p.1 ∙ ap (λ f. Err f) (k y p.0 p.2))
