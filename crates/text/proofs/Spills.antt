-- Laws of bytes written at a place.
use Rattle.std.proofs.Common.{◌≡◌, ℕ, zero, suc, ◌+◌, ◌<◌, ◌≤◌, MatchOption, leb, List, [], ◌∷◌, ◌++◌, length, set, Some, None, Ok, Option, sym, refl, ap, ◌∙◌, subst, add-zero, suc-add, zero-add, arith}
use Rattle.std.proofs.lemmas.List.{length-append, append-nil, append_assoc}
use Rattle.std.proofs.lemmas.Bool.{cond-true, le-leb}
use Rattle.text.specs.Slices.{over}
use Rattle.text.specs.Written.{spill, Spilled, Passed, Writes, Ahead, WritesText, Written}
use Rattle.text.specs.declared.writer.Out.{Out}

pub spill_none : (at : ℕ) (out : List ℕ) → spill at [] out ≡ out
unfolding spill
spill_none at [] = refl
spill_none zero (x ∷ xs) = refl
spill_none (suc at) (x ∷ xs) = ap (λ ys. x ∷ ys) (spill_none at xs)

pub spill_set : (at b : ℕ) (out : List ℕ) → spill at (b ∷ []) out ≡ set out at b
unfolding spill
spill_set at b [] = refl
spill_set zero b (x ∷ xs) = ap (λ ys. b ∷ ys) (spill_none 0 xs)
spill_set (suc at) b (x ∷ xs) = ap (λ ys. x ∷ ys) (spill_set at b xs)

-- Bytes behind those that begin at 0.
spill_behind : (cs bs out : List ℕ) → spill (length cs) bs (spill 0 cs out) ≡ spill 0 (cs ++ bs) out
unfolding spill
spill_behind cs bs [] = refl
spill_behind [] bs (x ∷ xs) = refl
spill_behind (c ∷ cs) bs (x ∷ xs) = ap (λ ys. c ∷ ys) (spill_behind cs bs xs)

pub spill_spill : (at : ℕ) (cs bs out : List ℕ) → spill (at + length cs) bs (spill at cs out) ≡ spill at (cs ++ bs) out
unfolding spill
spill_spill at cs bs [] = refl
spill_spill zero cs bs (x ∷ xs) = ap (λ n. spill n bs (spill 0 cs (x ∷ xs))) (zero-add (length cs)) ∙ spill_behind cs bs (x ∷ xs)
spill_spill (suc at) cs bs (x ∷ xs) =
    ap (λ n. spill n bs (x ∷ spill at cs xs)) (suc-add at (length cs)) ∙ ap (λ ys. x ∷ ys) (spill_spill at cs bs xs)

pub length_spill : (at : ℕ) (bs out : List ℕ) → length (spill at bs out) ≡ length out
unfolding spill
length_spill at bs [] = refl
length_spill zero [] (x ∷ xs) = refl
length_spill zero (b ∷ bs) (x ∷ xs) = ap suc (length_spill 0 bs xs)
length_spill (suc at) bs (x ∷ xs) = ap suc (length_spill at bs xs)

pub spill_over : (bs out : List ℕ) → length bs ≤ length out → spill 0 bs out ≡ over bs out
unfolding spill
spill_over [] [] h = refl
spill_over (b ∷ bs) [] h = absurd (omega arith)
spill_over [] (x ∷ xs) h = refl
spill_over (b ∷ bs) (x ∷ xs) h = ap (λ ys. b ∷ ys) (spill_over bs xs (omega arith))

pub spilled_none : {o : Out} → Spilled [] o o
spilled_none {o} = record { bytes_are = refl; limit_is = refl; end_is = sym (add-zero o.end); within = λ h. h; holds = sym (spill_none o.end o.bytes.now) }

-- One byte.
pub spilled_one : (o o' : Out) (b : ℕ) → o'.bytes.ghost_name ≡ o.bytes.ghost_name → o'.bytes.now ≡ set o.bytes.now o.end b → o'.limit ≡ o.limit → o'.end ≡ o.end + 1 →
    o.end < o.limit → Spilled (b ∷ []) o o'
spilled_one o o' b n e l f h =
    record { bytes_are = n; limit_is = l; end_is = f; within = λ _. omega arith; holds = e ∙ sym (spill_set o.end b o.bytes.now) }

-- Some bytes and then others.
pub spilled_both : {cs bs : List ℕ} {o o' o'' : Out} → Spilled cs o o' → Spilled bs o' o'' → Spilled (cs ++ bs) o o''
spilled_both {cs} {bs} {o} {o'} {o''} f g =
    record {
      bytes_are = g.bytes_are ∙ f.bytes_are;
      limit_is = g.limit_is ∙ f.limit_is;
      end_is = rw length-append (omega (arith, f.end_is, g.end_is));
      within = λ h. omega (arith, f.within h, f.limit_is, g.within (omega (arith, f.within h, f.limit_is)));
      holds = g.holds ∙ ap (λ n. spill n bs o'.bytes.now) f.end_is ∙ ap (λ x. spill (o.end + length cs) bs x) f.holds ∙ spill_spill o.end cs bs o.bytes.now;
    }

-- The first pass the limit, or those behind them do.
pub passed_first : {cs : List ℕ} (bs : List ℕ) {o o' : Out} → Passed cs o o' → Passed (cs ++ bs) o o'
passed_first {cs} bs {o} {o'} f = record { bytes_are = f.bytes_are; passes = rw length-append (omega (arith, f.passes)) }

pub passed_then : {cs bs : List ℕ} {o o' o'' : Out} → Spilled cs o o' → Passed bs o' o'' → Passed (cs ++ bs) o o''
passed_then {cs} {bs} {o} {o'} {o''} f g =
    record { bytes_are = g.bytes_are ∙ f.bytes_are; passes = rw length-append (omega (arith, f.end_is, f.limit_is, g.passes)) }

-- The same bytes, told otherwise.
pub told : {cs bs : List ℕ} {o o' : Out} → cs ≡ bs → Spilled cs o o' → Spilled bs o o'
told {o} {o'} e w = subst (λ ds. Spilled ds o o') e w

pub passed_told : {cs bs : List ℕ} {o o' : Out} → cs ≡ bs → Passed cs o o' → Passed bs o o'
passed_told {o} {o'} e w = subst (λ ds. Passed ds o o') e w

pub writes_told : {cs bs : List ℕ} (o o' : Out) (r : Option Unit) → cs ≡ bs → Writes cs o o' r → Writes bs o o' r
writes_told o o' r e w = subst (λ ds. Writes ds o o' r) e w

-- No place was left.
pub lost : {A : Type 0} {bs : List ℕ} {o o' : Out} {r : Option A} (P : A → Type 0) → r ≡ None → Passed bs o o' → MatchOption r (Passed bs o o') P
lost {bs} {o} {o'} P e w = subst (λ x. MatchOption x (Passed bs o o') P) (sym e) w

pub ahead_all : {all rest : List ℕ} {o : Out} → all ≡ rest → Ahead all rest o o
ahead_all e = record { done = []; all_is = e; spilled = spilled_none }

module _ {all rest : List ℕ} {o o' : Out} (ahead : Ahead all rest o o') where
  -- A part of the rest is written, or passes the limit.
  pub ahead_more : {cs rest' : List ℕ} {o'' : Out} → rest ≡ cs ++ rest' → Spilled cs o' o'' → Ahead all rest' o o''
  ahead_more {cs} {rest'} e w =
      record {
        done = ahead.done ++ cs;
        all_is = ahead.all_is ∙ ap (λ x. ahead.done ++ x) e ∙ sym (append_assoc ahead.done cs rest');
        spilled = spilled_both ahead.spilled w;
      }

  pub ahead_passed : {cs : List ℕ} (rest' : List ℕ) {o'' : Out} → rest ≡ cs ++ rest' → Passed cs o' o'' → Passed all o o''
  ahead_passed rest' e w = passed_told (sym (ahead.all_is ∙ ap (λ x. ahead.done ++ x) e)) (passed_then ahead.spilled (passed_first rest' w))

  -- The first of the rest is written, and what is left of it.
  pub ahead_then : {rest' : List ℕ} {o'' : Out} → Ahead rest rest' o' o'' → Ahead all rest' o o''
  ahead_then g = ahead_more g.all_is g.spilled

  pub ahead_then_passed : {o'' : Out} → Passed rest o' o'' → Passed all o o''
  ahead_then_passed w = passed_told (sym ahead.all_is) (passed_then ahead.spilled w)

  -- The rest is told otherwise.
  pub ahead_told : {rest' : List ℕ} → rest ≡ rest' → Ahead all rest' o o'
  ahead_told e = record { done = ahead.done; all_is = ahead.all_is ∙ ap (λ x. ahead.done ++ x) e; spilled = ahead.spilled }

  -- Nothing is left.
  pub ahead_done : rest ≡ [] → Spilled all o o'
  ahead_done e = told (sym (ahead.all_is ∙ ap (λ x. ahead.done ++ x) e ∙ append-nil ahead.done)) ahead.spilled

  -- What is left is written, if it is within the limit.
  pub ahead_writes : (o'' : Out) (r : Option Unit) → Writes rest o' o'' r → Writes all o o'' r
  ahead_writes o'' None w = ahead_then_passed w
  ahead_writes o'' (Some x) w = told (sym ahead.all_is) (spilled_both ahead.spilled w)

-- Bytes from the first on.
pub text_lost : {bs : List ℕ} {o o' : Out} {r : Option ℕ} (P : ℕ → Type 0) → r ≡ None → o.end ≡ 0 → Passed bs o o' → MatchOption r (o.limit < length bs) P
text_lost {bs} {o} {o'} P e z w = subst (λ x. MatchOption x (o.limit < length bs) P) (sym e) (omega (arith, w.passes))

pub text_done : {bs : List ℕ} {o o' : Out} → o.end ≡ 0 → Spilled bs o o' → (o'.end ≡ length bs) × (o'.end ≤ o.limit) × (o'.bytes.now ≡ spill 0 bs o.bytes.now)
text_done {bs} {o} {o'} z w = (omega (arith, w.end_is), w.within (omega arith), w.holds ∙ ap (λ n. spill n bs o.bytes.now) z)

-- Counted first, and then written.
pub written_all : {bs out out' : List ℕ} {n : ℕ} (r : Option ℕ) → n ≡ length bs → n ≤ length out → WritesText bs (length out) out out' r → Written bs out out' (Ok n)
written_all None e h f = absurd (omega (arith, f))
written_all {bs} {out} {out'} {n} (Some k) e h f =
    let l : length bs ≤ length out = omega (arith, e) in
    record {
      answers = ap (λ m. Ok m) e ∙ sym (cond-true (leb (length bs) (length out)) _ _ (le-leb _ _ l));
      holds = f.2 ∙ spill_over bs out l ∙ sym (cond-true (leb (length bs) (length out)) _ _ (le-leb _ _ l));
    }
