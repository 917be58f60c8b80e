-- Lines one after the other and in each other: what the code does with them is what they say.
use Rattle.std.proofs.Common.{◌≡◌, ℕ, zero, suc, ◌+◌, ◌-◌, ◌<◌, min, true, false, eqb, ◌⊎◌, List, [], ◌∷◌, length, get_or, drop, sym, refl, ap, ◌∙◌, subst, inl, inr, sub-one, arith}
use Rattle.std.proofs.lemmas.Bool.{eq-eqb, ne_eqb, cond-true, cond-false}
use Rattle.meaning.specs.Model.{iterate}
use Rattle.body.specs.declared.Event.{Event}
use Rattle.body.specs.declared.Act.{Act}
use Rattle.body.specs.declared.LineOp.{LineOp}
use Rattle.body.specs.declared.LineOp.TheVariants.{Stop, Do, Branch, Repeat}
use Rattle.body.specs.Code.{body_of, body_by, expr_of, line_op, Evaluated}
use Rattle.body.specs.declared.Frame.{Frame}
use Rattle.body.specs.Play.{Room, plays, value_at, Acted, SameLent}

body_step : (n : ℕ) (ws : List ℕ) (w : ℕ) (tail : List ℕ) → 0 < n → ws ≡ w ∷ tail → body_of n ws ≡ body_by (line_op w) (expr_of (n - 1)) (body_of (n - 1)) tail
unfolding body_of
body_step zero ws w tail h p = absurd (omega arith)
body_step (suc n) ws w tail h p = ap (body_of (suc n)) p ∙ (rw sub-one refl)

-- Where no line is left, nothing more is played.
pub ended : (e : Event) (r : Room) (n : ℕ) (ws : List ℕ) → (n ≡ 0) ⊎ (length ws ≡ 0) → plays e (body_of n ws) r ≡ r
unfolding plays body_of
ended e r zero ws h = refl
ended e r (suc n) [] h = refl
ended e r (suc n) (w ∷ ws) (inl h) = absurd (omega (arith, h))
ended e r (suc n) (w ∷ ws) (inr h) = absurd (omega (arith, h))

-- A line at the front of ws that opens by op; tail stands behind its first word.
module _ (e : Event) (r : Room) (n : ℕ) (ws : List ℕ) (w : ℕ) (tail : List ℕ) (some : 0 < n) (front : ws ≡ w ∷ tail) where
  opened : (op : LineOp) → op ≡ line_op w → body_of n ws ≡ body_by op (expr_of (n - 1)) (body_of (n - 1)) tail
  opened op p =
      subst (λ o. body_of n ws ≡ body_by o (expr_of (n - 1)) (body_of (n - 1)) tail) (sym p) (body_step n ws w tail some front)

  pub at_stop : Stop ≡ line_op w → plays e (body_of n ws) r ≡ r
  unfolding plays
  at_stop p = ap (λ b. plays e b r) (opened Stop p)

  pub at_act : (a : Act) → Do a ≡ line_op w → (rest : List ℕ) (r' : Room) → Acted a (n - 1) e tail r rest r' →
      plays e (body_of (n - 1) rest) r' ≡ plays e (body_of n ws) r
  at_act a p rest r' did = sym (ap (λ b. plays e b r) (opened (Do a) p) ∙ did (body_of (n - 1)))

  pub at_branch : Branch ≡ line_op w → (x : ℕ) (w₂ then otherwise rest : List ℕ) (j k : ℕ) (chosen : List ℕ) (r' : Room) →
      w₂ ≡ drop 2 tail → Evaluated r.vars e (n - 1) w₂ x then → j ≡ get_or tail 0 0 → otherwise ≡ drop j then →
      ((x ≡ 0) × (chosen ≡ otherwise)) ⊎ ((x ≡ 0 → ⊥) × (chosen ≡ then)) → r' ≡ plays e (body_of (n - 1) chosen) r →
      k ≡ get_or tail 1 0 → rest ≡ drop k otherwise → plays e (body_of (n - 1) rest) r' ≡ plays e (body_of n ws) r
  unfolding plays
  at_branch p x w₂ then otherwise rest j k chosen r' q ev jj oo (inl h) rr kk ll =
      let z : eqb (value_at e r (expr_of (n - 1) (drop 2 tail)).expr) 0 ≡ true = eq-eqb _ _ (cc) in
      let o : otherwise ≡ drop (get_or tail 0 0) (expr_of (n - 1) (drop 2 tail)).rest = cc in
      let l : rest ≡ drop (get_or tail 1 0) (drop (get_or tail 0 0) (expr_of (n - 1) (drop 2 tail)).rest) = cc in
      sym (ap (λ b. plays e b r) (opened Branch p)
      ∙ ap (λ s. plays e (body_of (n - 1) (drop (get_or tail 1 0) (drop (get_or tail 0 0) (expr_of (n - 1) (drop 2 tail)).rest))) s)
      (cond-true (eqb (value_at e r (expr_of (n - 1) (drop 2 tail)).expr) 0) _ _ z)
      ∙ (cc))
  at_branch p x w₂ then otherwise rest j k chosen r' q ev jj oo (inr h) rr kk ll =
      let z : eqb (value_at e r (expr_of (n - 1) (drop 2 tail)).expr) 0 ≡ false = ne_eqb _ _ (λ y. h.0 (cc)) in
      let o : then ≡ (expr_of (n - 1) (drop 2 tail)).rest = cc in
      let l : rest ≡ drop (get_or tail 1 0) (drop (get_or tail 0 0) (expr_of (n - 1) (drop 2 tail)).rest) = cc in
      sym (ap (λ b. plays e b r) (opened Branch p)
      ∙ ap (λ s. plays e (body_of (n - 1) (drop (get_or tail 1 0) (drop (get_or tail 0 0) (expr_of (n - 1) (drop 2 tail)).rest))) s)
      (cond-false (eqb (value_at e r (expr_of (n - 1) (drop 2 tail)).expr) 0) _ _ z)
      ∙ (cc))

  pub at_repeat : Repeat ≡ line_op w → (x turns : ℕ) (w₁ body rest : List ℕ) (j : ℕ) (r' : Room) →
      w₁ ≡ drop 1 tail → Evaluated r.vars e (n - 1) w₁ x body → turns ≡ min x 1000 → r' ≡ iterate turns (plays e (body_of (n - 1) body)) r →
      j ≡ get_or tail 0 0 → rest ≡ drop j body → plays e (body_of (n - 1) rest) r' ≡ plays e (body_of n ws) r
  unfolding plays
  at_repeat p x turns w₁ body rest j r' q ev tt' rr jj ll =
      let o : body ≡ (expr_of (n - 1) (drop 1 tail)).rest = cc in
      let v : x ≡ value_at e r (expr_of (n - 1) (drop 1 tail)).expr = cc in
      let l : rest ≡ drop (get_or tail 0 0) (expr_of (n - 1) (drop 1 tail)).rest = cc in
      sym (ap (λ b. plays e b r) (opened Repeat p) ∙ (cc))

-- Turns of a repeat: those that are left give the whole.
pub iterate_more : {A : Type 0} (f : A → A) (n k : ℕ) (r r' : A) → k < n → r' ≡ f r → iterate (n - (k + 1)) f r' ≡ iterate (n - k) f r
unfolding iterate
iterate_more f n k r r' h e =
    let s : n - k ≡ suc (n - (k + 1)) = omega arith in
    ap (λ x. iterate (n - (k + 1)) f x) e ∙ sym (ap (λ j. iterate j f r) s)

pub iterate_none : {A : Type 0} (f : A → A) (n : ℕ) (r : A) → n ≡ 0 → iterate n f r ≡ r
unfolding iterate
iterate_none f zero r h = refl
iterate_none f (suc n) r h = absurd (omega arith)

-- What keeps the event and the lent slices, twice.
pub same_then : {f g h : Frame} → SameLent f g → SameLent g h → SameLent f h
same_then s t =
    record { event = t.event ∙ s.event; vars = t.vars ∙ s.vars; sends = t.sends ∙ s.sends; lines = t.lines ∙ s.lines }
