-- Lines with no lines in them: what the code does for each is what they say.
use Rattle.std.proofs.Common.{◌≡◌, ℕ, List, get_or, drop, set, sym, refl, ◌∙◌, subst, ap₂}
use Rattle.meaning.specs.Model.{Body, next_seed, drawn}
use Rattle.body.specs.declared.Event.{Event}
use Rattle.body.specs.declared.Act.{Act}
use Rattle.body.specs.declared.Act.TheVariants.{Assign, Draw, Say, Send}
use Rattle.body.specs.Code.{act_by, expr_of, Evaluated}
use Rattle.body.specs.Play.{Room, put_var, put_drawn, put_line, put_sent, plays, value_at, Acted}

-- Where the line is read to behind, and the room it makes is r'.
moved : (e : Event) (go : List ℕ → Body) (r r₁ r' : Room) (b : Body) (rest behind : List ℕ) →
    plays e b r ≡ plays e (go rest) r₁ → behind ≡ rest → r₁ ≡ r' → plays e b r ≡ plays e (go behind) r'
moved e go r r₁ r' b rest behind s p q = s ∙ ap₂ (λ w x. plays e (go w) x) (sym p) q

module _ (n : ℕ) (e : Event) (op : Act) (ws : List ℕ) (r : Room) where
  pub did_assign : (tail : List ℕ) (a : ℕ) (behind : List ℕ) (k : ℕ) (vs : List ℕ) → op ≡ Assign → tail ≡ drop 1 ws → Evaluated r.vars e n tail a behind →
      k ≡ get_or ws 0 0 → vs ≡ set r.vars k a →
      Acted op n e ws r behind (record { vars = vs; seed = r.seed; sends = r.sends; sent = r.sent; lines = r.lines; said = r.said })
  unfolding plays put_var
  did_assign tail a behind k vs p q ev h v go =
      subst (λ o. plays e (act_by o (expr_of n) go ws) r ≡ plays e (go behind) (record { vars = vs; seed = r.seed; sends = r.sends; sent = r.sent; lines = r.lines; said = r.said })) (sym p)
      (moved e go r (put_var (get_or ws 0 0) (value_at e r (expr_of n (drop 1 ws)).expr) r) _ (act_by Assign (expr_of n) go ws) (expr_of n (drop 1 ws)).rest behind refl (cc) (cc))

  pub did_draw : (tail : List ℕ) (a : ℕ) (behind : List ℕ) (k c d : ℕ) (vs : List ℕ) → op ≡ Draw → tail ≡ drop 1 ws → Evaluated r.vars e n tail a behind →
      k ≡ get_or ws 0 0 → c ≡ next_seed r.seed → d ≡ drawn c a → vs ≡ set r.vars k d →
      Acted op n e ws r behind (record { vars = vs; seed = c; sends = r.sends; sent = r.sent; lines = r.lines; said = r.said })
  unfolding plays put_drawn
  did_draw tail a behind k c d vs p q ev h s w v go =
      subst (λ o. plays e (act_by o (expr_of n) go ws) r ≡ plays e (go behind) (record { vars = vs; seed = c; sends = r.sends; sent = r.sent; lines = r.lines; said = r.said })) (sym p)
      (moved e go r (put_drawn (get_or ws 0 0) (value_at e r (expr_of n (drop 1 ws)).expr) r) _ (act_by Draw (expr_of n) go ws) (expr_of n (drop 1 ws)).rest behind refl (cc) (cc))

  pub did_say : (a : ℕ) (behind : List ℕ) (r' : Room) → op ≡ Say → Evaluated r.vars e n ws a behind →
      r' ≡ put_line (record { time = e.clock; process = e.me; number = a }) r → Acted op n e ws r behind r'
  unfolding plays
  did_say a behind r' p ev q go =
      subst (λ o. plays e (act_by o (expr_of n) go ws) r ≡ plays e (go behind) r') (sym p)
      (moved e go r (put_line (record { time = e.clock; process = e.me; number = value_at e r (expr_of n ws).expr }) r) r' (act_by Say (expr_of n) go ws) (expr_of n ws).rest behind refl (cc) (cc))

  pub did_send : (delay to number : ℕ) (w₁ w₂ w₃ : List ℕ) (r' : Room) → op ≡ Send → Evaluated r.vars e n ws delay w₁ → Evaluated r.vars e n w₁ to w₂ →
      Evaluated r.vars e n w₂ number w₃ → r' ≡ put_sent e delay to number r → Acted op n e ws r w₃ r'
  unfolding plays
  did_send delay to number w₁ w₂ w₃ r' p ev₁ ev₂ ev₃ q go =
      subst (λ o. plays e (act_by o (expr_of n) go ws) r ≡ plays e (go w₃) r') (sym p)
      (moved e go r (put_sent e (value_at e r (expr_of n ws).expr) (value_at e r (expr_of n (expr_of n ws).rest).expr) (value_at e r (expr_of n (expr_of n (expr_of n ws).rest).rest).expr) r) r'
      (act_by Send (expr_of n) go ws) (expr_of n (expr_of n (expr_of n ws).rest).rest).rest w₃ refl (cc) (cc))
