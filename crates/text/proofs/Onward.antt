-- Playing on in pieces, with the lines of each forgotten once they are printed.
use Rattle.std.proofs.Common.{◌≡◌, ℕ, zero, suc, ◌+◌, ◌-◌, ◌*◌, ◌<◌, ◌≤◌, ◌≢◌, ◌⊎◌, inl, inr, Bool, true, false, cond, ltb, leb, eqb, eqb-true, lt-ltb, ltb-true, ltb-false, List, [], ◌∷◌, ◌++◌, map, length, take, MatchBool, None, Some, sym, subst, refl, ap, ◌∙◌, append-nil, arith}
use Rattle.std.proofs.lemmas.Bool.{le-leb}
use Rattle.std.proofs.lemmas.List.{length-map}
use Rattle.std.proofs.Math.Bool.{and-true}
use Rattle.meaning.specs.declared.Line.{Line}
use Rattle.meaning.specs.declared.Message.{Message}
use Rattle.meaning.specs.Model.{Model, Done, State, handle_in, start, steps}
use Rattle.meaning.specs.Promise.{said_before}
use Rattle.meaning.proofs.Runs.{steps_add}
use Rattle.meaning.proofs.Forget.{may_forget}
use Rattle.sequential.specs.declared.Report.{Report}
use Rattle.sequential.specs.declared.Outcome.{Outcome}
use Rattle.sequential.specs.declared.Outcome.TheVariants.{Paused, Waiting, Lines, Count, Short}
use Rattle.sequential.specs.declared.Unready.{Unready}
use Rattle.sequential.specs.Memory.{Memory, memory, state_of, model_of, refuses, stops_at, stops, shaped, Ran, RunIn, NotRun, Begun, numbers_of, unready}
use Rattle.sequential.proofs.Runs.{shaped_facts, shaped_test}
use Rattle.body.specs.Play.{top}
use Rattle.body.specs.declared.Process.{Process}
use Rattle.sequential.specs.declared.Progress.{Progress}
use Rattle.text.specs.declared.play.Given.{Given}
use Rattle.text.specs.Played.{Onward, unsaid, Stopped, WentOn, PlayedOn, Steps, Played}

-- What is said is forgotten.
abbrev pub forgotten : Memory → Memory
forgotten y = memory y.processes y.vars y.row y.lines (record { waiting = y.progress.waiting; said = 0 })

told_then : (T L : List Line) (s : State) → said_before (T ++ L) (record { processes = s.processes; pending = s.pending; said = [] }) ≡ said_before T (record { processes = s.processes; pending = s.pending; said = L })
unfolding said_before
told_then T L s = λ i. record { processes = s.processes; pending = s.pending; said = append-nil (T ++ L) i }

still : (m : Model) (end : ℕ) (s : State) → s ≡ steps m end 0 s
unfolding steps
still m end s = refl

-- What is refused for another reason than a pause is refused with no line kept too.
refused : (a b b' z c : Bool) (o : Outcome) → (b' ≡ true → b ≡ true) → (z ≡ true → b ≡ b') → o ≢ Paused →
    cond a (Some Waiting) (cond b (Some (cond z Lines Paused)) (cond c (Some Count) None)) ≡ Some o →
    cond a (Some Waiting) (cond b' (Some Lines) (cond c (Some Count) None)) ≡ Some o
refused true b b' z c o more same n h = h
refused false true true true c o more same n h = h
refused false true false true c o more same n h = let e = same refl in cc
refused false true b' false c o more same n h = let p : o ≡ Paused = cc in absurd (n p)
refused false false true z c o more same n h = let e = more refl in cc
refused false false false z c o more same n h = h

refuses_unsaid : (d : Done) (others places line_places said : ℕ) (o : Outcome) → o ≢ Paused →
    refuses d others places line_places said ≡ Some o → refuses d others places line_places 0 ≡ Some o
refuses_unsaid d others places line_places said o n h =
    refused (ltb places (others + length d.sends)) (ltb line_places (said + length d.says)) (ltb line_places (0 + length d.says)) (eqb said 0) (ltb top d.process.sent) o
    (λ t. lt-ltb _ _ (let l = ltb-true _ _ t in omega arith))
    (λ t. ap (λ k. ltb line_places (k + length d.says)) (eqb-true said 0 t)) n h

-- What is not refused is not refused with no line kept either.
not_refused : (a b b' z c : Bool) → (b' ≡ true → b ≡ true) → cond a (Some Waiting) (cond b (Some (cond z Lines Paused)) (cond c (Some Count) None)) ≡ None →
    cond a (Some Waiting) (cond b' (Some Lines) (cond c (Some Count) None)) ≡ None
not_refused true b b' z c more h = cc
not_refused false true b' z c more h = cc
not_refused false false true z c more h = let e = more refl in cc
not_refused false false false z c more h = h

refuses_none : (d : Done) (others places line_places said : ℕ) → refuses d others places line_places said ≡ None → refuses d others places line_places 0 ≡ None
refuses_none d others places line_places said h =
    not_refused (ltb places (others + length d.sends)) (ltb line_places (said + length d.says)) (ltb line_places (0 + length d.says)) (eqb said 0) (ltb top d.process.sent)
    (λ t. lt-ltb _ _ (let l = ltb-true _ _ t in omega arith)) h

-- With no line kept nothing is refused by a pause.
no_pause : (a b c : Bool) → cond a (Some Waiting) (cond b (Some Lines) (cond c (Some Count) None)) ≢ Some Paused
no_pause true b c h = cc
no_pause false true c h = cc
no_pause false false true h = cc
no_pause false false false h = cc

cond_then : {A : Type 0} (b : Bool) (u v e r : A) → (u ≡ r → v ≡ r) → cond b u e ≡ r → cond b v e ≡ r
cond_then true u v e r f h = f h
cond_then false u v e r f h = h

cond_never : {A : Type 0} (b : Bool) (u e r : A) → u ≢ r → e ≢ r → cond b u e ≢ r
cond_never true u e r f g h = f h
cond_never false u e r f g h = g h

module _ (m : Model) (end places line_places : ℕ) (s : State) where
  -- Why a run stops is why it stops with no line kept, if it is no pause.
  stops_unsaid : (o : Outcome) → o ≢ Paused → (xs : List Message) → stops_at m end places line_places s xs ≡ Some o → stops_at m end places line_places (unsaid s) xs ≡ Some o
  unfolding stops_at
  stops_unsaid o n [] h = h
  stops_unsaid o n (x ∷ xs) h =
      cond_then (ltb x.time end) _ _ _ _ (refuses_unsaid (handle_in m s.processes x) (length xs) places line_places (length s.said) o n) h

  -- Where a run goes on, it goes on with no line kept too.
  none_unsaid : (xs : List Message) → stops_at m end places line_places s xs ≡ None → stops_at m end places line_places (unsaid s) xs ≡ None
  unfolding stops_at
  none_unsaid [] h = h
  none_unsaid (x ∷ xs) h =
      cond_then (ltb x.time end) _ _ _ _ (refuses_none (handle_in m s.processes x) (length xs) places line_places (length s.said)) h

  -- With no line kept a run doesn't pause at once.
  goes_on : s.said ≡ [] → (xs : List Message) → stops_at m end places line_places s xs ≢ Some Paused
  unfolding stops_at
  goes_on e [] h = cc
  goes_on e (x ∷ xs) h =
      let d = handle_in m s.processes x in
      cond_never (ltb x.time end) _ _ _
      (subst (λ k. refuses d (length xs) places line_places k ≢ Some Paused) (sym (ap length e))
      (no_pause (ltb places (length xs + length d.sends)) (ltb line_places (0 + length d.says)) (ltb top d.process.sent)))
      (λ p. cc) h

  -- So a piece that pauses has handled a message.
  some_handled : (budget k : ℕ) (s' : State) → 0 < budget → s.said ≡ [] → Ran m end places line_places budget s k s' Paused → 0 < k
  unfolding steps
  some_handled budget k s' l e ran = at k ran.steps_are ran.stopped
    where
      at : (k : ℕ) → s' ≡ steps m end k s → ((k ≡ budget) × (Paused ≡ Paused)) ⊎ ((k < budget) × (stops m end places line_places s' ≡ Some Paused)) → 0 < k
      at (suc k) t r = omega arith
      at zero t (inl r) = omega arith
      at zero t (inr r) = absurd (goes_on e s.pending (ap (λ x. stops m end places line_places x) (sym t) ∙ r.1))

-- Why a piece stopped, if it didn't pause.
why_stopped : (m : Model) (end places line_places budget : ℕ) (s : State) (k : ℕ) (s' : State) (o : Outcome) → o ≢ Paused →
    Ran m end places line_places budget s k s' o → stops m end places line_places (unsaid s') ≡ Some o
why_stopped m end places line_places budget s k s' o n ran = at ran.stopped
  where
    at : ((k ≡ budget) × (o ≡ Paused)) ⊎ ((k < budget) × (stops m end places line_places s' ≡ Some o)) → stops m end places line_places (unsaid s') ≡ Some o
    at (inl r) = absurd (n r.1)
    at (inr r) = stops_unsaid m end places line_places s' o n s'.pending r.1

-- The same reason, of the same model, with as many places, in a state that is the same but for its lines.
stopped_at : (m m' : Model) (end places places' line_places line_places' handled : ℕ) (s s' : State) (o : Outcome) →
    m' ≡ m → places' ≡ places → line_places' ≡ line_places → unsaid s' ≡ unsaid s → Stopped m end places line_places handled s o → Stopped m' end places' line_places' handled s' o
stopped_at m m' end places places' line_places line_places' handled s s' o em ep el es (inl h) = inl ((λ i. stops (em i) end (ep i) (el i) (es i)) ∙ h)
stopped_at m m' end places places' line_places line_places' handled s s' o em ep el es (inr h) = inr h

module _ (m : Model) (end places line_places : ℕ) where
  -- A piece went on in each state before its last.
  piece_went : (budget : ℕ) (s : State) (k : ℕ) (s' : State) (o : Outcome) → Ran m end places line_places budget s k s' o → WentOn m end places line_places k s
  piece_went budget s k s' o ran = λ j l. let t = steps m end j s in none_unsaid m end places line_places t t.pending (ran.went_on j l)

  -- Steps later, with lines in front, a state is but for its lines what it is with none.
  later_is : (h i : ℕ) (told : List Line) (s₀ s₁ : State) → said_before told s₁ ≡ steps m end h s₀ → unsaid (steps m end (h + i) s₀) ≡ unsaid (steps m end i s₁)
  unfolding said_before
  later_is h i told s₀ s₁ e = ap unsaid (steps_add m end h i s₀ ∙ ap (steps m end i) (sym e) ∙ may_forget m end i told s₁)

  -- What went on so far, and from there on, went on all the way.
  went_more : (h k : ℕ) (told : List Line) (s₀ s₁ : State) → said_before told s₁ ≡ steps m end h s₀ → WentOn m end places line_places h s₀ → WentOn m end places line_places k s₁ →
      WentOn m end places line_places (h + k) s₀
  went_more h k told s₀ s₁ e w v = λ j l. at j l (ltb j h) refl
    where
      at : (j : ℕ) → j < h + k → (b : Bool) → ltb j h ≡ b → stops m end places line_places (unsaid (steps m end j s₀)) ≡ None
      at j l true t = w j (ltb-true _ _ t)
      at j l false t =
          let g : h ≤ j = ltb-false _ _ t in
          let i : h + (j - h) ≡ j = omega arith in
          ap (λ n. stops m end places line_places (unsaid (steps m end n s₀))) (sym i) ∙ ap (stops m end places line_places) (later_is h (j - h) told s₀ s₁ e) ∙ v (j - h) (omega arith)

-- The same model, with as many places, went on as far from the same state.
went_at : (m m' : Model) (end places places' line_places line_places' k : ℕ) (s s' : State) → m' ≡ m → places' ≡ places → line_places' ≡ line_places → s' ≡ s →
    WentOn m end places line_places k s → WentOn m' end places' line_places' k s'
went_at m m' end places places' line_places line_places' k s s' em ep el es w = λ j l. (λ i. stops (em i) end (ep i) (el i) (unsaid (steps (em i) end j (es i)))) ∙ w j l

by_test : (b : Bool) {A B : Type 0} → (b ≡ true → A) → (b ≡ false → B) → MatchBool b A B
by_test true f g = f refl
by_test false f g = g refl

by_true : (b : Bool) (A B : Type 0) → true ≡ b → A → MatchBool b A B
by_true true A B e x = x
by_true false A B e x = cc

by_false : (b : Bool) (A B : Type 0) → false ≡ b → B → MatchBool b A B
by_false true A B e x = cc
by_false false A B e x = x

-- What has been played after so many pieces that paused, from y₀ to y₁: as many messages at least are handled, each where playing went on,
-- no line is kept, and the memory is as long as it was, or too short, and then nothing was handled.
pub record Going (code kinds : List ℕ) (end sends pieces : ℕ) (y₀ y₁ : Memory) : Type 0 where
  pub onward : Onward code kinds end y₀ y₁
  pub many : pieces ≤ onward.handled
  pub went_on : (ns : List (List ℕ)) → WentOn (model_of code kinds y₀.processes ns) end (length y₀.row) (length y₀.lines) onward.handled (state_of y₀)
  pub unsaid : y₁.progress.said ≡ 0
  pub shape_is : shaped y₁ sends ≡ shaped y₀ sends
  pub none : shaped y₀ sends ≡ false → onward.handled ≡ 0

module _ (code kinds : List ℕ) (end : ℕ) where
  pub onward_none : (y : Memory) → Onward code kinds end y y
  unfolding steps said_before
  onward_none y = record { handled = 0; told = []; state_is = λ ns. refl; kinds_are = refl; widths_are = refl }

  pub onward_then : (y₀ y₁ y₂ : Memory) (k : ℕ) → Onward code kinds end y₀ y₁ → ((ns : List (List ℕ)) → state_of y₂ ≡ steps (model_of code kinds y₁.processes ns) end k (state_of y₁)) →
      map (λ p. p.kind) y₂.processes ≡ map (λ p. p.kind) y₁.processes → map (λ p. p.width) y₂.processes ≡ map (λ p. p.width) y₁.processes → Onward code kinds end y₀ (forgotten y₂)
  onward_then y₀ y₁ y₂ k o ran same wide =
      record {
        handled = o.handled + k;
        told = o.told ++ take y₂.progress.said y₂.lines;
        state_is = λ ns.
            let m = model_of code kinds y₀.processes ns in
            let m₁ : model_of code kinds y₁.processes ns ≡ m = ap (λ ks. record { bodies = m.bodies; kinds = ks; numbers = ns; rounds = 1000 }) o.kinds_are in
            told_then o.told (take y₂.progress.said y₂.lines) (state_of y₂)
            ∙ ap (said_before o.told) (ran ns ∙ ap (λ x. steps x end k (state_of y₁)) m₁)
            ∙ sym (may_forget m end k o.told (state_of y₁))
            ∙ ap (steps m end k) (o.state_is ns)
            ∙ sym (steps_add m end o.handled k (state_of y₀));
        kinds_are = same ∙ o.kinds_are;
        widths_are = wide ∙ o.widths_are;
      }

  same_model : (y₀ y₁ : Memory) → map (λ p. p.kind) y₁.processes ≡ map (λ p. p.kind) y₀.processes → (ns : List (List ℕ)) → model_of code kinds y₁.processes ns ≡ model_of code kinds y₀.processes ns
  same_model y₀ y₁ e ns = ap (λ ks. record { bodies = (model_of code kinds y₀.processes ns).bodies; kinds = ks; numbers = ns; rounds = 1000 }) e

  pub going_first : (sends : ℕ) (y : Memory) → y.progress.said ≡ 0 → Going code kinds end sends 0 y y
  unfolding onward_none
  going_first sends y u = record { onward = onward_none y; many = omega arith; went_on = λ ns j l. absurd (omega arith); unsaid = u; shape_is = refl; none = λ h. refl }

  module _ (sends pieces budget : ℕ) (y₀ y₁ y₂ : Memory) (r : Report) (S S' : List Message) (g : Going code kinds end sends pieces y₀ y₁) where
    nothing_kept : (state_of y₁).said ≡ []
    nothing_kept = ap (λ k. take k y₁.lines) g.unsaid

    -- What a run promises, said of as many places for what one message sends.
    pub ran_with : (n : ℕ) → n ≡ sends → MatchBool (shaped y₁ n) (RunIn code kinds end budget n y₁ r y₂) (NotRun y₁ S r y₂ S') →
        MatchBool (shaped y₁ sends) (RunIn code kinds end budget sends y₁ r y₂) (NotRun y₁ S r y₂ S')
    ran_with n e = subst (λ k. MatchBool (shaped y₁ k) (RunIn code kinds end budget k y₁ r y₂) (NotRun y₁ S r y₂ S')) e

    -- One piece more went on too.
    went_then : length y₁.row ≡ length y₀.row → length y₁.lines ≡ length y₀.lines → RunIn code kinds end budget sends y₁ r y₂ → (ns : List (List ℕ)) →
        WentOn (model_of code kinds y₀.processes ns) end (length y₀.row) (length y₀.lines) (g.onward.handled + r.steps) (state_of y₀)
    went_then row lines run ns =
        let m = model_of code kinds y₀.processes ns in
        let m₁ = model_of code kinds y₁.processes ns in
        went_more m end (length y₀.row) (length y₀.lines) g.onward.handled r.steps g.onward.told (state_of y₀) (state_of y₁) (g.onward.state_is ns) (g.went_on ns)
        (went_at m₁ m end (length y₁.row) (length y₀.row) (length y₁.lines) (length y₀.lines) r.steps (state_of y₁) (state_of y₁)
        (sym (same_model y₀ y₁ g.onward.kinds_are ns)) (sym row) (sym lines) refl
        (piece_went m₁ end (length y₁.row) (length y₁.lines) budget (state_of y₁) r.steps (state_of y₂) r.outcome (run.ran ns)))

    -- One piece more that paused.
    pub going_on : 0 < budget → r.outcome ≡ Paused → length y₁.row ≡ length y₀.row → length y₁.lines ≡ length y₀.lines → (b : Bool) → b ≡ shaped y₁ sends →
        MatchBool b (RunIn code kinds end budget sends y₁ r y₂) (NotRun y₁ S r y₂ S') → Going code kinds end sends (pieces + 1) y₀ (forgotten y₂)
    unfolding onward_then
    going_on l p row lines true e run =
        let f = shaped_facts y₂ sends run.shaped_still in
        let k : 0 < r.steps =
        some_handled (model_of code kinds y₁.processes []) end (length y₁.row) (length y₁.lines) (state_of y₁) budget r.steps (state_of y₂) l nothing_kept
        (subst (λ o. Ran (model_of code kinds y₁.processes []) end (length y₁.row) (length y₁.lines) budget (state_of y₁) r.steps (state_of y₂) o) p (run.ran [])) in
        record {
          onward = onward_then y₀ y₁ y₂ r.steps g.onward (λ ns. (run.ran ns).steps_are) run.kinds_are run.widths_are;
          many = let m = g.many in omega arith;
          went_on = went_then row lines run;
          unsaid = refl;
          shape_is =
              shaped_test (forgotten y₂) sends (record { few = f.few; wide = f.wide; scratch = f.scratch; in_row = f.in_row; in_lines = omega arith })
              ∙ e ∙ g.shape_is;
          none = λ h. let t : true ≡ false = e ∙ g.shape_is ∙ h in cc;
        }
    going_on l p row lines false e not = let t : Short ≡ Paused = sym (ap (λ q. q.outcome) not.refused) ∙ p in cc

    -- A piece that did not pause is the last.
    pub going_no_more : r.outcome ≢ Paused → length y₁.row ≡ length y₀.row → length y₁.lines ≡ length y₀.lines → (b : Bool) → b ≡ shaped y₁ sends →
        MatchBool b (RunIn code kinds end budget sends y₁ r y₂) (NotRun y₁ S r y₂ S') → PlayedOn code kinds end sends y₀ (forgotten y₂) r.outcome
    unfolding onward_then
    going_no_more n row lines true e run =
        record {
          onward = onward_then y₀ y₁ y₂ r.steps g.onward (λ ns. (run.ran ns).steps_are) run.kinds_are run.widths_are;
          stopped =
              by_true (shaped y₀ sends) _ _ (e ∙ g.shape_is)
              (λ ns. (
                went_then row lines run ns,
                stopped_at (model_of code kinds y₁.processes ns) (model_of code kinds y₀.processes ns) end (length y₁.row) (length y₀.row) (length y₁.lines) (length y₀.lines) _ (state_of y₂) (state_of (forgotten y₂)) r.outcome
                    (sym (same_model y₀ y₁ g.onward.kinds_are ns)) (sym row) (sym lines) refl
                    (inl (why_stopped (model_of code kinds y₁.processes ns) end (length y₁.row) (length y₁.lines) budget (state_of y₁) r.steps (state_of y₂) r.outcome n (run.ran ns))),
              ));
        }
    going_no_more n row lines false e not =
        record {
          onward =
              onward_then y₀ y₁ y₂ 0 g.onward (λ ns. ap state_of not.same ∙ still (model_of code kinds y₁.processes ns) end (state_of y₁))
              (ap (λ y. map (λ p. p.kind) y.processes) not.same) (ap (λ y. map (λ p. p.width) y.processes) not.same);
          stopped = by_false (shaped y₀ sends) _ _ (e ∙ g.shape_is) (ap (λ q. q.outcome) not.refused, (let z = g.none (sym (e ∙ g.shape_is)) in omega arith));
        }

  -- Where no piece is left.
  pub going_out : (sends pieces : ℕ) (y₀ y₁ : Memory) → 18446744073709551615 ≤ pieces → Going code kinds end sends pieces y₀ y₁ → PlayedOn code kinds end sends y₀ y₁ Paused
  going_out sends pieces y₀ y₁ l g =
      record {
        onward = g.onward;
        stopped = by_test (shaped y₀ sends) (λ t ns. (g.went_on ns, inr (refl, (let m = g.many in omega arith)))) (λ f. let m = g.many in let z = g.none f in absurd (omega arith));
      }

-- At the start no line is kept.
take_none : (n : ℕ) (x : Line) → take n (x ∷ []) ≡ [] → n ≡ 0
take_none zero x h = refl
take_none (suc n) x h = cc

pub unsaid_first : (luck : ℕ) (outside : List Message) (ps : List Process) (row : List Message) (ps' : List Process) (row' : List Message) (p' : Progress) →
    Begun luck outside ps row ps' row' p' → p'.said ≡ 0
unfolding start
unsaid_first luck outside ps row ps' row' p' b =
    let x : Line = record { time = 0; process = 0; number = 0 } in
    take_none p'.said x (ap (λ s. s.said) (b.stands [] [] [] (x ∷ [])))

-- A run that can begin has no more than 65,536 processes.
few_at : (a b c : Bool) → cond a (cond b (cond c None (Some Unready.Messages)) (Some Unready.Processes)) (Some Unready.Seed) ≡ None → b ≡ true
few_at true true c h = refl
few_at true false c h = cc
few_at false b c h = cc

-- Then the memory lent to a run from the start is too short only if the places for the variables are.
shaped_first : (y : Memory) (places : ℕ) → leb (length y.processes) 65536 ≡ true → length y.row ≡ places → y.progress.waiting ≤ length y.row → y.progress.said ≡ 0 →
    shaped y places ≡ leb (64 * length y.processes) (length y.vars)
shaped_first y places f r w u =
    let a : leb (length y.row) places ≡ true = le-leb _ _ (omega arith) in
    let b : leb y.progress.waiting (length y.row) ≡ true = le-leb _ _ w in
    let c : leb y.progress.said (length y.lines) ≡ true = le-leb _ _ (omega arith) in
    rw (f, a, b, c) (and-true (leb (64 * length y.processes) (length y.vars)))

-- What was played from where a run begins.
played_from : (code kinds : List ℕ) (g : Given ℕ) (outside : List Message) (ps : List Process) (vs : List ℕ) (row row' : List Message) (lines : List Line) (ps' : List Process) (p' : Progress)
    (y : Memory) (o : Outcome) → leb (length ps) 65536 ≡ true → length row' ≡ g.places → length lines ≡ g.places → Begun g.luck outside ps row ps' row' p' →
    PlayedOn code kinds g.end g.places (memory ps' vs row' lines p') y o → Steps code kinds g outside ps vs y.processes y.vars o
unfolding said_before
played_from code kinds g outside ps vs row row' lines ps' p' y o few long_row long_lines b d =
    let ns = numbers_of ps vs in
    let m = model_of code kinds ps ns in
    let y₀ = memory ps' vs row' lines p' in
    let m' : model_of code kinds ps' ns ≡ m = ap (λ ks. record { bodies = m.bodies; kinds = ks; numbers = ns; rounds = 1000 }) b.kinds_are in
    let n : length ps' ≡ length ps = sym (length-map ps' (λ p. p.kind)) ∙ ap length b.kinds_are ∙ length-map ps (λ p. p.kind) in
    let s : said_before d.onward.told (state_of y) ≡ steps m g.end d.onward.handled (start m g.luck outside) =
    d.onward.state_is ns ∙ ap (λ x. steps x g.end d.onward.handled (state_of y₀)) m' ∙ ap (steps m g.end d.onward.handled) (b.stands code kinds vs lines) in
    let shape : shaped y₀ g.places ≡ leb (64 * length ps) (length vs) =
    shaped_first y₀ g.places (ap (λ k. leb k 65536) n ∙ few) long_row b.in_row (unsaid_first g.luck outside ps row ps' row' p' b) ∙ ap (λ k. leb (64 * k) (length vs)) n in
    record {
      handled = d.onward.handled;
      actors_are = ap (λ x. x.processes) s;
      kinds_are = d.onward.kinds_are ∙ b.kinds_are;
      widths_are = d.onward.widths_are ∙ b.widths_are;
      stopped =
          by_shape (shaped y₀ g.places) (leb (64 * length ps) (length vs)) _ _ _ shape
          (λ h. (
            went_at (model_of code kinds ps' ns) m g.end (length row') g.places (length lines) g.places d.onward.handled (state_of y₀) (start m g.luck outside)
                (sym m') (sym long_row) (sym long_lines) (sym (b.stands code kinds vs lines)) (h ns).0,
            stopped_at (model_of code kinds ps' ns) m g.end (length row') g.places (length lines) g.places d.onward.handled (state_of y) (steps m g.end d.onward.handled (start m g.luck outside)) o
                (sym m') (sym long_row) (sym long_lines) (ap unsaid (sym s)) (h ns).1,
          ))
          d.stopped;
    }
  where
    by_shape : (b b' : Bool) (A A' B : Type 0) → b ≡ b' → (A → A') → MatchBool b A B → MatchBool b' A' B
    by_shape true true A A' B e f x = f x
    by_shape false false A A' B e f x = x
    by_shape true false A A' B e f x = cc
    by_shape false true A A' B e f x = cc

-- The same where the processes and the variables are handed back.
pub played_at : (code kinds : List ℕ) (g : Given ℕ) (outside : List Message) (ps : List Process) (vs : List ℕ) (row row' row'' : List Message) (lines : List Line) (ps' : List Process) (p' : Progress)
    (y : Memory) (o : Outcome) (sends : ℕ) (qs : List Process) (ws : List ℕ) → None ≡ unready g.luck (length ps) (length outside) (length row) → length row ≡ g.places → length row' ≡ g.places → length lines ≡ g.places →
    sends ≡ g.places → Begun g.luck outside ps row ps' row' p' → row'' ≡ row' →
    PlayedOn code kinds g.end sends (memory ps' vs row'' lines p') y o → qs ≡ y.processes → ws ≡ y.vars → Played code kinds g outside ps vs qs ws o
played_at code kinds g outside ps vs row row' row'' lines ps' p' y o sends qs ws ready n n' n'' s b same d q w =
    let r : unready g.luck (length ps) (length outside) g.places ≡ None = ap (λ k. unready g.luck (length ps) (length outside) k) (sym n) ∙ sym ready in
    let few = few_at (ltb g.luck 2147483648) (leb (length ps) 65536) (leb (length outside) g.places) r in
    let d' : PlayedOn code kinds g.end g.places (memory ps' vs row' lines p') y o = subst (λ k. PlayedOn code kinds g.end k (memory ps' vs row' lines p') y o) s (subst (λ x. PlayedOn code kinds g.end sends (memory ps' vs x lines p') y o) same d) in
    let t = played_from code kinds g outside ps vs row row' lines ps' p' y o few n' n'' b d' in
    rw (r, q, w) t
