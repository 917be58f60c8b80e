-- A run in lent memory, step by step.
use Rattle.std.proofs.Common.{◌≡◌, ℕ, ◌+◌, ◌*◌, ◌<◌, Bool, true, false, leb, List, map, length, Some, None, MatchBool, sym, refl, ap, ◌∙◌, inl, inr, arith, below_more}
use Rattle.std.proofs.lemmas.Bool.{and_parts, and_from, leb-true, le-leb}
use Rattle.meaning.specs.declared.Message.{Message}
use Rattle.meaning.specs.Model.{step, steps}
use Rattle.meaning.proofs.Runs.{steps_add}
use Rattle.sequential.specs.declared.Lent.{Lent}
use Rattle.sequential.specs.declared.Report.{Report}
use Rattle.sequential.specs.declared.Outcome.{Outcome}
use Rattle.sequential.specs.declared.Outcome.TheVariants.{Paused, Short}
use Rattle.sequential.specs.Memory.{Memory, state_of, model_of, shaped, Shaped, stops, Stepped, RunIn, NotRun, SameLent}

pub shaped_facts : (y : Memory) (n : ℕ) → shaped y n ≡ true → Shaped y n
shaped_facts y n h =
    let a = and_parts (leb (length y.processes) 65536) _ h in
    let b = and_parts (leb (64 * length y.processes) (length y.vars)) _ a.1 in
    let c = and_parts (leb (length y.row) n) _ b.1 in
    let d = and_parts (leb y.progress.waiting (length y.row)) (leb y.progress.said (length y.lines)) c.1 in
    record { few = leb-true _ _ a.0; wide = leb-true _ _ b.0; scratch = leb-true _ _ c.0; in_row = leb-true _ _ d.0; in_lines = leb-true _ _ d.1 }

pub shaped_test : (y : Memory) (n : ℕ) → Shaped y n → shaped y n ≡ true
shaped_test y n s =
    and_from _ _ (le-leb _ _ s.few) (and_from _ _ (le-leb _ _ s.wide) (and_from _ _ (le-leb _ _ s.scratch) (and_from _ _ (le-leb _ _ s.in_row) (le-leb _ _ s.in_lines))))

-- How far a run has come: after k steps, of which it stopped at none.
pub record Reached (code kinds : List ℕ) (end sends : ℕ) (y : Memory) (k : ℕ) (z : Memory) : Type 0 where
  pub state_is : (ns : List (List ℕ)) → state_of z ≡ steps (model_of code kinds y.processes ns) end k (state_of y)
  pub went_on : (ns : List (List ℕ)) (j : ℕ) → j < k → stops (model_of code kinds y.processes ns) end (length y.row) (length y.lines) (steps (model_of code kinds y.processes ns) end j (state_of y)) ≡ None
  pub kinds_are : map (λ p. p.kind) z.processes ≡ map (λ p. p.kind) y.processes
  pub widths_are : map (λ p. p.width) z.processes ≡ map (λ p. p.width) y.processes
  pub shaped_still : Shaped z sends
  pub long_row : length z.row ≡ length y.row
  pub long_lines : length z.lines ≡ length y.lines

pub at_first : (code kinds : List ℕ) (end sends : ℕ) (y : Memory) → Shaped y sends → Reached code kinds end sends y 0 y
unfolding steps
at_first code kinds end sends y h =
    record { state_is = λ ns. refl; went_on = λ ns j l. absurd (omega arith); kinds_are = refl; widths_are = refl; shaped_still = h; long_row = refl; long_lines = refl }

module _ (code kinds : List ℕ) (end sends : ℕ) (y z : Memory) (k : ℕ) (r : Reached code kinds end sends y k z) where
  -- It is still the same model.
  same_model : (ns : List (List ℕ)) → model_of code kinds z.processes ns ≡ model_of code kinds y.processes ns
  same_model ns = λ i. record { bodies = (model_of code kinds y.processes ns).bodies; kinds = r.kinds_are i; numbers = ns; rounds = 1000 }

  -- Why it stops where it has come to, said of the state after k steps.
  pub stops_there : (ns : List (List ℕ)) →
      stops (model_of code kinds z.processes ns) end (length z.row) (length z.lines) (state_of z)
      ≡ stops (model_of code kinds y.processes ns) end (length y.row) (length y.lines) (state_of z)
  stops_there ns = λ i. stops (same_model ns i) end (r.long_row i) (r.long_lines i) (state_of z)

  pub one_more : (z' : Memory) → Stepped code kinds end sends z z' →
      ((ns : List (List ℕ)) → None ≡ stops (model_of code kinds z.processes ns) end (length z.row) (length z.lines) (state_of z)) →
      length z'.row ≡ length z.row → length z'.lines ≡ length z.lines → Reached code kinds end sends y (k + 1) z'
  unfolding steps
  one_more z' s h lr ll =
      record {
        state_is = λ ns.
            s.state_is ns ∙ (λ i. step (same_model ns i) end (r.state_is ns i)) ∙ sym (steps_add (model_of code kinds y.processes ns) end k 1 (state_of y));
        went_on = λ ns.
            below_more _ k (r.went_on ns)
            (ap (λ q. stops (model_of code kinds y.processes ns) end (length y.row) (length y.lines) q) (sym (r.state_is ns)) ∙ sym (stops_there ns) ∙ sym (h ns));
        kinds_are = s.kinds_are ∙ r.kinds_are;
        widths_are = s.widths_are ∙ r.widths_are;
        shaped_still = s.shaped_still;
        long_row = lr ∙ r.long_row;
        long_lines = ll ∙ r.long_lines;
      }

  -- It stops there.
  pub run_stops : (budget : ℕ) (o : Outcome) → k < budget →
      ((ns : List (List ℕ)) → Some o ≡ stops (model_of code kinds z.processes ns) end (length z.row) (length z.lines) (state_of z)) →
      RunIn code kinds end budget sends y (record { outcome = o; steps = k }) z
  run_stops budget o l h =
      record {
        ran = λ ns. record { steps_are = r.state_is ns; went_on = r.went_on ns; stopped = inr (l, sym (h ns ∙ stops_there ns)) };
        kinds_are = r.kinds_are;
        widths_are = r.widths_are;
        shaped_still = shaped_test z sends r.shaped_still;
      }

  -- The budget is used up there.
  pub run_pauses : RunIn code kinds end k sends y (record { outcome = Paused; steps = k }) z
  run_pauses =
      record {
        ran = λ ns. record { steps_are = r.state_is ns; went_on = r.went_on ns; stopped = inl (refl, refl) };
        kinds_are = r.kinds_are;
        widths_are = r.widths_are;
        shaped_still = shaped_test z sends r.shaped_still;
      }

-- A report by its number of steps alone.
pub steps_only : (b : Bool) (code kinds : List ℕ) (end budget sends : ℕ) (y : Memory) (S : List Message) (r : Report) (y' : Memory) (S' : List Message) →
    MatchBool b (RunIn code kinds end budget sends y r y') (NotRun y S r y' S') →
    MatchBool b ((o : Outcome) × RunIn code kinds end budget sends y (record { outcome = o; steps = r.steps }) y') (NotRun y S (record { outcome = Short; steps = r.steps }) y' S')
steps_only true code kinds end budget sends y S r y' S' h = (r.outcome, h)
steps_only false code kinds end budget sends y S r y' S' h = record { refused = ap (λ q. record { outcome = Short; steps = q.steps }) h.refused; same = h.same; same_sends = h.same_sends }

-- What is lent stays the same through no step, and through two that keep it.
pub same_at_first : (l : Lent) → SameLent l l
same_at_first l =
    record { processes = refl; vars = refl; row = refl; lines = refl; progress = refl; process_places = refl; var_places = refl; row_places = refl; line_places = refl }

pub same_then : {k l m : Lent} → SameLent k l → SameLent l m → SameLent k m
same_then s t =
    record {
      processes = t.processes ∙ s.processes;
      vars = t.vars ∙ s.vars;
      row = t.row ∙ s.row;
      lines = t.lines ∙ s.lines;
      progress = t.progress ∙ s.progress;
      process_places = t.process_places ∙ s.process_places;
      var_places = t.var_places ∙ s.var_places;
      row_places = t.row_places ∙ s.row_places;
      line_places = t.line_places ∙ s.line_places;
    }
