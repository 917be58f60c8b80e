-- A worker that plays: where in the meaning it is, and what a piece of work makes of that.
use Rattle.std.proofs.Common.{◌≡◌, ℕ, zero, suc, ◌+◌, ◌<◌, Bool, true, false, cond, eqb, ltb, leb, List, [], ◌∷◌, ◌++◌, length, take, drop, Some, None, Option, sym, refl, ap, ◌∙◌, subst, inl, ⊎_elim, append_assoc, arith}
use Rattle.std.proofs.lemmas.List.{append-nil, take-append-drop, nil_from_length}
use Rattle.std.proofs.lemmas.Bool.{cond_both, cond-true, cond-false, ltb-true, eqb-true, eqb-false, eq-eqb, cases_Bool, cases_eq, and_right, both_ways}
use Rattle.meaning.specs.declared.Message.{Message}
use Rattle.meaning.specs.declared.Line.{Line}
use Rattle.meaning.specs.Model.{Model, State, Done, handle_in, handling, step, step_with, steps, start}
use Rattle.meaning.specs.Promise.{said_before}
use Rattle.meaning.proofs.Forget.{may_forget}
use Rattle.meaning.proofs.Ordered.{Ordered, After, not_after_itself}
use Rattle.meaning.proofs.States.{Fine, fine_steps}
use Rattle.meaning.proofs.Runs.{after_handling, step_first, steps_add}
use Rattle.sequential.specs.declared.Outcome.{Outcome}
use Rattle.sequential.specs.declared.Outcome.TheVariants.{Ended, Paused, Waiting, Lines, Count, Short}
use Rattle.sequential.specs.Memory.{refuses, stops_at, stops}
use Rattle.body.specs.Play.{top}
use Rattle.text.specs.Printed.{fitting}
use Rattle.worker.specs.Worker.{Job, Worker, piece_bytes, empty, first_state, begin, handle_by, handles, tells, work}
use Rattle.worker.proofs.Kept.{kept_handles}

-- The meaning of what a worker is given, after k messages.
abbrev pub meant : Job → ℕ → State
meant j k = steps j.model j.end k (start j.model j.luck j.outside)

abbrev pub Over : Job → ℕ → Type 0
Over j k = step j.model j.end (meant j k) ≡ meant j k

-- The meaning begins well.
abbrev pub Sound : Job → Type 0
Sound j = Fine j.model (start j.model j.luck j.outside)

pub one_more : (j : Job) (k : ℕ) → meant j (suc k) ≡ step j.model j.end (meant j k)
unfolding steps
one_more j k =
    let e : suc k ≡ k + 1 = omega arith in
    ap (λ i. meant j i) e ∙ steps_add j.model j.end k 1 (start j.model j.luck j.outside)

-- The next message, if it is before the end.
pub data Ahead (end : ℕ) (s : State) : Type 0 where
  ahead : (x : Message) (xs : List Message) → s.pending ≡ x ∷ xs → x.time < end → Ahead end s

not_ended : (d : Done) (others places lines said : ℕ) → refuses d others places lines said ≡ Some Ended → ⊥
not_ended d others places lines said =
    go (ltb places (others + length d.sends)) (ltb lines (said + length d.says)) (eqb said 0) (ltb top d.process.sent)
  where
    go : (a b c e : Bool) → cond a (Some Waiting) (cond b (Some (cond c Lines Paused)) (cond e (Some Count) None)) ≡ Some Ended → ⊥
    go true b c e q = let z : ◌≡◌ {A = ℕ} 0 1 = cc in omega arith
    go false true true e q = let z : ◌≡◌ {A = ℕ} 0 1 = cc in omega arith
    go false true false e q = let z : ◌≡◌ {A = ℕ} 0 1 = cc in omega arith
    go false false c true q = let z : ◌≡◌ {A = ℕ} 0 1 = cc in omega arith
    go false false c false q = let z : ◌≡◌ {A = ℕ} 0 1 = cc in omega arith

-- Where a run ends, a step changes nothing.
ended_over : (m : Model) (end R L : ℕ) (s : State) → stops m end R L s ≡ Some Ended → step m end s ≡ s
unfolding step step_with stops_at
ended_over m end R L s = go s.pending
  where
    go : (xs : List Message) → stops_at m end R L s xs ≡ Some Ended → step_with m end s xs ≡ s
    go [] q = refl
    go (x ∷ xs) q =
        cond_both (ltb x.time end) (handling m s x xs) s (λ z. z ≡ s)
        (λ t. absurd (not_ended (handle_in m s.processes x) (length xs) R L (length s.said) (sym (cond-true (ltb x.time end) _ (Some Ended) t) ∙ q)))
        (λ _. refl)

-- Where a run goes on, there is a message to handle.
none_ahead : (m : Model) (end R L : ℕ) (s : State) → stops m end R L s ≡ None → Ahead end s
unfolding stops_at
none_ahead m end R L s = go s.pending refl
  where
    go : (xs : List Message) → s.pending ≡ xs → stops_at m end R L s xs ≡ None → Ahead end s
    go [] e q = let z : ◌≡◌ {A = ℕ} 0 1 = cc in absurd (omega arith)
    go (x ∷ xs) e q =
        ⊎_elim (λ t. ahead x xs e (ltb-true x.time end t))
        (λ t. let r = sym (cond-false (ltb x.time end) (refuses (handle_in m s.processes x) (length xs) R L (length s.said)) (Some Ended) t) ∙ q in
        let z : ◌≡◌ {A = ℕ} 0 1 = cc in absurd (omega arith))
        (cases_Bool (ltb x.time end))

-- Handling a message changes the state: the message is pending no more.
pub ahead_changes : (m : Model) (end : ℕ) (s : State) → Fine m s → Ahead end s → step m end s ≡ s → ⊥
ahead_changes m end s f (ahead x xs e l) q =
    let o : Ordered (x ∷ xs) = subst Ordered e f.ordered in
    let p : (handling m s x xs).pending ≡ x ∷ xs = ap (λ z. z.pending) (sym (step_first m end s x xs e l) ∙ q) ∙ e in
    let h : After x (x ∷ xs) = subst (After x) p (after_handling m s x xs o.0) in
    not_after_itself x (x ∷ xs) h (inl refl)

-- After c messages: what was told and what is not told yet are what the meaning has said by then; the meaning was not over before; and it is
-- over, with all told, if the worker says so.
pub record Played (w : Worker) (c : ℕ) : Type 0 where
  pub state_is : said_before w.told w.state ≡ meant w.job c
  pub live : (i : ℕ) → i < c → Over w.job i → ⊥
  pub ended : w.done ≡ true → (w.state.said ≡ []) × Over w.job c

-- Why the next message is not handled, if so.
abbrev pub why : Worker → Option Outcome
why w = stops w.job.model w.job.end w.job.places w.job.places w.state

-- What handling the next message, if any, makes of a worker.
pub data Went (w : Worker) (c : ℕ) (v : Worker) : Type 0 where
  finished : Played v c → v.done ≡ true → Went w c v
  handled : Played v (suc c) → v.told ≡ w.told → Went w c v
  talks : v ≡ w → 0 < length w.state.said → Went w c v
  refused : v ≡ w → w.state.said ≡ [] → (o : Outcome) → why w ≡ Some o → (o ≡ Ended → ⊥) → Went w c v

module _ (w : Worker) (c : ℕ) (f : Sound w.job) (p : Played w c) where
  pub same_processes : w.state.processes ≡ (meant w.job c).processes
  unfolding said_before
  same_processes = ap (λ s. s.processes) p.state_is

  pub same_pending : w.state.pending ≡ (meant w.job c).pending
  unfolding said_before
  same_pending = ap (λ s. s.pending) p.state_is

  fine_here : Fine w.job.model (meant w.job c)
  fine_here = fine_steps w.job.model w.job.end c _ f

  ahead_here : Ahead w.job.end w.state → Ahead w.job.end (meant w.job c)
  ahead_here (ahead x xs e l) = ahead x xs (sym same_pending ∙ e) l

  -- A step of the worker's state is a step of the meaning.
  step_here : said_before w.told (step w.job.model w.job.end w.state) ≡ step w.job.model w.job.end (meant w.job c)
  unfolding steps
  step_here = sym (may_forget w.job.model w.job.end 1 w.told w.state) ∙ ap (step w.job.model w.job.end) p.state_is

  not_over : why w ≡ None → Over w.job c → ⊥
  not_over q =
      ahead_changes w.job.model w.job.end (meant w.job c) fine_here
      (ahead_here (none_ahead w.job.model w.job.end w.job.places w.job.places w.state q))

  went_none : why w ≡ None → Went w c (handle_by None w)
  unfolding handle_by
  went_none q =
      handled
      (record {
        state_is = step_here ∙ sym (one_more w.job c);
        live = λ i l. ⊎_elim (λ e. subst (λ z. Over w.job z → ⊥) (sym e) (not_over q)) (λ h. p.live i (omega arith)) (cases_eq i c);
        ended = λ d. absurd (not_over q (p.ended d).1);
      })
      refl

  went_ended : w.state.said ≡ [] → why w ≡ Some Ended →
      Went w c (handle_by (Some Ended) w)
  unfolding handle_by
  went_ended n q =
      let o : Over w.job c =
      sym step_here ∙ ap (said_before w.told) (ended_over w.job.model w.job.end w.job.places w.job.places w.state q) ∙ p.state_is in
      finished (record { state_is = p.state_is; live = p.live; ended = λ _. (n, o) }) refl

  went_by : w.state.said ≡ [] → (o : Option Outcome) → why w ≡ o →
      Went w c (handle_by o w)
  unfolding handle_by
  went_by n None q = went_none q
  went_by n (Some Ended) q = went_ended n q
  went_by n (Some Paused) q = refused refl n Paused q (λ e. let z : ◌≡◌ {A = ℕ} 0 1 = cc in omega arith)
  went_by n (Some Waiting) q = refused refl n Waiting q (λ e. let z : ◌≡◌ {A = ℕ} 0 1 = cc in omega arith)
  went_by n (Some Lines) q = refused refl n Lines q (λ e. let z : ◌≡◌ {A = ℕ} 0 1 = cc in omega arith)
  went_by n (Some Count) q = refused refl n Count q (λ e. let z : ◌≡◌ {A = ℕ} 0 1 = cc in omega arith)
  went_by n (Some Short) q = refused refl n Short q (λ e. let z : ◌≡◌ {A = ℕ} 0 1 = cc in omega arith)

  pub went : Went w c (handles w)
  unfolding handles
  went =
      cond_both (eqb (length w.state.said) 0) _ w (Went w c)
      (λ e. went_by (nil_from_length w.state.said (eqb-true _ 0 e)) _ refl)
      (λ e. let h = eqb-false (length w.state.said) 0 e in talks refl (positive (length w.state.said) h))
    where
      positive : (n : ℕ) → (n ≡ 0 → ⊥) → 0 < n
      positive zero h = absurd (h refl)
      positive (suc n) h = omega arith

-- Telling lines moves them.
pub played_tells : (w : Worker) (c : ℕ) → Played w c → Played (tells w) c
unfolding tells said_before fitting
played_tells w c p =
    let n = fitting piece_bytes w.state.said in
    let e : (w.told ++ take n w.state.said) ++ drop n w.state.said ≡ w.told ++ w.state.said =
    append_assoc w.told (take n w.state.said) (drop n w.state.said) ∙ ap (λ z. w.told ++ z) (take-append-drop n w.state.said) in
    record {
      state_is = (λ i. record { processes = w.state.processes; pending = w.state.pending; said = e i }) ∙ p.state_is;
      live = p.live;
      ended = λ d. (ap (λ l. drop (fitting piece_bytes l) l) (p.ended d).0 ∙ refl, (p.ended d).1);
    }

-- A worker that plays, or has told nothing and is not done.
pub data Right (w : Worker) : Type 0 where
  plays : (c : ℕ) → Sound w.job → Played w c → Right w
  silent : w.ready ≡ false → w.told ≡ [] → w.done ≡ false → Right w

right_went : (w : Worker) (c : ℕ) (v : Worker) → v.job ≡ w.job → Sound w.job → Played w c → Went w c v → Right (tells v)
unfolding tells
right_went w c v e f p (finished q d) = plays c (subst Sound (sym e) f) (played_tells v c q)
right_went w c v e f p (handled q t) = plays (suc c) (subst Sound (sym e) f) (played_tells v (suc c) q)
right_went w c v e f p (talks q l) = subst (λ z. Right (tells z)) (sym q) (plays c f (played_tells w c p))
right_went w c v e f p (refused q n o s h) = subst (λ z. Right (tells z)) (sym q) (plays c f (played_tells w c p))

pub right_work : (w : Worker) → Right w → Right (work w)
unfolding work
right_work w (plays c f p) =
    cond_both w.ready (tells (handles w)) w Right
    (λ _. right_went w c (handles w) (kept_handles w).job f p (went w c f p)) (λ _. plays c f p)
right_work w (silent r t d) = subst Right (sym (cond-false w.ready (tells (handles w)) w r)) (silent r t d)

-- The first worker is right at the start.
pub right_begin : (j : Job) → j.number ≡ 0 → Sound j → Right (begin j)
unfolding begin said_before steps
right_begin j n f =
    ⊎_elim
    (λ r. plays 0 f
    (record {
      state_is =
          ap (said_before [])
          (cond-true (eqb j.number 0) (first_state j) empty (eq-eqb j.number 0 n)
          ∙ cond-true (leb (length j.outside) j.places) (start j.model j.luck j.outside) empty r);
      live = λ i l. absurd (omega arith);
      ended = λ d. absurd (both_ways false refl d);
    }))
    (λ r. silent (and_right (eqb j.number 0) (leb (length j.outside) j.places) r) refl refl)
    (cases_Bool (leb (length j.outside) j.places))

pub right_said : (w : Worker) → Right w → (k : ℕ) × (zs : List Line) × ((meant w.job k).said ≡ w.told ++ zs)
unfolding said_before steps start
right_said w (plays c f p) = (c, w.state.said, sym (ap (λ s. s.said) p.state_is))
right_said w (silent r t d) = (0, [], sym (ap (λ z. z ++ []) t))

pub right_done : (w : Worker) → Right w → w.done ≡ true → (k : ℕ) × (w.told ≡ (meant w.job k).said) × Over w.job k
unfolding said_before
right_done w (plays c f p) d =
    let h = p.ended d in
    (c, sym (append-nil w.told) ∙ ap (λ z. w.told ++ z) (sym h.0) ∙ ap (λ s. s.said) p.state_is, h.1)
right_done w (silent r t d) e = absurd (both_ways w.done d e)

-- Nothing that was told is taken back.
told_handle : (o : Option Outcome) (w : Worker) → (handle_by o w).told ≡ w.told
unfolding handle_by
told_handle None w = refl
told_handle (Some Ended) w = refl
told_handle (Some Paused) w = refl
told_handle (Some Waiting) w = refl
told_handle (Some Lines) w = refl
told_handle (Some Count) w = refl
told_handle (Some Short) w = refl

told_handles : (w : Worker) → (handles w).told ≡ w.told
unfolding handles
told_handles w = cond_both (eqb (length w.state.said) 0) _ w (λ v. v.told ≡ w.told) (λ _. told_handle _ w) (λ _. refl)

pub told_work : (w : Worker) → (zs : List Line) × ((work w).told ≡ w.told ++ zs)
unfolding work tells
told_work w =
    let v = handles w in
    let ls = take (fitting piece_bytes v.state.said) v.state.said in
    cond_both w.ready (tells v) w (λ u. (zs : List Line) × (u.told ≡ w.told ++ zs)) (λ _. (ls, ap (λ z. z ++ ls) (told_handles w)))
    (λ _. ([], sym (append-nil w.told)))
