-- Runs of the meaning up to a time t: which messages they handle, and what they leave.
use Rattle.std.proofs.Common.{◌≡◌, ℕ, zero, suc, ◌+◌, ◌<◌, ◌≤◌, true, cond, ltb, List, [], ◌∷◌, ◌++◌, length, sym, refl, ap, ◌∙◌, subst, ⊎_elim, append_assoc, arith}
use Rattle.std.specs.List.{AllByRecursion}
use Rattle.std.proofs.lemmas.List.{append-nil}
use Rattle.std.proofs.ByRecursion.{All-weaker}
use Rattle.std.proofs.lemmas.Bool.{cond_both, cond-true, cond-false, lt-ltb, le-ltb, cases_lt}
use Rattle.meaning.specs.declared.Message.{Message}
use Rattle.meaning.specs.Model.{Model, State, handle_in, handled_in, handling, step_with, step, steps, before}
use Rattle.meaning.specs.Law.{replay, said_along}
use Rattle.meaning.proofs.Order.{earlier_before, before_time}
use Rattle.meaning.proofs.Ordered.{After, Ordered, after_trans, all_insert_all}
use Rattle.meaning.proofs.States.{Fine, fine_handling, sends_later}

-- All of xs are for t or later.
abbrev pub Idle : ℕ → List Message → Type 0
Idle t xs = AllByRecursion (λ y. t ≤ y.time) xs

-- The first of xs, if it is before t, and then H.
unfoldable pub first_below : ℕ → List Message → List Message → List Message
first_below t [] H = []
first_below t (x ∷ xs) H = cond (ltb x.time t) (x ∷ H) []

-- The messages that the first k steps handle, in order.
unfoldable pub handled : Model → ℕ → ℕ → State → List Message
handled m t zero s = []
handled m t (suc k) s = first_below t s.pending (handled m t k (step m t s))

-- What the next step does.
pub data Next (t : ℕ) (s : State) : Type 0 where
  idle : Idle t s.pending → Next t s
  first : (x : Message) (xs : List Message) → s.pending ≡ x ∷ xs → x.time < t → Next t s

pub idle_from_first : (t : ℕ) (x : Message) (xs : List Message) → t ≤ x.time → After x xs → Idle t (x ∷ xs)
idle_from_first t x xs l h =
    (l, All-weaker (λ y. before x y ≡ true) (λ y. t ≤ y.time) (λ y b. omega (arith, before_time x y b)) xs h)

pub next : (t : ℕ) (s : State) → Ordered s.pending → Next t s
next t s h = go s.pending refl h
  where
    go : (xs : List Message) → s.pending ≡ xs → Ordered xs → Next t s
    go [] e o = idle (subst (Idle t) (sym e) tt)
    go (x ∷ xs) e o =
        ⊎_elim (λ l. first x xs e l) (λ l. idle (subst (Idle t) (sym e) (idle_from_first t x xs l o.0))) (cases_lt x.time t)

pub step_first :
    (m : Model) (t : ℕ) (s : State) (x : Message) (xs : List Message) → s.pending ≡ x ∷ xs → x.time < t → step m t s ≡ handling m s x xs
unfolding step step_with
step_first m t s x xs e l = ap (step_with m t s) e ∙ cond-true (ltb x.time t) (handling m s x xs) s (lt-ltb x.time t l)

pub step_idle : (m : Model) (t : ℕ) (s : State) → Idle t s.pending → step m t s ≡ s
unfolding step step_with
step_idle m t s h = go s.pending h
  where
    go : (xs : List Message) → Idle t xs → step_with m t s xs ≡ s
    go [] i = refl
    go (x ∷ xs) i = cond-false (ltb x.time t) (handling m s x xs) s (le-ltb x.time t i.0)

pub steps_idle : (m : Model) (t k : ℕ) (s : State) → Idle t s.pending → steps m t k s ≡ s
unfolding steps
steps_idle m t zero s h = refl
steps_idle m t (suc k) s h = ap (steps m t k) (step_idle m t s h) ∙ steps_idle m t k s h

pub steps_first :
    (m : Model) (t k : ℕ) (s : State) (x : Message) (xs : List Message) → s.pending ≡ x ∷ xs → x.time < t →
    steps m t (suc k) s ≡ steps m t k (handling m s x xs)
unfolding steps
steps_first m t k s x xs e l = ap (steps m t k) (step_first m t s x xs e l)

pub handled_idle : (m : Model) (t k : ℕ) (s : State) → Idle t s.pending → handled m t k s ≡ []
unfolding handled first_below
handled_idle m t zero s h = refl
handled_idle m t (suc k) s h = go s.pending (handled m t k (step m t s)) h
  where
    go : (xs H : List Message) → Idle t xs → first_below t xs H ≡ []
    go [] H i = refl
    go (x ∷ xs) H i = cond-false (ltb x.time t) (x ∷ H) [] (le-ltb x.time t i.0)

pub handled_first :
    (m : Model) (t k : ℕ) (s : State) (x : Message) (xs : List Message) → s.pending ≡ x ∷ xs → x.time < t →
    handled m t (suc k) s ≡ x ∷ handled m t k (handling m s x xs)
unfolding handled first_below
handled_first m t k s x xs e l =
    ap (λ z. first_below t z (handled m t k (step m t s))) e
    ∙ cond-true (ltb x.time t) (x ∷ handled m t k (step m t s)) [] (lt-ltb x.time t l)
    ∙ ap (λ z. x ∷ handled m t k z) (step_first m t s x xs e l)

-- Not more are handled than steps are made.
pub length_handled_le : (m : Model) (t k : ℕ) (s : State) → length (handled m t k s) ≤ k
unfolding handled first_below
length_handled_le m t zero s = omega arith
length_handled_le m t (suc k) s = go s.pending (handled m t k (step m t s)) (length_handled_le m t k (step m t s))
  where
    go : (xs H : List Message) → length H ≤ k → length (first_below t xs H) ≤ suc k
    go [] H l = omega arith
    go (x ∷ xs) H l = cond_both (ltb x.time t) (x ∷ H) [] (λ z. length z ≤ suc k) (λ _. omega arith) (λ _. omega arith)

-- What holds of no step, and of one more step in front, holds of any number: R of the state before, the messages handled and the state after.
pub run_induction :
    (m : Model) (t : ℕ) (R : State → List Message → State → Type 0) →
    ((s : State) → Fine m s → R s [] s) →
    ((s : State) (x : Message) (xs H : List Message) (e : State) → Fine m s → s.pending ≡ x ∷ xs → x.time < t →
    R (handling m s x xs) H e → R s (x ∷ H) e) →
    (k : ℕ) (s : State) → Fine m s → R s (handled m t k s) (steps m t k s)
unfolding handled steps
run_induction m t R stay more zero s f = stay s f
run_induction m t R stay more (suc k) s f = go (λ z g. run_induction m t R stay more k z g) (next t s f.ordered)
  where
    go : ((z : State) → Fine m z → R z (handled m t k z) (steps m t k z)) → Next t s → R s (handled m t (suc k) s) (steps m t (suc k) s)
    go ih (idle i) =
        subst (λ H. R s H (steps m t (suc k) s)) (sym (handled_idle m t (suc k) s i))
        (subst (R s []) (sym (steps_idle m t (suc k) s i)) (stay s f))
    go ih (first x xs e l) =
        subst (λ H. R s H (steps m t (suc k) s)) (sym (handled_first m t k s x xs e l))
        (subst (R s (x ∷ handled m t k (handling m s x xs))) (sym (steps_first m t k s x xs e l))
        (more s x xs (handled m t k (handling m s x xs)) (steps m t k (handling m s x xs)) f e l
        (ih (handling m s x xs) (fine_handling m s x xs e f))))

-- The processes are those of the replay, and what is said is what is said along it.
pub run_processes : (m : Model) (t k : ℕ) (s : State) → Fine m s → (steps m t k s).processes ≡ replay m s.processes (handled m t k s)
unfolding replay handling
run_processes m t k s f =
    run_induction m t (λ z H e. e.processes ≡ replay m z.processes H) (λ _ _. refl) (λ _ _ _ _ _ _ _ _ r. r) k s f

pub run_said : (m : Model) (t k : ℕ) (s : State) → Fine m s → (steps m t k s).said ≡ s.said ++ said_along m s.processes (handled m t k s)
unfolding said_along handling
run_said m t k s f =
    run_induction m t (λ z H e. e.said ≡ z.said ++ said_along m z.processes H) (λ z _. sym (append-nil z.said))
    (λ z x xs H e _ _ _ r.
    r ∙ append_assoc z.said (handle_in m z.processes x).says (said_along m (handled_in m z.processes x) H))
    k s f

pub run_timely : (m : Model) (t k : ℕ) (s : State) → Fine m s → AllByRecursion (λ x. x.time < t) (handled m t k s)
run_timely m t k s f = run_induction m t (λ z H e. AllByRecursion (λ x. x.time < t) H) (λ _ _. tt) (λ _ _ _ _ _ _ _ l r. (l, r)) k s f

-- What is sent is later than what is handled, so that all that is pending then comes after it.
pub after_handling : (m : Model) (s : State) (x : Message) (xs : List Message) → After x xs → After x (handling m s x xs).pending
unfolding handling
after_handling m s x xs h =
    all_insert_all (λ y. before x y ≡ true) (handle_in m s.processes x).sends xs
    (All-weaker (λ y. x.time < y.time) (λ y. before x y ≡ true) (λ y l. earlier_before x y l) (handle_in m s.processes x).sends
    (sends_later m s.processes x))
    h

-- Messages are handled in their order, and after all that comes before the pending ones.
run_ordered_after :
    (m : Model) (t k : ℕ) (s : State) → Fine m s →
    Ordered (handled m t k s) × ((a : Message) → After a s.pending → After a (handled m t k s))
run_ordered_after m t k s f =
    run_induction m t (λ z H e. Ordered H × ((a : Message) → After a z.pending → After a H)) (λ _ _. (tt, λ _ _. tt))
    (λ z x xs H e g p l r.
    let o : Ordered (x ∷ xs) = subst Ordered p g.ordered in
    let h : After x H = r.1 x (after_handling m z x xs o.0) in
    ((h, r.0), λ a b. let c : After a (x ∷ xs) = subst (After a) p b in (c.0, after_trans a x H c.0 h)))
    k s f

pub run_ordered : (m : Model) (t k : ℕ) (s : State) → Fine m s → Ordered (handled m t k s)
run_ordered m t k s f = (run_ordered_after m t k s f).0

pub run_after : (m : Model) (t k : ℕ) (s : State) (a : Message) → Fine m s → After a s.pending → After a (handled m t k s)
run_after m t k s a f h = (run_ordered_after m t k s f).1 a h

-- One run after another.
pub steps_add : (m : Model) (t i j : ℕ) (s : State) → steps m t (i + j) s ≡ steps m t j (steps m t i s)
unfolding steps
steps_add m t zero j s = let e : 0 + j ≡ j = omega arith in ap (λ k. steps m t k s) e
steps_add m t (suc i) j s =
    let e : suc i + j ≡ suc (i + j) = omega arith in
    ap (λ k. steps m t k s) e ∙ steps_add m t i j (step m t s)

pub handled_add : (m : Model) (t i j : ℕ) (s : State) → Fine m s → handled m t (i + j) s ≡ handled m t i s ++ handled m t j (steps m t i s)
unfolding handled steps
handled_add m t zero j s f = let e : 0 + j ≡ j = omega arith in ap (λ k. handled m t k s) e
handled_add m t (suc i) j s f =
    let e : suc i + j ≡ suc (i + j) = omega arith in
    ap (λ k. handled m t k s) e ∙ go (λ z g. handled_add m t i j z g) (next t s f.ordered)
  where
    go :
        ((z : State) → Fine m z → handled m t (i + j) z ≡ handled m t i z ++ handled m t j (steps m t i z)) → Next t s →
        handled m t (suc (i + j)) s ≡ handled m t (suc i) s ++ handled m t j (steps m t (suc i) s)
    go ih (idle h) =
        handled_idle m t (suc (i + j)) s h
        ∙ sym
        (ap (λ H. H ++ handled m t j (steps m t (suc i) s)) (handled_idle m t (suc i) s h)
        ∙ ap (handled m t j) (steps_idle m t (suc i) s h)
        ∙ handled_idle m t j s h)
    go ih (first x xs e l) =
        handled_first m t (i + j) s x xs e l
        ∙ ap (λ H. x ∷ H) (ih (handling m s x xs) (fine_handling m s x xs e f))
        ∙ sym
        (ap (λ H. H ++ handled m t j (steps m t (suc i) s)) (handled_first m t i s x xs e l)
        ∙ ap (λ z. x ∷ handled m t i (handling m s x xs) ++ handled m t j z) (steps_first m t i s x xs e l))

-- A run up to t is the beginning of a run up to any later time.
pub run_extends :
    (m : Model) (t end k : ℕ) (s : State) → t ≤ end → Fine m s →
    (steps m end (length (handled m t k s)) s ≡ steps m t k s) × (handled m end (length (handled m t k s)) s ≡ handled m t k s)
unfolding steps handled
run_extends m t end k s b f =
    run_induction m t (λ z H e. (steps m end (length H) z ≡ e) × (handled m end (length H) z ≡ H)) (λ _ _. (refl, refl))
    (λ z x xs H e _ p l r.
    let below : x.time < end = omega arith in (
      steps_first m end (length H) z x xs p below ∙ r.0,
      handled_first m end (length H) z x xs p below ∙ ap (λ G. x ∷ G) r.1,
    ))
    k s f
