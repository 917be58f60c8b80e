-- A list that is in order, below a time, and holds just what is pending or sent by handling it in order, is what the run handles.
use Rattle.std.proofs.Common.{◌≡◌, ℕ, zero, suc, ◌<◌, ◌≤◌, true, ◌⊎◌, List, [], ◌∷◌, ◌++◌, length, sym, refl, ap, ◌∙◌, subst, inl, inr, ⊎_elim, arith}
use Rattle.std.specs.List.{AllByRecursion}
use Rattle.std.proofs.ByRecursion.{All-weaker, All-append}
use Rattle.std.proofs.lemmas.Bool.{cases_lt}
use Rattle.meaning.specs.declared.Message.{Message}
use Rattle.meaning.specs.Model.{Model, Process, State, handle_in, handled_in, insert_all, handling, step, steps, initial, start, before}
use Rattle.meaning.specs.Law.{replay, sent_along, said_along, History, WholeRun}
use Rattle.meaning.proofs.Members.{Member, has_from_member, member_from_has, member_left, member_right, member_cases, all_member, all_from_member}
use Rattle.meaning.proofs.Order.{before_time, before_differs, before_asymmetric}
use Rattle.meaning.proofs.Ordered.{After, Ordered, sorted_from_ordered, ordered_from_sorted, not_after_itself, member_insert_all_old, member_insert_all_new, member_insert_all_cases}
use Rattle.meaning.proofs.States.{Fine, fine_handling, fine_steps, fine_start, sends_later}
use Rattle.meaning.proofs.Runs.{Idle, handled, Next, idle, first, next, step_first, steps_idle, steps_first, handled_idle, handled_first, length_handled_le, run_induction, run_processes, run_said, run_timely, run_ordered, after_handling}

-- All that is sent when messages at or after a are handled is after a.
pub sent_along_later : (m : Model) (a : ℕ) (ps : List Process) (H : List Message) → AllByRecursion (λ x. a ≤ x.time) H → AllByRecursion (λ y. a < y.time) (sent_along m ps H)
unfolding sent_along
sent_along_later m a ps [] h = tt
sent_along_later m a ps (x ∷ H) h =
    All-append (λ y. a < y.time) (handle_in m ps x).sends (sent_along m (handled_in m ps x) H)
    (All-weaker (λ y. x.time < y.time) (λ y. a < y.time) (λ y l. omega (arith, h.0)) (handle_in m ps x).sends (sends_later m ps x))
    (sent_along_later m a (handled_in m ps x) H h.1)

pub sent_along_after_first : (m : Model) (ps : List Process) (x : Message) (H : List Message) → After x H → AllByRecursion (λ y. x.time < y.time) (sent_along m ps (x ∷ H))
sent_along_after_first m ps x H h =
    sent_along_later m x.time ps (x ∷ H)
    (omega arith, All-weaker (λ y. before x y ≡ true) (λ y. x.time ≤ y.time) (λ y b. before_time x y b) H h)

-- What is pending or sent along a list that begins with the first pending message: that message, or what is pending or sent along once it is handled.
pub account_split :
    (m : Model) (ps : List Process) (x z : Message) (xs H : List Message) → Member z ((x ∷ xs) ++ sent_along m ps (x ∷ H)) →
    (x ≡ z) ⊎ Member z (insert_all (handle_in m ps x).sends xs ++ sent_along m (handled_in m ps x) H)
unfolding sent_along
account_split m ps x z xs H h =
    ⊎_elim (λ k. pending k)
    (λ k.
    ⊎_elim (λ i. inr (member_left z new along (member_insert_all_new z sends xs i))) (λ i. inr (member_right z new along i)) (member_cases z sends along k))
    (member_cases z (x ∷ xs) (sends ++ along) h)
  where
    sends : List Message
    sends = (handle_in m ps x).sends

    along : List Message
    along = sent_along m (handled_in m ps x) H

    new : List Message
    new = insert_all sends xs

    pending : Member z (x ∷ xs) → (x ≡ z) ⊎ Member z (new ++ along)
    pending (inl e) = inl e
    pending (inr i) = inr (member_left z new along (member_insert_all_old z sends xs i))

pub account_join :
    (m : Model) (ps : List Process) (x z : Message) (xs H : List Message) →
    (x ≡ z) ⊎ Member z (insert_all (handle_in m ps x).sends xs ++ sent_along m (handled_in m ps x) H) →
    Member z ((x ∷ xs) ++ sent_along m ps (x ∷ H))
unfolding sent_along
account_join m ps x z xs H (inl e) = inl e
account_join m ps x z xs H (inr h) =
    ⊎_elim
    (λ k.
    ⊎_elim (λ i. member_right z (x ∷ xs) (sends ++ along) (member_left z sends along i)) (λ i. member_left z (x ∷ xs) (sends ++ along) (inr i))
    (member_insert_all_cases z sends xs k))
    (λ k. member_right z (x ∷ xs) (sends ++ along) (member_right z sends along k)) (member_cases z (insert_all sends xs) along h)
  where
    sends : List Message
    sends = (handle_in m ps x).sends

    along : List Message
    along = sent_along m (handled_in m ps x) H

-- What a run from s has to do with: what is pending, and what is sent along H.
abbrev pub Account : Model → State → List Message → Message → Type 0
Account m s H z = Member z (s.pending ++ sent_along m s.processes H)

pub account_first :
    (m : Model) (s : State) (x z : Message) (xs H : List Message) → s.pending ≡ x ∷ xs → Account m s (x ∷ H) z →
    (x ≡ z) ⊎ Account m (handling m s x xs) H z
unfolding handling
account_first m s x z xs H e h =
    account_split m s.processes x z xs H (subst (λ w. Member z (w ++ sent_along m s.processes (x ∷ H))) e h)

pub account_back :
    (m : Model) (s : State) (x z : Message) (xs H : List Message) → s.pending ≡ x ∷ xs → (x ≡ z) ⊎ Account m (handling m s x xs) H z →
    Account m s (x ∷ H) z
unfolding handling
account_back m s x z xs H e h =
    subst (λ w. Member z (w ++ sent_along m s.processes (x ∷ H))) (sym e) (account_join m s.processes x z xs H h)

account_none : (m : Model) (s : State) (z : Message) → Account m s [] z → Member z s.pending
unfolding sent_along
account_none m s z h = ⊎_elim (λ i. i) (λ i. absurd i) (member_cases z s.pending [] h)

-- What a run has handled and what is pending then is what was pending or was sent along.
pub run_caused :
    (m : Model) (t k : ℕ) (s : State) (z : Message) → Fine m s → Member z (handled m t k s) ⊎ Member z (steps m t k s).pending →
    Account m s (handled m t k s) z
run_caused m t k s z f =
    run_induction m t (λ a H e. Member z H ⊎ Member z e.pending → Account m a H z)
    (λ a _ h. ⊎_elim (λ i. absurd i) (λ i. member_left z a.pending (sent_along m a.processes []) i) h)
    (λ a x xs H e _ p _ r h. account_back m a x z xs H p (⊎_elim (λ i. ⊎_elim (λ q. inl q) (λ j. inr (r (inl j))) i) (λ i. inr (r (inr i))) h))
    k s f

-- And nothing of that is lost.
pub run_kept :
    (m : Model) (t k : ℕ) (s : State) (z : Message) → Fine m s → Account m s (handled m t k s) z →
    Member z (handled m t k s) ⊎ Member z (steps m t k s).pending
run_kept m t k s z f =
    run_induction m t (λ a H e. Account m a H z → Member z H ⊎ Member z e.pending) (λ a _ h. inr (account_none m a z h))
    (λ a x xs H e _ p _ r h.
    ⊎_elim (λ q. inl (inl q)) (λ i. ⊎_elim (λ j. inl (inr j)) (λ j. inr j) (r i)) (account_first m a x z xs H p h))
    k s f

-- A history, with membership by recursion.
pub record Complete (m : Model) (ps : List Process) (xs : List Message) (t : ℕ) (H : List Message) : Type 0 where
  pub ordered : Ordered H
  pub timely : AllByRecursion (λ x. x.time < t) H
  pub closed : (x : Message) → Member x (xs ++ sent_along m ps H) → x.time < t → Member x H
  pub caused : (x : Message) → Member x H → Member x (xs ++ sent_along m ps H)

pub complete_from_history : (m : Model) (ps : List Process) (xs : List Message) (t : ℕ) (H : List Message) → History m ps xs t H → Complete m ps xs t H
complete_from_history m ps xs t H h =
    record {
      ordered = ordered_from_sorted H h.sorted;
      timely = all_from_member (λ x. x.time < t) H (λ x i. h.timely x (has_from_member x H i));
      closed = λ x i l. member_from_has x H (h.closed x (has_from_member x (xs ++ sent_along m ps H) i) l);
      caused = λ x i. member_from_has x (xs ++ sent_along m ps H) (h.caused x (has_from_member x H i));
    }

pub history_from_complete : (m : Model) (ps : List Process) (xs : List Message) (t : ℕ) (H : List Message) → Complete m ps xs t H → History m ps xs t H
history_from_complete m ps xs t H h =
    record {
      sorted = sorted_from_ordered H h.ordered;
      timely = λ x i. all_member (λ y. y.time < t) x H h.timely (member_from_has x H i);
      closed = λ x i l. has_from_member x H (h.closed x (member_from_has x (xs ++ sent_along m ps H) i) l);
      caused = λ x i. has_from_member x (xs ++ sent_along m ps H) (h.caused x (member_from_has x H i));
    }

-- Only the members of the given messages matter.
pub complete_same :
    (m : Model) (ps : List Process) (xs ys : List Message) (t : ℕ) (H : List Message) → ((x : Message) → Member x xs → Member x ys) →
    ((x : Message) → Member x ys → Member x xs) → Complete m ps xs t H → Complete m ps ys t H
complete_same m ps xs ys t H f g h =
    record {
      ordered = h.ordered;
      timely = h.timely;
      closed = λ x i l. h.closed x (over ys xs x g i) l;
      caused = λ x i. over xs ys x f (h.caused x i);
    }
  where
    over : (us vs : List Message) (x : Message) → ((z : Message) → Member z us → Member z vs) → Member x (us ++ sent_along m ps H) → Member x (vs ++ sent_along m ps H)
    over us vs x k i =
        ⊎_elim (λ j. member_left x vs (sent_along m ps H) (k x j)) (λ j. member_right x vs (sent_along m ps H) j) (member_cases x us (sent_along m ps H) i)

-- A run that has come to its end has handled a complete list.
pub run_complete : (m : Model) (t k : ℕ) (s : State) → Fine m s → Idle t (steps m t k s).pending → Complete m s.processes s.pending t (handled m t k s)
run_complete m t k s f i =
    record {
      ordered = run_ordered m t k s f;
      timely = run_timely m t k s f;
      closed =
          λ x a l.
          ⊎_elim (λ j. j) (λ j. let late = all_member (λ y. t ≤ y.time) x (steps m t k s).pending i j in absurd (omega arith)) (run_kept m t k s x f a);
      caused = λ x j. run_caused m t k s x f (inl j);
    }

-- The first of a complete list is the first that is pending: it is not sent along the list, since all of that is later.
pub complete_first :
    (m : Model) (t : ℕ) (s : State) (h : Message) (H : List Message) → Fine m s → Complete m s.processes s.pending t (h ∷ H) →
    (xs : List Message) × (s.pending ≡ h ∷ xs)
complete_first m t s h H f c = go s.pending refl f.ordered pending_first
  where
    pending_first : Member h s.pending
    pending_first =
        ⊎_elim (λ i. i)
        (λ i.
        let late =
        all_member (λ y. h.time < y.time) h (sent_along m s.processes (h ∷ H)) (sent_along_after_first m s.processes h H c.ordered.0) i in
        absurd (omega arith))
        (member_cases h s.pending (sent_along m s.processes (h ∷ H)) (c.caused h (inl refl)))

    not_before : (x : Message) → Member x s.pending → before x h ≡ true → ⊥
    not_before x i b =
        ⊎_elim (λ e. before_differs x h b (sym e))
        (λ j. before_asymmetric x h b (all_member (λ y. before h y ≡ true) x H c.ordered.0 j))
        (c.closed x (member_left x s.pending (sent_along m s.processes (h ∷ H)) i) (omega (arith, before_time x h b, c.timely.0)))

    go : (xs : List Message) → s.pending ≡ xs → Ordered xs → Member h xs → (ys : List Message) × (s.pending ≡ h ∷ ys)
    go [] e o i = absurd i
    go (x ∷ xs) e o (inl q) = (xs, e ∙ ap (λ z. z ∷ xs) q)
    go (x ∷ xs) e o (inr i) =
        absurd (not_before x (subst (Member x) (sym e) (inl refl)) (all_member (λ y. before x y ≡ true) h xs o.0 i))

-- The rest is complete once the first is handled.
pub complete_rest :
    (m : Model) (t : ℕ) (s : State) (h : Message) (xs H : List Message) → Fine m s → s.pending ≡ h ∷ xs →
    Complete m s.processes s.pending t (h ∷ H) → Complete m (handling m s h xs).processes (handling m s h xs).pending t H
complete_rest m t s h xs H f e c =
    record {
      ordered = c.ordered.1;
      timely = c.timely.1;
      closed = λ x a l. ⊎_elim (λ q. absurd (not_again x q a)) (λ i. i) (c.closed x (account_back m s h x xs H e (inr a)) l);
      caused =
          λ x i.
          ⊎_elim (λ q. absurd (before_differs h x (all_member (λ y. before h y ≡ true) x H c.ordered.0 i) q)) (λ a. a)
          (account_first m s h x xs H e (c.caused x (inr i)));
    }
  where
    first_of : After h xs
    first_of = let o : Ordered (h ∷ xs) = subst Ordered e f.ordered in o.0

    not_again : (x : Message) → h ≡ x → Account m (handling m s h xs) H x → ⊥
    not_again x q a =
        ⊎_elim (λ i. before_differs h x (all_member (λ y. before h y ≡ true) x (handling m s h xs).pending (after_handling m s h xs first_of) i) q)
        (λ i.
        let late =
        all_member (λ y. h.time < y.time) x (sent_along m (handling m s h xs).processes H)
        (sent_along_later m h.time (handling m s h xs).processes H
        (All-weaker (λ y. before h y ≡ true) (λ y. h.time ≤ y.time) (λ y b. before_time h y b) H c.ordered.0))
        i in
        omega (arith, ap (λ z. z.time) q))
        (member_cases x (handling m s h xs).pending (sent_along m (handling m s h xs).processes H) a)

-- A complete list is what as many steps handle, and then nothing is pending below t.
certified :
    (m : Model) (t : ℕ) (H : List Message) (s : State) → Fine m s → Complete m s.processes s.pending t H →
    (handled m t (length H) s ≡ H) × Idle t (steps m t (length H) s).pending
unfolding handled steps
certified m t [] s f c = (
  refl,
  all_from_member (λ y. t ≤ y.time) s.pending
      (λ x i. ⊎_elim (λ l. absurd (c.closed x (member_left x s.pending (sent_along m s.processes []) i) l)) (λ l. l) (cases_lt x.time t)),
)
certified m t (h ∷ H) s f c =
    let p = complete_first m t s h H f c in
    let r = certified m t H (handling m s h p.0) (fine_handling m s h p.0 p.1 f) (complete_rest m t s h p.0 H f p.1 c) in (
      handled_first m t (length H) s h p.0 p.1 c.timely.0 ∙ ap (λ z. h ∷ z) r.0,
      subst (λ z. Idle t z.pending) (sym (steps_first m t (length H) s h p.0 p.1 c.timely.0)) r.1,
    )

-- All that a complete list says of the run: as many steps handle just it, then nothing is pending below t, the processes are those of
-- its replay, said is what is said along it, and pending is what was pending or is sent along it, for t or later.
pub record Certified (m : Model) (t : ℕ) (H : List Message) (s : State) : Type 0 where
  pub handles : handled m t (length H) s ≡ H
  pub ends : Idle t (steps m t (length H) s).pending
  pub processes : (steps m t (length H) s).processes ≡ replay m s.processes H
  pub said : (steps m t (length H) s).said ≡ s.said ++ said_along m s.processes H
  pub leaves : (x : Message) → Account m s H x → t ≤ x.time → Member x (steps m t (length H) s).pending
  pub left_by : (x : Message) → Member x (steps m t (length H) s).pending → Account m s H x

pub certificate : (m : Model) (t : ℕ) (H : List Message) (s : State) → Fine m s → Complete m s.processes s.pending t H → Certified m t H s
certificate m t H s f c =
    let r = certified m t H s f c in
    record {
      handles = r.0;
      ends = r.1;
      processes = subst (λ G. (steps m t (length H) s).processes ≡ replay m s.processes G) r.0 (run_processes m t (length H) s f);
      said = subst (λ G. (steps m t (length H) s).said ≡ s.said ++ said_along m s.processes G) r.0 (run_said m t (length H) s f);
      leaves =
          λ x a l.
          ⊎_elim
          (λ i.
          let early = all_member (λ y. y.time < t) x (handled m t (length H) s) (run_timely m t (length H) s f) i in absurd (omega arith))
          (λ i. i) (run_kept m t (length H) s x f (subst (λ G. Account m s G x) (sym r.0) a));
      left_by = λ x i. subst (λ G. Account m s G x) r.0 (run_caused m t (length H) s x f (inr i));
    }

-- Runs that have come to their end have handled the same and are in the same state.
pub idle_agree :
    (m : Model) (t i j : ℕ) (s : State) → Fine m s → Idle t (steps m t i s).pending → Idle t (steps m t j s).pending →
    (handled m t i s ≡ handled m t j s) × (steps m t i s ≡ steps m t j s)
unfolding handled steps
idle_agree m t zero j s f p q = (sym (handled_idle m t j s p), sym (steps_idle m t j s p))
idle_agree m t (suc i) zero s f p q = (handled_idle m t (suc i) s q, steps_idle m t (suc i) s q)
idle_agree m t (suc i) (suc j) s f p q = go (λ z g. idle_agree m t i j z g) (next t s f.ordered)
  where
    go :
        ((z : State) → Fine m z → Idle t (steps m t i z).pending → Idle t (steps m t j z).pending →
        (handled m t i z ≡ handled m t j z) × (steps m t i z ≡ steps m t j z)) →
        Next t s → (handled m t (suc i) s ≡ handled m t (suc j) s) × (steps m t (suc i) s ≡ steps m t (suc j) s)
    go ih (idle h) =
        (handled_idle m t (suc i) s h ∙ sym (handled_idle m t (suc j) s h), steps_idle m t (suc i) s h ∙ sym (steps_idle m t (suc j) s h))
    go ih (first x xs e l) =
        let r =
        ih (handling m s x xs) (fine_handling m s x xs e f) (subst (λ z. Idle t z.pending) (steps_first m t i s x xs e l) p)
        (subst (λ z. Idle t z.pending) (steps_first m t j s x xs e l) q) in (
          handled_first m t i s x xs e l ∙ ap (λ z. x ∷ z) r.0 ∙ sym (handled_first m t j s x xs e l),
          steps_first m t i s x xs e l ∙ r.1 ∙ sym (steps_first m t j s x xs e l),
        )

-- A state that a step leaves alone has nothing pending below t: a message that is handled is gone.
pub stuck_idle : (m : Model) (t : ℕ) (s : State) → Fine m s → step m t s ≡ s → Idle t s.pending
stuck_idle m t s f e = go (next t s f.ordered)
  where
    go : Next t s → Idle t s.pending
    go (idle h) = h
    go (first x xs p l) =
        let o : Ordered (x ∷ xs) = subst Ordered p f.ordered in
        let q : (handling m s x xs).pending ≡ x ∷ xs = ap (λ z. z.pending) (sym (step_first m t s x xs p l) ∙ e) ∙ p in
        absurd (not_after_itself x (handling m s x xs).pending (after_handling m s x xs o.0) (subst (Member x) (sym q) (inl refl)))

-- The start has just the messages from outside pending.
pub complete_at_start :
    (m : Model) (luck t : ℕ) (xs H : List Message) → Complete m (initial luck 0 m.numbers) xs t H →
    Complete m (start m luck xs).processes (start m luck xs).pending t H
unfolding start
complete_at_start m luck t xs H c =
    complete_same m (initial luck 0 m.numbers) xs (insert_all xs []) t H (λ x i. member_insert_all_new x xs [] i)
    (λ x i. ⊎_elim (λ j. j) (λ j. absurd j) (member_insert_all_cases x xs [] i)) c

pub complete_from_start :
    (m : Model) (luck t : ℕ) (xs H : List Message) → Complete m (start m luck xs).processes (start m luck xs).pending t H →
    Complete m (initial luck 0 m.numbers) xs t H
unfolding start
complete_from_start m luck t xs H c =
    complete_same m (initial luck 0 m.numbers) (insert_all xs []) xs t H
    (λ x i. ⊎_elim (λ j. j) (λ j. absurd j) (member_insert_all_cases x xs [] i)) (λ x i. member_insert_all_new x xs [] i) c

pub whole_run : WholeRun
unfolding start
whole_run m luck end k xs p o e =
    let s = start m luck xs in
    let f = fine_start m luck xs p o in
    let i = stuck_idle m end (steps m end k s) (fine_steps m end k s f) e in (
      handled m end k s,
      history_from_complete m (initial luck 0 m.numbers) xs end (handled m end k s)
          (complete_from_start m luck end xs (handled m end k s) (run_complete m end k s f i)),
      (λ G h.
          let c = certificate m end G s f (complete_at_start m luck end xs G (complete_from_history m (initial luck 0 m.numbers) xs end G h)) in
          sym c.handles ∙ (idle_agree m end (length G) k s f c.ends i).0),
      run_said m end k s f,
      run_processes m end k s f,
      length_handled_le m end k s,
    )
