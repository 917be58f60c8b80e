-- A worker with places enough comes to an end: each piece of work handles a message or tells a line, or it is done.
use Rattle.std.proofs.Common.{◌≡◌, ℕ, zero, suc, ◌+◌, ◌-◌, ◌/◌, ◌%◌, ◌<◌, ◌≤◌, min, true, eqb, ltb, leb, ◌⊎◌, List, [], ◌∷◌, ◌++◌, length, get_or, Some, None, Option, sym, refl, ap, ◌∙◌, subst, inl, inr, ⊎_elim, arith}
use Rattle.std.proofs.lemmas.List.{length-append, length-take}
use Rattle.std.proofs.lemmas.Bool.{cond_both, cond-true, cond-false, le-ltb, ltb-true, leb-false, cases_Bool, cases_lt}
use Rattle.meaning.specs.declared.Message.{Message}
use Rattle.meaning.specs.declared.Line.{Line}
use Rattle.meaning.specs.Model.{Model, State, Process, nobody, handle_in, handling, step, step_with, steps, iterate}
use Rattle.meaning.specs.Promise.{said_before}
use Rattle.meaning.proofs.Exec.{handle_sent}
use Rattle.meaning.proofs.Ordered.{length_insert_all}
use Rattle.meaning.proofs.Runs.{Next, idle, first, next, step_idle, step_first, steps_add}
use Rattle.meaning.proofs.States.{Fine, fine_steps, sent_by}
use Rattle.sequential.specs.declared.Outcome.{Outcome}
use Rattle.sequential.specs.declared.Outcome.TheVariants.{Ended, Paused, Waiting, Lines, Count, Short}
use Rattle.sequential.specs.Memory.{refuses, stops_at, stops}
use Rattle.body.specs.Play.{top}
use Rattle.text.specs.Named.{digits_upto}
use Rattle.text.specs.Printed.{printed_line, fitting}
use Rattle.worker.specs.Worker.{Job, Worker, piece_bytes, handle_by, handles, tells, work}
use Rattle.worker.proofs.Kept.{kept_work}
use Rattle.worker.proofs.Few.{Few, few_start, few_handling}
use Rattle.worker.proofs.Played.{meant, Over, Sound, one_more, ahead, ahead_changes, Played, Went, finished, handled, talks, refused, went, played_tells, same_processes, same_pending}

-- A line takes at most 63 bytes, so that one has room in a piece.
digits_le : (k n : ℕ) → length (digits_upto k n) ≤ k
unfolding digits_upto
digits_le zero n = omega arith
digits_le (suc k) n =
    cond_both (ltb n 10) ((48 + n) ∷ []) (digits_upto k (n / 10) ++ (48 + n % 10) ∷ []) (λ d. length d ≤ suc k) (λ _. omega arith)
    (λ _. omega (arith, digits_le k (n / 10), length-append (digits_upto k (n / 10)) ((48 + n % 10) ∷ [])))

line_le : (l : Line) → length (printed_line l) ≤ 63
line_le l =
    simp length-append (omega (arith, digits_le 20 l.time, digits_le 20 l.process, digits_le 20 l.number))

fitting_some : (ls : List Line) → 0 < length ls → 0 < fitting piece_bytes ls
unfolding fitting
fitting_some [] h = absurd (omega arith)
fitting_some (l ∷ ls) h =
    cond_both (leb (length (printed_line l)) piece_bytes) (suc (fitting (piece_bytes - length (printed_line l)) ls)) 0 (λ n. 0 < n)
    (λ _. omega arith) (λ e. absurd (omega (arith, line_le l, leb-false _ _ e)))

-- What is said only grows.
said_step : (m : Model) (end : ℕ) (s : State) → length s.said ≤ length (step m end s).said
unfolding step step_with handling
said_step m end s = go s.pending
  where
    go : (xs : List Message) → length s.said ≤ length (step_with m end s xs).said
    go [] = omega arith
    go (x ∷ xs) =
        cond_both (ltb x.time end) (handling m s x xs) s (λ z. length s.said ≤ length z.said)
        (λ _. omega (arith, length-append s.said (handle_in m s.processes x).says)) (λ _. omega arith)

said_steps : (m : Model) (end d : ℕ) (s : State) → length s.said ≤ length (steps m end d s).said
unfolding steps
said_steps m end zero s = omega arith
said_steps m end (suc d) s = omega (arith, said_step m end s, said_steps m end d (step m end s))

said_grows : (j : Job) (c k : ℕ) → c ≤ k → length (meant j c).said ≤ length (meant j k).said
said_grows j c k l =
    let e : k ≡ c + (k - c) = omega arith in
    subst (λ i. length (meant j c).said ≤ length (meant j i).said) (sym e)
    (subst (λ s. length (meant j c).said ≤ length s.said) (sym (steps_add j.model j.end c (k - c) _))
    (said_steps j.model j.end (k - c) (meant j c)))

sent_after : (m : Model) (ps : List Process) (x : Message) → (handle_in m ps x).process.sent ≡ sent_by ps x.to + length (handle_in m ps x).sends
unfolding handle_in
sent_after m ps x = handle_sent m (get_or ps x.to nobody) x

-- The meaning is over after k messages, and there are places for all that is pending and all that is said at one message.
pub record Roomy (j : Job) (k : ℕ) : Type 0 where
  pub sound : Sound j
  pub few_places : j.places ≤ 65536
  pub some_time : 0 < j.end
  pub bounded_time : j.end < 4294967296
  pub few_outside : length j.outside ≤ j.places
  pub few_pending : (i : ℕ) → i ≤ k → length (meant j i).pending ≤ j.places
  pub few_lines : (i : ℕ) → i < k → length (meant j (suc i)).said ≤ length (meant j i).said + j.places
  pub over : Over j k

module _ (j : Job) (k : ℕ) (r : Roomy j k) where
  fine_at : (c : ℕ) → Fine j.model (meant j c)
  fine_at c = fine_steps j.model j.end c _ r.sound

  -- While it is not over, k messages have not been handled.
  not_past : (c : ℕ) → ((i : ℕ) → i < c → Over j i → ⊥) → c ≤ k
  not_past c live = ⊎_elim (λ l. absurd (live k l r.over)) (λ l. l) (cases_lt k c)

  below : (c : ℕ) → ((i : ℕ) → i < c → Over j i → ⊥) → (Over j c → ⊥) → c < k
  below c live h = ⊎_elim (λ l. l) (λ l. absurd (h (subst (Over j) (omega (arith, not_past c live)) r.over))) (cases_lt c k)

  few_meant : (c : ℕ) → ((i : ℕ) → i < c → Over j i → ⊥) → Few j.end c (meant j c)
  unfolding steps
  few_meant zero live = few_start j.model j.luck j.end j.outside r.some_time (omega (arith, r.few_outside, r.few_places))
  few_meant (suc c) live =
      go (few_meant c (λ i l. live i (omega arith))) (next j.end (meant j c) (fine_at c).ordered)
    where
      go : Few j.end c (meant j c) → Next j.end (meant j c) → Few j.end (suc c) (meant j (suc c))
      go h (idle i) = absurd (live c (omega arith) (step_idle j.model j.end (meant j c) i))
      go h (first x xs e l) =
          subst (Few j.end (suc c)) (sym (one_more j c ∙ step_first j.model j.end (meant j c) x xs e l))
          (few_handling j.model j.end c (meant j c) x xs (fine_at c) e l
          (omega (arith, r.few_places, r.few_pending c (omega (arith, not_past (suc c) live)))) h)

  -- The next message is not refused.
  taken : (c : ℕ) (x : Message) (xs : List Message) → ((i : ℕ) → i < c → Over j i → ⊥) → (meant j c).pending ≡ x ∷ xs → x.time < j.end →
      refuses (handle_in j.model (meant j c).processes x) (length xs) j.places j.places 0 ≡ None
  unfolding handling
  taken c x xs live e l =
      let m = j.model in
      let s = meant j c in
      let d = handle_in m s.processes x in
      let n : c < k = below c live (ahead_changes m j.end s (fine_at c) (ahead x xs e l)) in
      let q : meant j (suc c) ≡ handling m s x xs = one_more j c ∙ step_first m j.end s x xs e l in
      let a : length xs + length d.sends ≤ j.places =
      omega (arith, r.few_pending (suc c) n, ap (λ z. length z.pending) q, length_insert_all d.sends xs) in
      let b : length d.says ≤ j.places =
      omega (arith, r.few_lines c n, ap (λ z. length z.said) q, length-append s.said d.says) in
      let f = few_meant c live in
      let t : d.process.sent ≤ top =
      omega (arith, sent_after m s.processes x, f.sent x.to, f.few, f.in_time, r.bounded_time, r.few_places, a, ap (λ z. length z) e) in
      cond-false (ltb j.places (length xs + length d.sends)) _ _ (le-ltb _ _ a)
      ∙ cond-false (ltb j.places (0 + length d.says)) _ _ (le-ltb j.places (0 + length d.says) (omega arith))
      ∙ cond-false (ltb top d.process.sent) _ _ (le-ltb _ _ t)

  -- So a run stops only where it is over.
  only_ended : (c : ℕ) (s : State) → ((i : ℕ) → i < c → Over j i → ⊥) →
      s.processes ≡ (meant j c).processes → s.pending ≡ (meant j c).pending → s.said ≡ [] →
      (o : Outcome) → stops j.model j.end j.places j.places s ≡ Some o → o ≡ Ended
  unfolding stops_at
  only_ended c s live p q n o = go s.pending refl
    where
      go : (xs : List Message) → s.pending ≡ xs → stops_at j.model j.end j.places j.places s xs ≡ Some o → o ≡ Ended
      go [] e h = cc
      go (x ∷ xs) e h =
          let d = handle_in j.model s.processes x in
          let y = refuses d (length xs) j.places j.places (length s.said) in
          ⊎_elim
          (λ t.
          let a : y ≡ None =
          ap (λ z. refuses d (length xs) j.places j.places (length z)) n
          ∙ ap (λ z. refuses (handle_in j.model z x) (length xs) j.places j.places 0) p
          ∙ taken c x xs live (sym q ∙ e) (ltb-true x.time j.end t) in
          let b : ◌≡◌ {A = Option Outcome} None (Some o) = sym a ∙ sym (cond-true (ltb x.time j.end) y (Some Ended) t) ∙ h in
          let z : ◌≡◌ {A = ℕ} 0 1 = cc in absurd (omega arith))
          (λ t. let b : Some Ended ≡ Some o = sym (cond-false (ltb x.time j.end) y (Some Ended) t) ∙ h in cc)
          (cases_Bool (ltb x.time j.end))

-- A piece of work that handles a message or tells a line, or after which all is done.
pub record Moved (w : Worker) (c : ℕ) (v : Worker) : Type 0 where
  pub count : ℕ
  pub played : Played v count
  pub moves : (v.done ≡ true) ⊎ (c + length w.told < count + length v.told)

told_tells : (w : Worker) → length (tells w).told ≡ length w.told + min (fitting piece_bytes w.state.said) (length w.state.said)
unfolding tells
told_tells w = simp (length-append, length-take)

done_tells : (w : Worker) → (tells w).done ≡ w.done
unfolding tells
done_tells w = refl

moved_went : (w : Worker) (c k : ℕ) (v : Worker) → Roomy w.job k → Played w c → Went w c v → Moved w c (tells v)
moved_went w c k v r p (finished q d) = record { count = c; played = played_tells v c q; moves = inl (done_tells v ∙ d) }
moved_went w c k v r p (handled q t) =
    record { count = suc c; played = played_tells v (suc c) q; moves = inr (omega (arith, told_tells v, ap (λ z. length z) t)) }
moved_went w c k v r p (talks q l) =
    subst (λ z. Moved w c (tells z)) (sym q)
    (record { count = c; played = played_tells w c p; moves = inr (omega (arith, told_tells w, fitting_some w.state.said l)) })
moved_went w c k v r p (refused q n o s h) =
    absurd (h (only_ended w.job k r c w.state p.live (same_processes w c r.sound p) (same_pending w c r.sound p) n o s))

moved_work : (w : Worker) (c k : ℕ) → w.ready ≡ true → Roomy w.job k → Played w c → Moved w c (work w)
unfolding work
moved_work w c k e r p =
    subst (Moved w c) (sym (cond-true w.ready (tells (handles w)) w e)) (moved_went w c k (handles w) r p (went w c r.sound p))

-- Once done, it stays so.
done_handle : (o : Option Outcome) (w : Worker) → w.done ≡ true → (handle_by o w).done ≡ true
unfolding handle_by
done_handle None w d = d
done_handle (Some Ended) w d = refl
done_handle (Some Paused) w d = d
done_handle (Some Waiting) w d = d
done_handle (Some Lines) w d = d
done_handle (Some Count) w d = d
done_handle (Some Short) w d = d

done_work : (w : Worker) → w.done ≡ true → (work w).done ≡ true
unfolding work handles
done_work w d =
    cond_both w.ready (tells (handles w)) w (λ v. v.done ≡ true)
    (λ _. done_tells (handles w) ∙ cond_both (eqb (length w.state.said) 0) _ w (λ v. v.done ≡ true) (λ _. done_handle _ w d) (λ _. d)) (λ _. d)

done_iterate : (n : ℕ) (w : Worker) → w.done ≡ true → (iterate n work w).done ≡ true
unfolding iterate
done_iterate zero w d = d
done_iterate (suc n) w d = done_iterate n (work w) (done_work w d)

-- No more is told than the meaning says.
told_le : (w : Worker) (c : ℕ) → Played w c → length w.told ≤ length (meant w.job c).said
unfolding said_before
told_le w c p = omega (arith, ap (λ s. length s.said) p.state_is, length-append w.told w.state.said)

-- n pieces of work are enough, if there are fewer messages and lines left.
pub ends_in : (n : ℕ) (w : Worker) (c k : ℕ) → w.ready ≡ true → Roomy w.job k → Played w c →
    k + length (meant w.job k).said < n + (c + length w.told) → (iterate n work w).done ≡ true
unfolding iterate
ends_in zero w c k e r p l =
    let b = not_past w.job k r c p.live in
    absurd (omega (arith, told_le w c p, said_grows w.job c k b, b))
ends_in (suc n) w c k e r p l =
    let h = moved_work w c k e r p in
    let q = kept_work w in
    ⊎_elim (λ d. done_iterate n (work w) d)
    (λ g.
    ends_in n (work w) h.count k (q.ready ∙ e) (subst (λ j. Roomy j k) (sym q.job) r) h.played
    (omega (arith, ap (λ j. length (meant j k).said) q.job, g, l)))
    h.moves
