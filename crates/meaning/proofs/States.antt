-- What holds of every state of a run: as many processes as kinds, the pending messages in strict order, each to a process that there is,
-- and from outside or counted below what its sender has sent. The last part keeps new messages apart from pending ones.
use Rattle.std.proofs.Common.{◌≡◌, ℕ, zero, suc, ◌+◌, ◌<◌, ◌≤◌, ltb, ◌⊎◌, List, [], ◌∷◌, length, get_or, sym, refl, ap, ◌∙◌, subst, inl, inr, ⊎_elim, arith}
use Rattle.std.specs.List.{AllByRecursion}
use Rattle.std.proofs.lemmas.List.{length-set, get_or-set_same, get_or-set_other}
use Rattle.std.proofs.ByRecursion.{All-weaker}
use Rattle.std.proofs.lemmas.Bool.{cond_both, cases_eq}
use Rattle.meaning.specs.declared.Message.{Message}
use Rattle.meaning.specs.Model.{Model, Process, State, nobody, handle_in, handled_in, handling, step_with, step, steps, initial, start}
use Rattle.meaning.specs.Promise.{Proper, Outside, InOrder}
use Rattle.meaning.proofs.Members.{all_by_place}
use Rattle.meaning.proofs.Order.{Apart, apart}
use Rattle.meaning.proofs.Ordered.{Ordered, Distinct, sorted_from_ordered, all_insert_all, insert_all_ordered}
use Rattle.meaning.proofs.Exec.{Counted, handle_counted, handle_sent}
use Rattle.meaning.proofs.Numbered.{Numbered, Between, numbered_between, numbered_distinct, numbered_by_place, counted_numbered, counted_later, counted_to}

-- How many messages process k among ps has sent.
abbrev pub sent_by : List Process → ℕ → ℕ
sent_by ps k = (get_or ps k nobody).sent

-- A pending message, where there are n processes, ps: to one of them, and from outside or from one that has sent it.
pub record Placed (n : ℕ) (ps : List Process) (x : Message) : Type 0 where
  pub to : x.to < n
  pub from : (x.from ≡ n) ⊎ ((x.from < n) × (x.count < sent_by ps x.from))

pub record Fine (m : Model) (s : State) : Type 0 where
  pub many : length s.processes ≡ length m.kinds
  pub ordered : Ordered s.pending
  pub placed : AllByRecursion (Placed (length m.kinds) s.processes) s.pending

-- What handling x among ps sends.
pub sends_counted : (m : Model) (ps : List Process) (x : Message) → Counted (length m.kinds) x.to x.time (sent_by ps x.to) (handle_in m ps x).sends
unfolding handle_in
sends_counted m ps x = handle_counted m (get_or ps x.to nobody) x

pub sends_later : (m : Model) (ps : List Process) (x : Message) → AllByRecursion (λ y. x.time < y.time) (handle_in m ps x).sends
sends_later m ps x =
    counted_later (length m.kinds) x.to x.time (sent_by ps x.to) (handle_in m ps x).sends (sends_counted m ps x)

pub sends_to : (m : Model) (ps : List Process) (x : Message) → AllByRecursion (λ y. y.to < length m.kinds) (handle_in m ps x).sends
sends_to m ps x =
    counted_to (length m.kinds) x.to x.time (sent_by ps x.to) (handle_in m ps x).sends (sends_counted m ps x)

pub sends_numbered : (m : Model) (ps : List Process) (x : Message) → Numbered x.to (sent_by ps x.to) (handle_in m ps x).sends
sends_numbered m ps x =
    counted_numbered (length m.kinds) x.to x.time (sent_by ps x.to) (handle_in m ps x).sends (sends_counted m ps x)

pub length_handled : (m : Model) (ps : List Process) (x : Message) → length (handled_in m ps x) ≡ length ps
unfolding handled_in
length_handled m ps x = length-set ps x.to (handle_in m ps x).process

-- The process has sent as many more as are sent now.
pub sent_by_handled :
    (m : Model) (ps : List Process) (x : Message) → x.to < length ps →
    sent_by (handled_in m ps x) x.to ≡ sent_by ps x.to + length (handle_in m ps x).sends
unfolding handled_in handle_in
sent_by_handled m ps x l =
    ap (λ p. p.sent) (get_or-set_same ps x.to (handle_in m ps x).process nobody l) ∙ handle_sent m (get_or ps x.to nobody) x

-- The other processes are as they were.
pub handled_other : (m : Model) (ps : List Process) (x : Message) (k : ℕ) → (k ≡ x.to → ⊥) → get_or (handled_in m ps x) k nobody ≡ get_or ps k nobody
unfolding handled_in
handled_other m ps x k h = get_or-set_other ps x.to k (handle_in m ps x).process nobody h

pub sent_by_grows : (m : Model) (ps : List Process) (x : Message) (k : ℕ) → x.to < length ps → sent_by ps k ≤ sent_by (handled_in m ps x) k
sent_by_grows m ps x k l =
    ⊎_elim
    (λ e. subst (λ z. sent_by ps z ≤ sent_by (handled_in m ps x) z) (sym e) (omega (arith, sent_by_handled m ps x l)))
    (λ h. omega (arith, ap (λ p. p.sent) (handled_other m ps x k h)))
    (cases_eq k x.to)

pub placed_kept : (m : Model) (n : ℕ) (ps : List Process) (x y : Message) → x.to < length ps → Placed n ps y → Placed n (handled_in m ps x) y
placed_kept m n ps x y l h =
    record { to = h.to; from = ⊎_elim (λ e. inl e) (λ k. inr (k.0, omega (arith, k.1, sent_by_grows m ps x y.from l))) h.from }

-- What is sent is placed.
pub sends_placed :
    (m : Model) (ps : List Process) (x : Message) → length ps ≡ length m.kinds → x.to < length m.kinds →
    AllByRecursion (Placed (length m.kinds) (handled_in m ps x)) (handle_in m ps x).sends
sends_placed m ps x many l =
    both (handle_in m ps x).sends (sends_to m ps x) (numbered_between x.to (sent_by ps x.to) (handle_in m ps x).sends (sends_numbered m ps x))
  where
    one :
        (y : Message) → y.to < length m.kinds →
        Between x.to (sent_by ps x.to) (sent_by ps x.to + length (handle_in m ps x).sends) y →
        Placed (length m.kinds) (handled_in m ps x) y
    one y t b =
        record {
          to = t;
          from =
              inr (
                omega (arith, b.from),
                subst (λ z. y.count < sent_by (handled_in m ps x) z) (sym b.from)
                    (omega (arith, b.high_is, sent_by_handled m ps x (omega arith))),
              );
        }

    both :
        (ys : List Message) → AllByRecursion (λ y. y.to < length m.kinds) ys →
        AllByRecursion (Between x.to (sent_by ps x.to) (sent_by ps x.to + length (handle_in m ps x).sends)) ys →
        AllByRecursion (Placed (length m.kinds) (handled_in m ps x)) ys
    both [] t b = tt
    both (y ∷ ys) t b = (one y t.0 b.0, both ys t.1 b.1)

-- What is sent is apart from what was pending.
pub sends_apart :
    (m : Model) (ps : List Process) (x : Message) (ys : List Message) → x.to < length m.kinds → AllByRecursion (Placed (length m.kinds) ps) ys →
    AllByRecursion (λ y. AllByRecursion (Apart y) ys) (handle_in m ps x).sends
sends_apart m ps x ys l h =
    All-weaker (Between x.to (sent_by ps x.to) (sent_by ps x.to + length (handle_in m ps x).sends)) (λ y. AllByRecursion (Apart y) ys)
    (λ y b. All-weaker (Placed (length m.kinds) ps) (Apart y) (λ z p. apart y z (λ e c. differ y z b e c p.from)) ys h)
    (handle_in m ps x).sends (numbered_between x.to (sent_by ps x.to) (handle_in m ps x).sends (sends_numbered m ps x))
  where
    differ :
        (y z : Message) → Between x.to (sent_by ps x.to) (sent_by ps x.to + length (handle_in m ps x).sends) y →
        y.from ≡ z.from → y.count ≡ z.count → (z.from ≡ length m.kinds) ⊎ ((z.from < length m.kinds) × (z.count < sent_by ps z.from)) → ⊥
    differ y z b e c (inl o) = omega (arith, b.from)
    differ y z b e c (inr k) =
        omega (arith, b.low_is, subst (λ w. z.count < sent_by ps w) (sym e ∙ b.from) k.1)

-- The invariant over the fields of a state whose first pending message is handled.
pub fine_handling : (m : Model) (s : State) (x : Message) (xs : List Message) → s.pending ≡ x ∷ xs → Fine m s → Fine m (handling m s x xs)
unfolding handling
fine_handling m s x xs e h =
    let o : Ordered (x ∷ xs) = subst Ordered e h.ordered in
    let p : AllByRecursion (Placed (length m.kinds) s.processes) (x ∷ xs) = subst (AllByRecursion (Placed (length m.kinds) s.processes)) e h.placed in
    let l : x.to < length s.processes = omega (arith, h.many, p.0.to) in
    record {
      many = length_handled m s.processes x ∙ h.many;
      ordered =
          insert_all_ordered (handle_in m s.processes x).sends xs o.1
          (numbered_distinct x.to (sent_by s.processes x.to) (handle_in m s.processes x).sends (sends_numbered m s.processes x))
          (sends_apart m s.processes x xs p.0.to p.1);
      placed =
          all_insert_all (Placed (length m.kinds) (handled_in m s.processes x)) (handle_in m s.processes x).sends xs
          (sends_placed m s.processes x h.many p.0.to)
          (All-weaker (Placed (length m.kinds) s.processes) (Placed (length m.kinds) (handled_in m s.processes x))
          (λ y q. placed_kept m (length m.kinds) s.processes x y l q) xs p.1);
    }

pub fine_step : (m : Model) (end : ℕ) (s : State) → Fine m s → Fine m (step m end s)
unfolding step step_with
fine_step m end s h = go s.pending refl
  where
    go : (xs : List Message) → s.pending ≡ xs → Fine m (step_with m end s xs)
    go [] e = h
    go (x ∷ xs) e = cond_both (ltb x.time end) (handling m s x xs) s (Fine m) (λ _. fine_handling m s x xs e h) (λ _. h)

pub fine_steps : (m : Model) (end k : ℕ) (s : State) → Fine m s → Fine m (steps m end k s)
unfolding steps
fine_steps m end zero s h = h
fine_steps m end (suc k) s h = fine_steps m end k (step m end s) (fine_step m end s h)

pub length_initial : (luck k : ℕ) (vs : List (List ℕ)) → length (initial luck k vs) ≡ length vs
unfolding initial
length_initial luck k [] = refl
length_initial luck k (v ∷ vs) = ap suc (length_initial luck (suc k) vs)

pub outside_distinct : (m : Model) (xs : List Message) → Outside m xs → Distinct xs
outside_distinct m xs o =
    numbered_distinct (length m.kinds) 0 xs
    (numbered_by_place (length m.kinds) 0 xs (λ k x l e. let h = o.1 k x l e in (h.1, omega (arith, h.2))))

pub outside_placed : (m : Model) (ps : List Process) (xs : List Message) → Outside m xs → AllByRecursion (Placed (length m.kinds) ps) xs
outside_placed m ps xs o =
    all_by_place (Placed (length m.kinds) ps) xs (λ k x l e. let h = o.1 k x l e in record { to = h.0; from = inl h.1 })

pub fine_start : (m : Model) (luck : ℕ) (xs : List Message) → Proper m → Outside m xs → Fine m (start m luck xs)
unfolding start
fine_start m luck xs p o =
    record {
      many = length_initial luck 0 m.numbers ∙ p.0;
      ordered =
          insert_all_ordered xs [] tt (outside_distinct m xs o)
          (All-weaker (Placed (length m.kinds) []) (λ x. AllByRecursion (Apart x) []) (λ x _. tt) xs (outside_placed m [] xs o));
      placed =
          all_insert_all (Placed (length m.kinds) (initial luck 0 m.numbers)) xs [] (outside_placed m (initial luck 0 m.numbers) xs o)
          tt;
    }

pub in_order : InOrder
in_order m luck end n xs p o =
    sorted_from_ordered (steps m end n (start m luck xs)).pending (fine_steps m end n (start m luck xs) (fine_start m luck xs p o)).ordered
