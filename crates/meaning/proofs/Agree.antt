-- Several players. A list in order falls into a part for each owner of processes, and each part can be replayed without the others.
use Rattle.std.proofs.Common.{◌≡◌, ℕ, zero, suc, ◌+◌, ◌%◌, ◌<◌, ◌≤◌, true, cond, eqb, ◌⊎◌, List, [], ◌∷◌, length, get_or, set, sym, refl, ap, ◌∙◌, subst, inl, inr, ⊎_elim, arith}
use Rattle.std.specs.List.{AllByRecursion}
use Rattle.std.proofs.lemmas.List.{get_or-set_same, set_past}
use Rattle.std.proofs.lemmas.Bool.{cond_both, eqb-true, eqb-false, cases_eq, cases_lt}
use Rattle.std.proofs.lemmas.Nat.{mod_below}
use Rattle.meaning.specs.declared.Message.{Message}
use Rattle.meaning.specs.Model.{Model, Process, State, nobody, handle, handle_in, handled_in, insert_all, before, steps, start}
use Rattle.meaning.specs.Law.{replay, sent_along}
use Rattle.meaning.specs.Agree.{Given, Plays, played, Agreement}
use Rattle.meaning.proofs.Members.{Member, has_from_member, member_from_has, member_left, member_right, member_cases, all_member, all_from_member}
use Rattle.meaning.proofs.Order.{Apart, apart_to}
use Rattle.meaning.proofs.Ordered.{Ordered, ordered_from_sorted, ordered_same, ordered_distinct, insert_all_ordered, length_insert_all, member_insert_all_old, member_insert_all_new, member_insert_all_cases}
use Rattle.meaning.proofs.Numbered.{Between, numbered_between}
use Rattle.meaning.proofs.States.{Fine, fine_steps, fine_start, sent_by, sends_numbered, length_handled, handled_other}
use Rattle.meaning.proofs.Certificate.{Account, Complete, certificate}

-- The messages of H to the processes of w, in their order, where process k is of o k.
unfoldable pub part : (ℕ → ℕ) → ℕ → List Message → List Message
part o w [] = []
part o w (x ∷ H) = cond (eqb (o x.to) w) (x ∷ part o w H) (part o w H)

pub part_cases :
    (o : ℕ → ℕ) (w : ℕ) (x : Message) (H : List Message) (P : List Message → Type 0) → (o x.to ≡ w → P (x ∷ part o w H)) →
    ((o x.to ≡ w → ⊥) → P (part o w H)) → P (part o w (x ∷ H))
unfolding part
part_cases o w x H P f g =
    cond_both (eqb (o x.to) w) (x ∷ part o w H) (part o w H) P (λ e. f (eqb-true (o x.to) w e)) (λ e. g (eqb-false (o x.to) w e))

pub part_all : (o : ℕ → ℕ) (w : ℕ) (P : Message → Type 0) (H : List Message) → AllByRecursion P H → AllByRecursion P (part o w H)
unfolding part
part_all o w P [] h = tt
part_all o w P (x ∷ H) h = part_cases o w x H (AllByRecursion P) (λ _. (h.0, part_all o w P H h.1)) (λ _. part_all o w P H h.1)

pub part_ordered : (o : ℕ → ℕ) (w : ℕ) (H : List Message) → Ordered H → Ordered (part o w H)
unfolding part
part_ordered o w [] h = tt
part_ordered o w (x ∷ H) h =
    part_cases o w x H Ordered (λ _. (part_all o w (λ y. before x y ≡ true) H h.0, part_ordered o w H h.1)) (λ _. part_ordered o w H h.1)

pub member_part : (o : ℕ → ℕ) (w : ℕ) (z : Message) (H : List Message) → Member z H → o z.to ≡ w → Member z (part o w H)
unfolding part
member_part o w z [] i e = absurd i
member_part o w z (x ∷ H) (inl q) e = part_cases o w x H (Member z) (λ _. inl q) (λ n. absurd (n (ap (λ y. o y.to) q ∙ e)))
member_part o w z (x ∷ H) (inr i) e =
    part_cases o w x H (Member z) (λ _. inr (member_part o w z H i e)) (λ _. member_part o w z H i e)

pub part_member : (o : ℕ → ℕ) (w : ℕ) (z : Message) (H : List Message) → Member z (part o w H) → Member z H × (o z.to ≡ w)
unfolding part
part_member o w z [] i = absurd i
part_member o w z (x ∷ H) i =
    part_cases o w x H (λ G. Member z G → Member z (x ∷ H) × (o z.to ≡ w))
    (λ e k.
    ⊎_elim (λ q. (inl q, ap (λ y. o y.to) (sym q) ∙ e)) (λ j. let r = part_member o w z H j in (inr r.0, r.1)) k)
    (λ _ j. let r = part_member o w z H j in (inr r.0, r.1)) i

-- ps and qs are the same at the processes of w.
pub record Agrees (o : ℕ → ℕ) (w : ℕ) (ps qs : List Process) : Type 0 where
  pub many : length ps ≡ length qs
  pub own : (k : ℕ) → o k ≡ w → get_or ps k nobody ≡ get_or qs k nobody

pub agrees_refl : (o : ℕ → ℕ) (w : ℕ) (ps : List Process) → Agrees o w ps ps
agrees_refl o w ps = record { many = refl; own = λ k e. refl }

-- A message to a process of w is handled alike in both.
pub agrees_handle :
    (m : Model) (o : ℕ → ℕ) (w : ℕ) (ps qs : List Process) (x : Message) → o x.to ≡ w → Agrees o w ps qs → handle_in m ps x ≡ handle_in m qs x
unfolding handle_in
agrees_handle m o w ps qs x e a = ap (λ p. handle m p x) (a.own x.to e)

-- What two lists have at a place after the same is put in there.
same_set :
    (ps qs : List Process) (k : ℕ) (p : Process) → length ps ≡ length qs → get_or ps k nobody ≡ get_or qs k nobody →
    get_or (set ps k p) k nobody ≡ get_or (set qs k p) k nobody
same_set ps qs k p l e =
    ⊎_elim (λ h. get_or-set_same ps k p nobody h ∙ sym (get_or-set_same qs k p nobody (omega arith)))
    (λ h.
    ap (λ z. get_or z k nobody) (set_past ps k p h) ∙ e ∙ ap (λ z. get_or z k nobody) (sym (set_past qs k p (omega arith))))
    (cases_lt k (length ps))

agrees_here :
    (m : Model) (o : ℕ → ℕ) (w : ℕ) (ps qs : List Process) (x : Message) → o x.to ≡ w → Agrees o w ps qs →
    get_or (handled_in m ps x) x.to nobody ≡ get_or (handled_in m qs x) x.to nobody
unfolding handled_in
agrees_here m o w ps qs x e a =
    same_set ps qs x.to (handle_in m ps x).process a.many (a.own x.to e)
    ∙ ap (λ d. get_or (set qs x.to d.process) x.to nobody) (agrees_handle m o w ps qs x e a)

pub agrees_own :
    (m : Model) (o : ℕ → ℕ) (w : ℕ) (ps qs : List Process) (x : Message) → o x.to ≡ w → Agrees o w ps qs →
    Agrees o w (handled_in m ps x) (handled_in m qs x)
agrees_own m o w ps qs x e a =
    record {
      many = length_handled m ps x ∙ a.many ∙ sym (length_handled m qs x);
      own =
          λ k d.
          ⊎_elim (λ q. subst (λ z. get_or (handled_in m ps x) z nobody ≡ get_or (handled_in m qs x) z nobody) (sym q) (agrees_here m o w ps qs x e a))
          (λ q. handled_other m ps x k q ∙ a.own k d ∙ sym (handled_other m qs x k q)) (cases_eq k x.to);
    }

pub agrees_other :
    (m : Model) (o : ℕ → ℕ) (w : ℕ) (ps qs : List Process) (x : Message) → (o x.to ≡ w → ⊥) → Agrees o w ps qs → Agrees o w (handled_in m ps x) qs
agrees_other m o w ps qs x n a =
    record {
      many = length_handled m ps x ∙ a.many;
      own = λ k e. handled_other m ps x k (λ q. n (ap o (sym q) ∙ e)) ∙ a.own k e;
    }

-- The processes of w after a list are those after w's part of it.
pub replay_part :
    (m : Model) (o : ℕ → ℕ) (w : ℕ) (ps qs : List Process) (H : List Message) → Agrees o w ps qs → Agrees o w (replay m ps H) (replay m qs (part o w H))
unfolding replay part
replay_part m o w ps qs [] a = a
replay_part m o w ps qs (x ∷ H) a =
    part_cases o w x H (λ G. Agrees o w (replay m (handled_in m ps x) H) (replay m qs G))
    (λ e. replay_part m o w (handled_in m ps x) (handled_in m qs x) H (agrees_own m o w ps qs x e a))
    (λ n. replay_part m o w (handled_in m ps x) qs H (agrees_other m o w ps qs x n a))

-- What is sent is from the process that handles.
pub sends_from : (m : Model) (ps : List Process) (x y : Message) → Member y (handle_in m ps x).sends → y.from ≡ x.to
sends_from m ps x y i =
    (all_member (Between x.to (sent_by ps x.to) (sent_by ps x.to + length (handle_in m ps x).sends)) y (handle_in m ps x).sends
    (numbered_between x.to (sent_by ps x.to) (handle_in m ps x).sends (sends_numbered m ps x)) i
    ).from

-- What the processes of w send along a list is sent along w's part of it.
pub sent_part :
    (m : Model) (o : ℕ → ℕ) (w : ℕ) (ps qs : List Process) (H : List Message) (y : Message) → Agrees o w ps qs → o y.from ≡ w →
    Member y (sent_along m ps H) → Member y (sent_along m qs (part o w H))
unfolding sent_along part
sent_part m o w ps qs [] y a f i = absurd i
sent_part m o w ps qs (x ∷ H) y a f i =
    part_cases o w x H (λ G. Member y (sent_along m qs G))
    (λ e.
    ⊎_elim (λ j. member_left y (handle_in m qs x).sends along (subst (λ d. Member y d.sends) (agrees_handle m o w ps qs x e a) j))
    (λ j. member_right y (handle_in m qs x).sends along
    (sent_part m o w (handled_in m ps x) (handled_in m qs x) H y (agrees_own m o w ps qs x e a) f j))
    cases)
    (λ n.
    ⊎_elim (λ j. absurd (n (ap o (sym (sends_from m ps x y j)) ∙ f)))
    (λ j. sent_part m o w (handled_in m ps x) qs H y (agrees_other m o w ps qs x n a) f j) cases)
  where
    along : List Message
    along = sent_along m (handled_in m qs x) (part o w H)

    cases : Member y (handle_in m ps x).sends ⊎ Member y (sent_along m (handled_in m ps x) H)
    cases = member_cases y (handle_in m ps x).sends (sent_along m (handled_in m ps x) H) i

-- And what is sent along a part is sent along the list.
pub part_sent :
    (m : Model) (o : ℕ → ℕ) (w : ℕ) (ps qs : List Process) (H : List Message) (y : Message) → Agrees o w ps qs →
    Member y (sent_along m qs (part o w H)) → Member y (sent_along m ps H)
unfolding sent_along part
part_sent m o w ps qs [] y a i = absurd i
part_sent m o w ps qs (x ∷ H) y a i =
    part_cases o w x H (λ G. Member y (sent_along m qs G) → Member y (sent_along m ps (x ∷ H)))
    (λ e k.
    ⊎_elim (λ j. member_left y (handle_in m ps x).sends rest (subst (λ d. Member y d.sends) (sym (agrees_handle m o w ps qs x e a)) j))
    (λ j. member_right y (handle_in m ps x).sends rest
    (part_sent m o w (handled_in m ps x) (handled_in m qs x) H y (agrees_own m o w ps qs x e a) j))
    (member_cases y (handle_in m qs x).sends (sent_along m (handled_in m qs x) (part o w H)) k))
    (λ n k.
    member_right y (handle_in m ps x).sends rest (part_sent m o w (handled_in m ps x) qs H y (agrees_other m o w ps qs x n a) k))
    i
  where
    rest : List Message
    rest = sent_along m (handled_in m ps x) H

-- The first n of the lists in one, in their order.
unfoldable pub merge : (ℕ → List Message) → ℕ → List Message
merge hs zero = []
merge hs (suc n) = insert_all (hs n) (merge hs n)

pub length_merge : (hs : ℕ → List Message) (n : ℕ) → length (merge hs n) ≡ played hs n
unfolding merge played
length_merge hs zero = refl
length_merge hs (suc n) = length_insert_all (hs n) (merge hs n) ∙ ap (λ k. length (hs n) + k) (length_merge hs n)

pub member_merge : (hs : ℕ → List Message) (n w : ℕ) (x : Message) → w < n → Member x (hs w) → Member x (merge hs n)
unfolding merge
member_merge hs zero w x l i = absurd (omega arith)
member_merge hs (suc n) w x l i =
    ⊎_elim (λ e. member_insert_all_new x (hs n) (merge hs n) (subst (λ k. Member x (hs k)) e i))
    (λ e. member_insert_all_old x (hs n) (merge hs n) (member_merge hs n w x (omega arith) i)) (cases_eq w n)

pub merge_member : (hs : ℕ → List Message) (n : ℕ) (x : Message) → Member x (merge hs n) → (w : ℕ) × (w < n) × Member x (hs w)
unfolding merge
merge_member hs zero x i = absurd i
merge_member hs (suc n) x i =
    ⊎_elim (λ j. (n, omega arith, j)) (λ j. let r = merge_member hs n x j in (r.0, omega (arith, r.1), r.2))
    (member_insert_all_cases x (hs n) (merge hs n) i)

-- Each of the first n lists is in order and holds only messages to its own processes.
pub record Shared (o : ℕ → ℕ) (hs : ℕ → List Message) (n : ℕ) : Type 0 where
  pub ordered : (w : ℕ) → w < n → Ordered (hs w)
  pub own : (w : ℕ) (x : Message) → w < n → Member x (hs w) → o x.to ≡ w

pub merge_ordered : (o : ℕ → ℕ) (hs : ℕ → List Message) (n : ℕ) → Shared o hs n → Ordered (merge hs n)
unfolding merge
merge_ordered o hs zero h = tt
merge_ordered o hs (suc n) h =
    insert_all_ordered (hs n) (merge hs n)
    (merge_ordered o hs n (record { ordered = λ w l. h.ordered w (omega arith); own = λ w x l i. h.own w x (omega arith) i }))
    (ordered_distinct (hs n) (h.ordered n (omega arith)))
    (all_from_member (λ x. AllByRecursion (Apart x) (merge hs n)) (hs n)
    (λ x i. all_from_member (Apart x) (merge hs n) (λ y j. apart_to x y (λ e. differ x y i e (merge_member hs n y j)))))
  where
    differ : (x y : Message) → Member x (hs n) → x.to ≡ y.to → (w : ℕ) × (w < n) × Member y (hs w) → ⊥
    differ x y i e r = omega (arith, ap o e, h.own n x (omega arith) i, h.own r.0 y (omega (arith, r.1)) r.2, r.1)

-- The part of each in the merge is its own list.
pub part_merge : (o : ℕ → ℕ) (hs : ℕ → List Message) (n w : ℕ) → Shared o hs n → w < n → part o w (merge hs n) ≡ hs w
part_merge o hs n w h l =
    ordered_same (part o w (merge hs n)) (hs w) (part_ordered o w (merge hs n) (merge_ordered o hs n h)) (h.ordered w l)
    (λ x i. let r = part_member o w x (merge hs n) i in mine x r.1 (merge_member hs n x r.0))
    (λ x i. member_part o w x (merge hs n) (member_merge hs n w x l i) (h.own w x l i))
  where
    mine : (x : Message) → o x.to ≡ w → (u : ℕ) × (u < n) × Member x (hs u) → Member x (hs w)
    mine x e r = subst (λ k. Member x (hs k)) (sym (h.own r.0 x r.1 r.2) ∙ e) r.2

-- Each process after the merge is as it is after its owner's list, from processes where the owner's own are the same.
pub replay_merge :
    (m : Model) (o : ℕ → ℕ) (ps qs : List Process) (hs : ℕ → List Message) (n k : ℕ) → Agrees o (o k) ps qs → Shared o hs n → o k < n →
    get_or (replay m ps (merge hs n)) k nobody ≡ get_or (replay m qs (hs (o k))) k nobody
replay_merge m o ps qs hs n k a h l =
    (replay_part m o (o k) ps qs (merge hs n) a).own k refl ∙ ap (λ G. get_or (replay m qs G) k nobody) (part_merge o hs n (o k) h l)

-- What is sent along the merge is what is sent along one of the lists, that of its sender's owner.
pub sent_merge :
    (m : Model) (o : ℕ → ℕ) (ps qs : List Process) (hs : ℕ → List Message) (n : ℕ) (y : Message) → Agrees o (o y.from) ps qs → Shared o hs n →
    o y.from < n → Member y (sent_along m ps (merge hs n)) → Member y (sent_along m qs (hs (o y.from)))
sent_merge m o ps qs hs n y a h l i =
    subst (λ G. Member y (sent_along m qs G)) (part_merge o hs n (o y.from) h l) (sent_part m o (o y.from) ps qs (merge hs n) y a refl i)

pub merge_sent :
    (m : Model) (o : ℕ → ℕ) (ps qs : List Process) (hs : ℕ → List Message) (n u : ℕ) (y : Message) → Agrees o u ps qs → Shared o hs n → u < n →
    Member y (sent_along m qs (hs u)) → Member y (sent_along m ps (merge hs n))
merge_sent m o ps qs hs n u y a h l i =
    part_sent m o u ps qs (merge hs n) y a (subst (λ G. Member y (sent_along m qs G)) (sym (part_merge o hs n u h l)) i)

-- x waits, or one of n players sends it.
abbrev pub Offered : Model → ℕ → State → (ℕ → List Message) → Message → Type 0
Offered m n s hs x = Member x s.pending ⊎ ((u : ℕ) × (u < n) × Member x (sent_along m s.processes (hs u)))

-- n players, of whom o k owns process k, have played the histories hs up to the time t.
pub record Played (m : Model) (o : ℕ → ℕ) (n t : ℕ) (s : State) (hs : ℕ → List Message) : Type 0 where
  pub shared : Shared o hs n
  pub timely : (w : ℕ) (x : Message) → w < n → Member x (hs w) → x.time < t
  pub given : (w : ℕ) (x : Message) → w < n → Member x (hs w) → Offered m n s hs x
  pub takes : (x : Message) → Offered m n s hs x → x.time < t → Member x (hs (o x.to))

pub account_offered :
    (m : Model) (o : ℕ → ℕ) (n : ℕ) (s : State) (hs : ℕ → List Message) (x : Message) → ((k : ℕ) → o k < n) → Shared o hs n →
    Account m s (merge hs n) x → Offered m n s hs x
account_offered m o n s hs x b h i =
    ⊎_elim (λ j. inl j)
    (λ j.
    inr (
      o x.from,
      b x.from,
      sent_merge m o s.processes s.processes hs n x (agrees_refl o (o x.from) s.processes) h (b x.from) j,
    ))
    (member_cases x s.pending (sent_along m s.processes (merge hs n)) i)

pub offered_account :
    (m : Model) (o : ℕ → ℕ) (n : ℕ) (s : State) (hs : ℕ → List Message) (x : Message) → Shared o hs n → Offered m n s hs x →
    Account m s (merge hs n) x
offered_account m o n s hs x h i =
    ⊎_elim (λ j. member_left x s.pending (sent_along m s.processes (merge hs n)) j)
    (λ r.
    member_right x s.pending (sent_along m s.processes (merge hs n))
    (merge_sent m o s.processes s.processes hs n r.0 x (agrees_refl o r.0 s.processes) h r.1 r.2))
    i

pub played_complete :
    (m : Model) (o : ℕ → ℕ) (n t : ℕ) (s : State) (hs : ℕ → List Message) → ((k : ℕ) → o k < n) → Played m o n t s hs →
    Complete m s.processes s.pending t (merge hs n)
played_complete m o n t s hs b h =
    record {
      ordered = merge_ordered o hs n h.shared;
      timely =
          all_from_member (λ x. x.time < t) (merge hs n) (λ x i. let r = merge_member hs n x i in h.timely r.0 x r.1 r.2);
      closed =
          λ x i l.
          member_merge hs n (o x.to) x (b x.to) (h.takes x (account_offered m o n s hs x b h.shared i) l);
      caused =
          λ x i.
          let r = merge_member hs n x i in offered_account m o n s hs x h.shared (h.given r.0 x r.1 r.2);
    }

-- What the run has done after as many steps as the players have played messages.
pub record Together (m : Model) (o : ℕ → ℕ) (n t : ℕ) (s : State) (hs : ℕ → List Message) (e : State) : Type 0 where
  pub ends : (x : Message) → Member x e.pending → t ≤ x.time
  pub processes : (k : ℕ) → get_or e.processes k nobody ≡ get_or (replay m s.processes (hs (o k))) k nobody
  pub leaves : (x : Message) → t ≤ x.time → Offered m n s hs x → Member x e.pending
  pub left_by : (x : Message) → Member x e.pending → Offered m n s hs x

pub together :
    (m : Model) (o : ℕ → ℕ) (n t : ℕ) (s : State) (hs : ℕ → List Message) → ((k : ℕ) → o k < n) → Fine m s → Played m o n t s hs →
    Together m o n t s hs (steps m t (played hs n) s)
together m o n t s hs b f h =
    let c = certificate m t (merge hs n) s f (played_complete m o n t s hs b h) in
    subst (λ k. Together m o n t s hs (steps m t k s)) (length_merge hs n)
    (record {
      ends = λ x i. all_member (λ y. t ≤ y.time) x (steps m t (length (merge hs n)) s).pending c.ends i;
      processes =
          λ k.
          ap (λ ps. get_or ps k nobody) c.processes
          ∙ replay_merge m o s.processes s.processes hs n k (agrees_refl o (o k) s.processes) h.shared (b k);
      leaves = λ x l i. c.leaves x (offered_account m o n s hs x h.shared i) l;
      left_by = λ x i. account_offered m o n s hs x b h.shared (c.left_by x i);
    })

-- The same with `Has`.
given_offered : (m : Model) (n : ℕ) (s : State) (hs : ℕ → List Message) (x : Message) → Given m n s.processes s.pending hs x → Offered m n s hs x
given_offered m n s hs x (inl i) = inl (member_from_has x s.pending i)
given_offered m n s hs x (inr r) = inr (r.0, r.1, member_from_has x (sent_along m s.processes (hs r.0)) r.2)

offered_given : (m : Model) (n : ℕ) (s : State) (hs : ℕ → List Message) (x : Message) → Offered m n s hs x → Given m n s.processes s.pending hs x
offered_given m n s hs x (inl i) = inl (has_from_member x s.pending i)
offered_given m n s hs x (inr r) = inr (r.0, r.1, has_from_member x (sent_along m s.processes (hs r.0)) r.2)

played_from_plays :
    (m : Model) (n t : ℕ) (s : State) (hs : ℕ → List Message) → 1 ≤ n → ((w : ℕ) → w < n → Plays m n s.processes s.pending t hs w) →
    Played m (λ k. k % n) n t s hs
played_from_plays m n t s hs b h =
    record {
      shared =
          record {
            ordered = λ w l. ordered_from_sorted (hs w) (h w l).sorted;
            own = λ w x l i. ((h w l).own x (has_from_member x (hs w) i)).0;
          };
      timely = λ w x l i. ((h w l).own x (has_from_member x (hs w) i)).1;
      given = λ w x l i. given_offered m n s hs x ((h w l).given x (has_from_member x (hs w) i));
      takes =
          λ x i l.
          member_from_has x (hs (x.to % n)) ((h (x.to % n) (mod_below x.to n b)).takes x (offered_given m n s hs x i) l refl);
    }

pub agreement : Agreement
agreement m luck end j t n xs hs p o b h =
    let s = steps m end j (start m luck xs) in
    let e = steps m t (played hs n) s in
    let r =
    together m (λ k. k % n) n t s hs (λ k. mod_below k n b) (fine_steps m end j (start m luck xs) (fine_start m luck xs p o))
    (played_from_plays m n t s hs b h) in (
      λ x i. r.ends x (member_from_has x e.pending i),
      λ k. r.processes k,
      λ x l i. has_from_member x e.pending (r.leaves x l (given_offered m n s hs x i)),
      λ x i. offered_given m n s hs x (r.left_by x (member_from_has x e.pending i)),
    )
