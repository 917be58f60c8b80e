-- How many messages are handled: no more than 65,536 for each time, where no more are ever pending; so no process counts up to 2^64.
use Rattle.std.proofs.Common.{◌≡◌, ℕ, zero, suc, ◌+◌, ◌*◌, ◌<◌, ◌≤◌, cond, leb, List, [], ◌∷◌, length, sym, refl, ap, subst, ⊎_elim, arith}
use Rattle.std.specs.List.{AllByRecursion}
use Rattle.std.proofs.ByRecursion.{All-weaker}
use Rattle.std.proofs.lemmas.Bool.{cond_both, cond-true, cond-false, le-leb, lt-leb, cases_eq, cases_lt}
use Rattle.meaning.specs.declared.Message.{Message}
use Rattle.meaning.specs.Model.{Model, State, before, insert, insert_all, handle_in, handled_in, handling, initial, start, nobody}
use Rattle.meaning.proofs.Ordered.{Ordered, all_insert_all, length_insert_all}
use Rattle.meaning.proofs.Runs.{Idle, idle_from_first}
use Rattle.meaning.proofs.States.{Fine, Placed, sent_by, sent_by_handled, handled_other, sends_later}

-- How many are for time t or earlier.
unfoldable pub upto : ℕ → List Message → ℕ
upto t [] = 0
upto t (x ∷ xs) = cond (leb x.time t) 1 0 + upto t xs

upto_le : (t : ℕ) (xs : List Message) → upto t xs ≤ length xs
unfolding upto
upto_le t [] = omega arith
upto_le t (x ∷ xs) =
    let h = upto_le t xs in
    cond_both (leb x.time t) 1 0 (λ n. n + upto t xs ≤ suc (length xs)) (λ _. omega arith) (λ _. omega arith)

upto_insert : (t : ℕ) (x : Message) (ys : List Message) → upto t (insert x ys) ≡ upto t (x ∷ ys)
unfolding upto insert
upto_insert t x [] = refl
upto_insert t x (y ∷ ys) =
    cond_both (before x y) (x ∷ y ∷ ys) (y ∷ insert x ys) (λ zs. upto t zs ≡ upto t (x ∷ y ∷ ys)) (λ _. refl)
    (λ _. omega (arith, upto_insert t x ys))

-- Later ones don't count.
upto_later : (t : ℕ) (xs ys : List Message) → AllByRecursion (λ x. t < x.time) xs → upto t (insert_all xs ys) ≡ upto t ys
unfolding upto insert_all
upto_later t [] ys h = refl
upto_later t (x ∷ xs) ys h =
    omega (arith, upto_later t xs (insert x ys) h.1, upto_insert t x ys, cond-false {A = ℕ} (leb x.time t) 1 0 (lt-leb x.time t h.0))

-- After n messages: all pending are for time t or later; those handled and those pending for t are no more than 65,536 for each time up to t;
-- and each message that a process has sent was handled or is pending.
pub record Few (end n : ℕ) (s : State) : Type 0 where
  pub t : ℕ
  pub in_time : t < end
  pub from_t : Idle t s.pending
  pub few : n + upto t s.pending ≤ 65536 * (t + 1)
  pub sent : (p : ℕ) → sent_by s.processes p ≤ n + length s.pending

pub few_handling : (m : Model) (end n : ℕ) (s : State) (x : Message) (xs : List Message) → Fine m s → s.pending ≡ x ∷ xs → x.time < end →
    length s.pending ≤ 65536 → Few end n s → Few end (suc n) (handling m s x xs)
unfolding handling upto
few_handling m end n s x xs f e l b h =
    let o : Ordered (x ∷ xs) = subst Ordered e f.ordered in
    let i : Idle h.t (x ∷ xs) = subst (Idle h.t) e h.from_t in
    let k : Idle x.time (x ∷ xs) = idle_from_first x.time x xs (omega arith) o.0 in
    let sends = (handle_in m s.processes x).sends in
    let later = sends_later m s.processes x in
    let one : upto x.time (x ∷ xs) ≡ 1 + upto x.time xs =
    ap (λ z. z + upto x.time xs) (cond-true {A = ℕ} (leb x.time x.time) 1 0 (le-leb x.time x.time (omega arith))) in
    let many : n + upto x.time (x ∷ xs) ≤ 65536 * (x.time + 1) =
    ⊎_elim
    (λ q. subst (λ t. n + upto t (x ∷ xs) ≤ 65536 * (t + 1)) q (subst (λ ys. n + upto h.t ys ≤ 65536 * (h.t + 1)) e h.few))
    (λ q. let a = i.0 in
    let c : h.t < x.time = lower h.t x.time a q in
    omega (arith, h.few, upto_le x.time (x ∷ xs), ap (λ z. length z) e, c))
    (cases_eq h.t x.time) in
    let long = length_insert_all sends xs in
    let there : x.to < length s.processes =
    omega (arith, f.many, (subst (AllByRecursion (Placed (length m.kinds) s.processes)) e f.placed).0.to) in
    record {
      t = x.time;
      in_time = l;
      from_t =
          all_insert_all (λ y. x.time ≤ y.time) sends xs
          (All-weaker (λ y. x.time < y.time) (λ y. x.time ≤ y.time) (λ y q. omega arith) sends later) k.1;
      few = omega (arith, upto_later x.time sends xs later, one, many);
      sent = λ p.
          ⊎_elim
          (λ q. subst (λ z. sent_by (handled_in m s.processes x) z ≤ suc n + length (insert_all sends xs)) (sym q)
          (omega (arith, sent_by_handled m s.processes x there, h.sent x.to, long, ap (λ z. length z) e)))
          (λ q. omega (arith, ap (λ z. z.sent) (handled_other m s.processes x p q), h.sent p, long, ap (λ z. length z) e))
          (cases_eq p x.to);
    }
  where
    lower : (a b : ℕ) → a ≤ b → (a ≡ b → ⊥) → a < b
    lower a b q r = ⊎_elim (λ c. c) (λ c. absurd (r (omega arith))) (cases_lt a b)

nothing_sent : (luck k : ℕ) (vs : List (List ℕ)) (p : ℕ) → sent_by (initial luck k vs) p ≡ 0
unfolding initial nobody
nothing_sent luck k [] p = refl
nothing_sent luck k (v ∷ vs) zero = refl
nothing_sent luck k (v ∷ vs) (suc p) = nothing_sent luck (suc k) vs p

pub few_start : (m : Model) (luck end : ℕ) (xs : List Message) → 0 < end → length xs ≤ 65536 → Few end 0 (start m luck xs)
unfolding start
few_start m luck end xs l b =
    record {
      t = 0;
      in_time = l;
      from_t = any (insert_all xs []);
      few = omega (arith, upto_le 0 (insert_all xs []), length_insert_all xs []);
      sent = λ p. omega (arith, nothing_sent luck 0 m.numbers p);
    }
  where
    any : (ys : List Message) → Idle 0 ys
    any [] = tt
    any (y ∷ ys) = (omega arith, any ys)
