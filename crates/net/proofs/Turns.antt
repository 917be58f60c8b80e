-- What turns make of the workers: nothing but pieces of work, since a letter changes nothing.
use Rattle.std.proofs.Common.{◌≡◌, ℕ, zero, suc, ◌+◌, ◌<◌, ltb, ◌⊎◌, List, [], ◌∷◌, ◌++◌, length, get_or, set, sym, refl, ap, ◌∙◌, subst, inl, inr, ⊎_elim, arith}
use Rattle.std.proofs.lemmas.List.{length-set, get_or-set_same, get_or-set_other, get_or_default, set-get_or, set_past}
use Rattle.std.proofs.lemmas.Bool.{cond_both, cases_eq, ltb-false}
use Rattle.meaning.specs.Model.{iterate}
use Rattle.worker.specs.Worker as one
use Rattle.worker.specs.Worker.{Worker}
use Rattle.net.specs.Net as net
use Rattle.net.specs.Net.{Given, Turn, works, hands, loses}
use Rattle.net.specs.Promise.{Letter, begin, work, read, told, done, handled, nothing, Net, after}

abbrev turn : Worker → Net → Turn → Net
turn d n t = net.turn Worker Letter begin work read told done handled one.room nothing d n t

abbrev turns : Worker → Net → List Turn → Net
turns d n ts = net.turns Worker Letter begin work read told done handled one.room nothing d n ts

abbrev all_workers : Given → ℕ → ℕ → List Worker
all_workers g w k = net.all_workers Worker Letter begin work read told done handled one.room nothing g w k

abbrev all_work : Worker → ℕ → ℕ → Net → Net
all_work d w k n = net.all_work Worker Letter begin work read told done handled one.room nothing d w k n

abbrev all_handed : Worker → ℕ → Net → Net
all_handed d k n = net.all_handed Worker Letter begin work read told done handled one.room nothing d k n

abbrev pub fair : Worker → ℕ → ℕ → Net → Net
fair d w r n = net.fair Worker Letter begin work read told done handled one.room nothing d w r n

after_works : (d : Worker) (n : Net) (w : ℕ) → (turn d n (works w)).workers ≡ set n.workers w (one.work (get_or n.workers w d))
unfolding net.turn
after_works d n w =
    cond_both (ltb w (length n.workers)) _ n (λ z. z.workers ≡ set n.workers w (one.work (get_or n.workers w d))) (λ _. refl)
    (λ e. sym (set_past n.workers w _ (ltb-false w (length n.workers) e)))

after_hands : (d : Worker) (n : Net) (k : ℕ) → (turn d n (hands k)).workers ≡ n.workers
unfolding net.turn
after_hands d n k =
    cond_both (ltb k (length n.cable)) _ n (λ z. z.workers ≡ n.workers) (λ _. set-get_or n.workers (get_or n.cable k nothing).0 d) (λ _. refl)

after_loses : (d : Worker) (n : Net) (k : ℕ) → (turn d n (loses k)).workers ≡ n.workers
unfolding net.turn
after_loses d n k = refl

-- A worker after one worker's piece of work is as it was, or after a piece of work.
after_set : (ws : List Worker) (w v : ℕ) (d e : Worker) → v < length ws →
    (get_or (set ws w (one.work (get_or ws w d))) v e ≡ get_or ws v e) ⊎ (get_or (set ws w (one.work (get_or ws w d))) v e ≡ one.work (get_or ws v e))
after_set ws w v d e l =
    ⊎_elim
    (λ q. inr (subst (λ u. get_or (set ws u (one.work (get_or ws u d))) v e ≡ one.work (get_or ws v e)) q
    (get_or-set_same ws v (one.work (get_or ws v d)) e l ∙ ap one.work (get_or_default ws v d e l))))
    (λ h. inl (get_or-set_other ws w v (one.work (get_or ws w d)) e h)) (cases_eq v w)

-- As many workers after a turn, and each as it was, or after a piece of work.
pub record Turned (ws ws' : List Worker) : Type 0 where
  pub as_many : length ws' ≡ length ws
  pub each : (v : ℕ) (e : Worker) → v < length ws → (get_or ws' v e ≡ get_or ws v e) ⊎ (get_or ws' v e ≡ one.work (get_or ws v e))

unturned : (ws ws' : List Worker) → ws' ≡ ws → Turned ws ws'
unturned ws ws' q = record { as_many = ap (λ z. length z) q; each = λ v e l. inl (ap (λ z. get_or z v e) q) }

turned : (d : Worker) (n : Net) (t : Turn) → Turned n.workers (turn d n t).workers
turned d n (works w) =
    subst (Turned n.workers) (sym (after_works d n w))
    (record { as_many = length-set n.workers w _; each = λ v e l. after_set n.workers w v d e l })
turned d n (hands k) = unturned n.workers _ (after_hands d n k)
turned d n (loses k) = unturned n.workers _ (after_loses d n k)

length_all_workers : (g : Given) (w k : ℕ) → length (all_workers g w k) ≡ k
unfolding net.all_workers
length_all_workers g w zero = refl
length_all_workers g w (suc k) = ap suc (length_all_workers g (suc w) k)

getD_all_workers : (g : Given) (w k v : ℕ) (e : Worker) → v < k → get_or (all_workers g w k) v e ≡ begin g (w + v)
unfolding net.all_workers
getD_all_workers g w zero v e l = absurd (omega arith)
getD_all_workers g w (suc k) zero e l = ap (begin g) (omega arith)
getD_all_workers g w (suc k) (suc v) e l = getD_all_workers g (suc w) k v e (omega arith) ∙ ap (begin g) (omega arith)

-- What holds of each worker at the start, and after a piece of work, holds after any turns.
module _ (n : ℕ) (P : ℕ → Worker → Type 0) (kept : (w : ℕ) (x : Worker) → P w x → P w (one.work x)) where
  Each : List Worker → Type 0
  Each ws = (length ws ≡ n) × ((v : ℕ) (e : Worker) → v < n → P v (get_or ws v e))

  each_turned : (ws ws' : List Worker) → Turned ws ws' → Each ws → Each ws'
  unfolding Each
  each_turned ws ws' t h = (
    t.as_many ∙ h.0,
    λ v e l.
        ⊎_elim (λ q. subst (P v) (sym q) (h.1 v e l)) (λ q. subst (P v) (sym q) (kept v (get_or ws v e) (h.1 v e l)))
        (t.each v e (omega (arith, h.0))),
  )

  each_turns : (d : Worker) (m : Net) (ts : List Turn) → Each m.workers → Each (turns d m ts).workers
  unfolding net.turns
  each_turns d m [] h = h
  each_turns d m (t ∷ ts) h = each_turns d (turn d m t) ts (each_turned m.workers (turn d m t).workers (turned d m t) h)

  pub after_each : (g : Given) (ts : List Turn) → n ≡ g.workers → ((w : ℕ) → w < n → P w (begin g w)) →
      (length (after g ts).workers ≡ n) × ((v : ℕ) (e : Worker) → v < n → P v (get_or (after g ts).workers v e))
  unfolding Each
  after_each g ts q h =
      each_turns (begin g 0) _ ts (
        length_all_workers g 0 g.workers ∙ sym q,
        λ v e l. subst (P v) (sym (getD_all_workers g 0 g.workers v e (omega arith) ∙ ap (begin g) (omega arith))) (h v l),
      )

turns_append : (d : Worker) (n : Net) (ts us : List Turn) → turns d n (ts ++ us) ≡ turns d (turns d n ts) us
unfolding net.turns
turns_append d n [] us = refl
turns_append d n (t ∷ ts) us = turns_append d (turn d n t) ts us

-- One turn more.
pub after_more : (g : Given) (ts : List Turn) (t : Turn) → Turned (after g ts).workers (after g (ts ++ t ∷ [])).workers
unfolding net.turns
after_more g ts t =
    subst (λ z. Turned (after g ts).workers z.workers) (sym (turns_append (begin g 0) _ ts (t ∷ []))) (turned (begin g 0) (after g ts) t)

-- Work of workers from w on leaves those before as they are.
all_work_before : (d : Worker) (w k v : ℕ) (n : Net) (e : Worker) → v < w → get_or (all_work d w k n).workers v e ≡ get_or n.workers v e
unfolding net.all_work
all_work_before d w zero v n e l = refl
all_work_before d w (suc k) v n e l =
    all_work_before d (suc w) k v (turn d n (works w)) e (omega arith)
    ∙ ap (λ ws. get_or ws v e) (after_works d n w)
    ∙ get_or-set_other n.workers w v _ e (λ q. omega arith)

all_work_length : (d : Worker) (w k : ℕ) (n : Net) → length (all_work d w k n).workers ≡ length n.workers
unfolding net.all_work
all_work_length d w zero n = refl
all_work_length d w (suc k) n = all_work_length d (suc w) k (turn d n (works w)) ∙ (turned d n (works w)).as_many

all_work_first : (d : Worker) (k : ℕ) (n : Net) (e : Worker) → 0 < length n.workers →
    get_or (all_work d 0 (suc k) n).workers 0 e ≡ one.work (get_or n.workers 0 e)
unfolding net.all_work
all_work_first d k n e l =
    all_work_before d 1 k 0 (turn d n (works 0)) e (omega arith)
    ∙ ap (λ ws. get_or ws 0 e) (after_works d n 0)
    ∙ get_or-set_same n.workers 0 _ e l
    ∙ ap one.work (get_or_default n.workers 0 d e l)

all_handed_same : (d : Worker) (k : ℕ) (n : Net) → (all_handed d k n).workers ≡ n.workers
unfolding net.all_handed
all_handed_same d zero n = refl
all_handed_same d (suc k) n =
    all_handed_same d k (turn d (turn d n (hands 0)) (loses 0)) ∙ after_loses d (turn d n (hands 0)) 0 ∙ after_hands d n 0

-- In each fair round the first worker does a piece of work.
pub fair_first : (d : Worker) (k r : ℕ) (n : Net) (e : Worker) → 0 < length n.workers →
    get_or (fair d (suc k) r n).workers 0 e ≡ iterate r one.work (get_or n.workers 0 e)
unfolding net.fair iterate
fair_first d k zero n e l = refl
fair_first d k (suc r) n e l =
    let h = all_work d 0 (suc k) n in
    let q : (all_handed d (length h.cable) h).workers ≡ h.workers = all_handed_same d (length h.cable) h in
    fair_first d k r (all_handed d (length h.cable) h) e (omega (arith, ap (λ z. length z) q, all_work_length d 0 (suc k) n))
    ∙ ap (λ z. iterate r one.work (get_or z 0 e)) q
    ∙ ap (iterate r one.work) (all_work_first d k n e l)

pub after_many : (g : Given) (ts : List Turn) → length (after g ts).workers ≡ g.workers
after_many g ts = (after_each g.workers (λ _ _. Unit {0}) (λ _ _ _. tt) g ts refl (λ _ _. tt)).0
