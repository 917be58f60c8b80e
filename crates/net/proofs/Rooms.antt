-- The first worker has as many processes as there are, the others none, and each has the places that it was given.
use Rattle.std.proofs.Common.{◌≡◌, ℕ, zero, suc, ◌<◌, ◌≤◌, eqb, leb, List, length, refl, ap, ◌∙◌, arith}
use Rattle.std.proofs.lemmas.Bool.{cond_both, cond-false, ne_eqb}
use Rattle.meaning.specs.Model.{start}
use Rattle.meaning.specs.Promise.{Proper}
use Rattle.meaning.proofs.States.{length_initial}
use Rattle.worker.specs.Worker as one
use Rattle.worker.specs.Worker.{Worker, empty}
use Rattle.worker.proofs.Kept.{kept_work}
use Rattle.net.specs.Net.{Given, Fit, Turn}
use Rattle.net.specs.Promise.{job, begin, after, worker_in, Fits}
use Rattle.net.proofs.Turns.{after_each}

-- How many processes worker w has at most.
abbrev mine : Given → ℕ → ℕ
mine g zero = length g.model.kinds
mine g (suc w) = 0

-- Places and processes as given.
record Sized (g : Given) (w : ℕ) (x : Worker) : Type 0 where
  places : x.job.places ≡ g.places
  few : length x.state.processes ≤ mine g w

begin_sized : (g : Given) (w : ℕ) → Proper g.model → Sized g w (begin g w)
unfolding one.begin start
begin_sized g zero p =
    record {
      places = refl;
      few =
          cond_both (leb (length g.outside) g.places) (start g.model g.luck g.outside) empty
          (λ s. length s.processes ≤ length g.model.kinds)
          (λ _. omega (arith, length_initial g.luck 0 g.model.numbers, p.0)) (λ _. omega arith);
    }
begin_sized g (suc w) p =
    let e : (one.begin (job g (suc w))).state ≡ empty = cond-false (eqb (suc w) 0) _ empty (ne_eqb (suc w) 0 (λ q. omega arith)) in
    record { places = refl; few = omega (arith, ap (λ s. length s.processes) e) }

work_sized : (g : Given) (w : ℕ) (x : Worker) → Sized g w x → Sized g w (one.work x)
work_sized g w x h =
    let k = kept_work x in
    record { places = ap (λ j. j.places) k.job ∙ h.places; few = omega (arith, k.many, h.few) }

sized : (g : Given) (ts : List Turn) (w : ℕ) → Fit g → w < g.workers → Sized g w (worker_in g w (after g ts))
sized g ts w f l = (after_each g.workers (Sized g) (work_sized g) g ts refl (λ v _. begin_sized g v f.proper)).1 w (begin g w) l

pub fits : Fits
unfolding one.room
fits g ts zero f l = let h = sized g ts zero f l in omega (arith, h.places, h.few)
fits g ts (suc w) f l = let h = sized g ts (suc w) f l in omega (arith, h.places, h.few)
