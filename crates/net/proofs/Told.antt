-- What the first worker tells, and when it is done.
use Rattle.std.proofs.Common.{◌≡◌, ℕ, zero, suc, List, [], ◌++◌, sym, refl, ap, ◌∙◌, subst, ⊎_elim, arith}
use Rattle.std.proofs.lemmas.List.{append-nil}
use Rattle.meaning.proofs.States.{fine_start}
use Rattle.worker.specs.Worker as one
use Rattle.worker.specs.Worker.{Worker}
use Rattle.worker.proofs.Kept.{kept_work}
use Rattle.worker.proofs.Played.{Right, right_begin, right_work, right_said, right_done, told_work, meant as meant_of, Over as OverOf}
use Rattle.net.specs.Net.{Given, Fit, Turn}
use Rattle.net.specs.Promise.{job, begin, after, worker_in, SameSaid, NeverBack, AllTold}
use Rattle.net.proofs.Turns.{after_each, after_many, after_more}

-- The first worker has its job, is as ready as it was, and is right; of the others nothing is said.
abbrev pub First : Given → ℕ → Worker → Type 0
First g zero x = (x.job ≡ job g 0) × (x.ready ≡ (begin g 0).ready) × Right x
First g (suc w) x = Unit {0}

first_work : (g : Given) (w : ℕ) (x : Worker) → First g w x → First g w (one.work x)
first_work g zero x h = ((kept_work x).job ∙ h.0, (kept_work x).ready ∙ h.1, right_work x h.2)
first_work g (suc w) x h = tt

first_begin : (g : Given) → Fit g → (w : ℕ) → First g w (begin g w)
unfolding one.begin
first_begin g f zero = (refl, refl, right_begin (job g 0) refl (fine_start g.model g.luck g.outside f.proper f.from_outside))
first_begin g f (suc w) = tt

pub first : (g : Given) (ts : List Turn) → Fit g → First g 0 (worker_in g 0 (after g ts))
first g ts f =
    (after_each g.workers (First g) (first_work g) g ts refl (λ w _. first_begin g f w)).1 0 (begin g 0) (omega (arith, f.some_workers))

pub same_said : SameSaid
same_said g ts f =
    let h = first g ts f in
    let r = right_said (worker_in g 0 (after g ts)) h.2 in
    (r.0, (r.1, subst (λ j. (meant_of j r.0).said ≡ (worker_in g 0 (after g ts)).told ++ r.1) h.0 r.2))

pub all_told : AllTold
all_told g ts f d =
    let h = first g ts f in
    let r = right_done (worker_in g 0 (after g ts)) h.2 d in (
      r.0,
      subst (λ j. (worker_in g 0 (after g ts)).told ≡ (meant_of j r.0).said) h.0 r.1,
      subst (λ j. OverOf j r.0) h.0 r.2,
    )

pub never_back : NeverBack
never_back g ts t f =
    let w = worker_in g 0 (after g ts) in
    ⊎_elim
    (λ q. ([], ap (λ z. z.told) q ∙ sym (append-nil w.told)))
    (λ q. let r = told_work w in (r.0, ap (λ z. z.told) q ∙ r.1))
    ((after_more g ts t).each 0 (begin g 0) (omega (arith, after_many g ts, f.some_workers)))
