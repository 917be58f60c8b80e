-- What a piece of work leaves as it was: what the worker was given, whether it is ready, and how many processes it has.
use Rattle.std.proofs.Common.{◌≡◌, ℕ, eqb, ltb, List, [], ◌∷◌, length, Some, None, Option, refl}
use Rattle.std.proofs.lemmas.Bool.{cond_both}
use Rattle.meaning.specs.declared.Message.{Message}
use Rattle.meaning.specs.Model.{Model, State, step, step_with, handling}
use Rattle.meaning.proofs.States.{length_handled}
use Rattle.sequential.specs.declared.Outcome.{Outcome}
use Rattle.sequential.specs.declared.Outcome.TheVariants.{Ended, Paused, Waiting, Lines, Count, Short}
use Rattle.worker.specs.Worker.{Worker, handle_by, handles, tells, work}

length_step : (m : Model) (end : ℕ) (s : State) → length (step m end s).processes ≡ length s.processes
unfolding step step_with handling
length_step m end s = go s.pending
  where
    go : (xs : List Message) → length (step_with m end s xs).processes ≡ length s.processes
    go [] = refl
    go (x ∷ xs) =
        cond_both (ltb x.time end) (handling m s x xs) s (λ z. length z.processes ≡ length s.processes)
        (λ _. length_handled m s.processes x) (λ _. refl)

-- Given the same, as ready, and with as many processes.
pub record Kept (w v : Worker) : Type 0 where
  pub job : v.job ≡ w.job
  pub ready : v.ready ≡ w.ready
  pub many : length v.state.processes ≡ length w.state.processes

same : (w : Worker) → Kept w w
same w = record { job = refl; ready = refl; many = refl }

kept_handle : (o : Option Outcome) (w : Worker) → Kept w (handle_by o w)
unfolding handle_by
kept_handle None w = record { job = refl; ready = refl; many = length_step w.job.model w.job.end w.state }
kept_handle (Some Ended) w = record { job = refl; ready = refl; many = refl }
kept_handle (Some Paused) w = same w
kept_handle (Some Waiting) w = same w
kept_handle (Some Lines) w = same w
kept_handle (Some Count) w = same w
kept_handle (Some Short) w = same w

pub kept_handles : (w : Worker) → Kept w (handles w)
unfolding handles
kept_handles w = cond_both (eqb (length w.state.said) 0) _ w (Kept w) (λ _. kept_handle _ w) (λ _. same w)

kept_tells : (w v : Worker) → Kept w v → Kept w (tells v)
unfolding tells
kept_tells w v h = record { job = h.job; ready = h.ready; many = h.many }

pub kept_work : (w : Worker) → Kept w (work w)
unfolding work
kept_work w = cond_both w.ready (tells (handles w)) w (Kept w) (λ _. kept_tells w (handles w) (kept_handles w)) (λ _. same w)
