-- What was said before stands in front, and nothing else of a run depends on it.
use Rattle.std.proofs.Common.{◌≡◌, ℕ, zero, suc, Bool, true, false, cond, ltb, List, [], ◌∷◌, refl, ap, ◌∙◌, append_assoc}
use Rattle.meaning.specs.declared.Line.{Line}
use Rattle.meaning.specs.declared.Message.{Message}
use Rattle.meaning.specs.Model.{Model, State, handling, step_with, step, steps, handle_in, handled_in, insert_all}
use Rattle.meaning.specs.Promise.{MayForget, said_before}

one_step : (m : Model) (end : ℕ) (ls : List Line) (s : State) (xs : List Message) → step_with m end (said_before ls s) xs ≡ said_before ls (step_with m end s xs)
unfolding step_with said_before handling
one_step m end ls s [] = refl
one_step m end ls s (x ∷ xs) = go (ltb x.time end)
  where
    go : (b : Bool) → cond b (handling m (said_before ls s) x xs) (said_before ls s) ≡ said_before ls (cond b (handling m s x xs) s)
    go true =
        let a = append_assoc ls s.said (handle_in m s.processes x).says in
        λ i. record { processes = handled_in m s.processes x; pending = insert_all (handle_in m s.processes x).sends xs; said = a i }
    go false = refl

pub may_forget : MayForget
unfolding steps step said_before
may_forget m end zero ls s = refl
may_forget m end (suc k) ls s = ap (steps m end k) (one_step m end ls s s.pending) ∙ may_forget m end k ls (step m end s)
