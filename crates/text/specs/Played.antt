-- What playing a model in lent memory comes to, whatever is printed on the way and then forgotten.
use Rattle.std.specs.Prelude.{◌≡◌, ℕ, ◌*◌, ◌<◌, ◌≤◌, ◌⊎◌, List, [], map, length, Some, None, MatchBool, MatchOption, nat_le}
use Rattle.meaning.specs.declared.Line.{Line}
use Rattle.meaning.specs.declared.Message.{Message}
use Rattle.meaning.specs.Model.{Model, State, start, steps}
use Rattle.meaning.specs.Promise.{said_before}
use Rattle.body.specs.declared.Process.{Process}
use Rattle.sequential.specs.declared.Outcome.{Outcome}
use Rattle.sequential.specs.declared.Outcome.TheVariants.{Paused, Waiting, Short}
use Rattle.sequential.specs.Memory.{Memory, state_of, model_of, actors, numbers_of, unready, shaped, stops}
use Rattle.text.specs.declared.play.Given.{Given}
use Rattle.text.specs.declared.stage.Failure.{Failure}
use Rattle.text.specs.declared.stage.Failure.TheVariants as failure

-- Memory stands, with the lines told in front of those that it holds, where the meaning stands after some number of steps from where it stood.
pub record Onward (code kinds : List ℕ) (end : ℕ) (y y' : Memory) : Type 0 where
  pub handled : ℕ
  pub told : List Line
  pub state_is : (ns : List (List ℕ)) → said_before told (state_of y') ≡ steps (model_of code kinds y.processes ns) end handled (state_of y)
  pub kinds_are : map (λ p. p.kind) y'.processes ≡ map (λ p. p.kind) y.processes
  pub widths_are : map (λ p. p.width) y'.processes ≡ map (λ p. p.width) y.processes

-- The state with all its lines printed and forgotten.
abbrev pub unsaid : State → State
unsaid s = record { processes = s.processes; pending = s.pending; said = [] }

-- Why playing stops in a state, after so many messages handled: why a run stops there with no line kept; or it pauses, after as many pieces
-- as are counted, each of at least one message.
abbrev pub Stopped : Model → ℕ → ℕ → ℕ → ℕ → State → Outcome → Type 0
Stopped m end places line_places handled s o =
    (stops m end places line_places (unsaid s) ≡ Some o) ⊎ ((o ≡ Paused) × (18446744073709551615 ≤ handled))

-- Playing went on in each state before: no run stops there with no line kept.
abbrev pub WentOn : Model → ℕ → ℕ → ℕ → ℕ → State → Type 0
WentOn m end places line_places handled s = (j : ℕ) → j < handled → stops m end places line_places (unsaid (steps m end j s)) ≡ None

-- Playing on from memory y came to y' and answered o: it went onward, and stops there; or the memory is too short, and nothing was handled.
pub record PlayedOn (code kinds : List ℕ) (end sends : ℕ) (y y' : Memory) (o : Outcome) : Type 0 where
  pub onward : Onward code kinds end y y'
  pub stopped : MatchBool (shaped y sends)
      ((ns : List (List ℕ)) → WentOn (model_of code kinds y.processes ns) end (length y.row) (length y.lines) onward.handled (state_of y)
      × Stopped (model_of code kinds y.processes ns) end (length y.row) (length y.lines) onward.handled (state_of y') o)
      ((o ≡ Short) × (onward.handled ≡ 0))

-- The processes are, after some number of steps from the start, as the meaning has them, with the kinds and widths that they had; playing
-- went on in each state before, and stops there for the reason that is answered. With too few places for the variables no message is handled.
pub record Steps (code kinds : List ℕ) (g : Given ℕ) (outside : List Message) (ps : List Process) (vs : List ℕ) (ps' : List Process) (vs' : List ℕ) (o : Outcome) : Type 0 where
  pub handled : ℕ
  pub actors_are : actors ps' vs' ≡ (steps (model_of code kinds ps (numbers_of ps vs)) g.end handled (start (model_of code kinds ps (numbers_of ps vs)) g.luck outside)).processes
  pub kinds_are : map (λ p. p.kind) ps' ≡ map (λ p. p.kind) ps
  pub widths_are : map (λ p. p.width) ps' ≡ map (λ p. p.width) ps
  pub stopped : MatchBool (nat_le (64 * length ps) (length vs))
      (WentOn (model_of code kinds ps (numbers_of ps vs)) g.end g.places g.places handled (start (model_of code kinds ps (numbers_of ps vs)) g.luck outside)
      × Stopped (model_of code kinds ps (numbers_of ps vs)) g.end g.places g.places handled
      (steps (model_of code kinds ps (numbers_of ps vs)) g.end handled (start (model_of code kinds ps (numbers_of ps vs)) g.luck outside)) o)
      ((o ≡ Short) × (handled ≡ 0))

-- What playing a model from its start comes to: so; or nothing has changed, where the run cannot begin.
abbrev pub Played : List ℕ → List ℕ → Given ℕ → List Message → List Process → List ℕ → List Process → List ℕ → Outcome → Type 0
Played code kinds g outside ps vs ps' vs' o =
    MatchOption (unready g.luck (length ps) (length outside) g.places) (Steps code kinds g outside ps vs ps' vs' o) (λ _. (ps' ≡ ps) × (vs' ≡ vs) × (o ≡ Waiting))

-- Why playing a model fails: there was no memory, or the output failed; it is never refused.
abbrev pub Unplayed : Failure → Type 0
Unplayed (failure.Refused f) = ⊥
Unplayed (failure.Memory e) = Unit {0}
Unplayed (failure.Io e) = Unit {0}
