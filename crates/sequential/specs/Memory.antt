-- What lent memory stands for: a model, and a state of its run; and when a run in lent memory stops.
use Rattle.std.specs.Prelude.{◌≡◌, ℕ, suc, ◌+◌, ◌*◌, ◌<◌, ◌≤◌, min, Bool, true, cond, ◌&&◌, ◌⊎◌, List, [], ◌∷◌, map, length, take, drop, Some, None, Option, ◌==◌, nat_le, nat_lt, slice_index}
use Rattle.meaning.specs.declared.Message.{Message}
use Rattle.meaning.specs.declared.Line.{Line}
use Rattle.meaning.specs.Model.{Model, Body, Done, State, Process as Actor, handle_in, handled_in, step, steps, start, next_seed}
use Rattle.meaning.specs.Promise.{Proper, Outside, Sorted}
use Rattle.body.specs.declared.Process.{Process}
use Rattle.body.specs.declared.Refusal.{Refusal}
use Rattle.body.specs.Code.{body_of}
use Rattle.body.specs.Play.{top, filled}
use Rattle.queue.specs.Row.{waiting}
use Rattle.sequential.specs.declared.Lent.{Lent}
use Rattle.sequential.specs.declared.Progress.{Progress}
use Rattle.sequential.specs.declared.Report.{Report}
use Rattle.sequential.specs.declared.Unready.{Unready}
use Rattle.sequential.specs.declared.Outcome.{Outcome}
use Rattle.sequential.specs.declared.Outcome.TheVariants.{Ended, Paused, Waiting, Lines, Count, Short}

-- A process with the variables that begin at vs.
abbrev pub actor : Process → List ℕ → Actor
actor p vs = record { vars = take (min p.width 64) vs; seed = p.seed; sent = p.sent }

-- The processes that lent memory stands for: each has 64 places for its variables.
unfoldable pub actors : List Process → List ℕ → List Actor
actors [] vs = []
actors (p ∷ ps) vs = actor p vs ∷ actors ps (drop 64 vs)

-- The code of a kind: kinds has where each begins, and a kind that isn't there has none.
abbrev pub code_of : List ℕ → List ℕ → ℕ → List ℕ
code_of code kinds k = cond (nat_lt k (length kinds)) (drop (slice_index kinds k) code) []

-- The lines that begin at a place of the code.
abbrev pub body_from : List ℕ → ℕ → Body
body_from code s = body_of (length (drop s code)) (drop s code)

-- The model that lent memory stands for, if its variables were ns at the start.
abbrev pub model_of : List ℕ → List ℕ → List Process → List (List ℕ) → Model
model_of code kinds ps ns =
    record { bodies = map (body_from code) kinds; kinds = map (λ p. p.kind) ps; numbers = ns; rounds = 1000 }

-- What the process that x is for does with it.
abbrev pub done_in : List ℕ → List ℕ → List Process → List ℕ → Message → Done
done_in code kinds ps vs x = handle_in (model_of code kinds ps []) (actors ps vs) x

-- Message x is handled in lent memory: the processes are as they are after it, with their kinds and widths; what was sent and said fills the
-- first places lent for it.
pub record Did (code kinds : List ℕ) (x : Message) (ps : List Process) (vs : List ℕ) (sends : List Message) (lines : List Line)
    (ps' : List Process) (vs' : List ℕ) (sends' : List Message) (lines' : List Line) : Type 0 where
  pub actors_are : actors ps' vs' ≡ handled_in (model_of code kinds ps []) (actors ps vs) x
  pub kinds_are : map (λ p. p.kind) ps' ≡ map (λ p. p.kind) ps
  pub widths_are : map (λ p. p.width) ps' ≡ map (λ p. p.width) ps
  pub sends_are : sends' ≡ filled (done_in code kinds ps vs x).sends sends
  pub lines_are : lines' ≡ filled (done_in code kinds ps vs x).says lines

-- Nothing lent has changed.
pub record Untouched (ps : List Process) (vs : List ℕ) (sends : List Message) (lines : List Line)
    (ps' : List Process) (vs' : List ℕ) (sends' : List Message) (lines' : List Line) : Type 0 where
  pub processes_are : ps' ≡ ps
  pub vars_are : vs' ≡ vs
  pub sends_are : sends' ≡ sends
  pub lines_are : lines' ≡ lines

-- What is lent for a run and changes: processes and their variables, the row of waiting messages, the lines, and how many there are of these.
pub record Memory : Type 0 where
  pub processes : List Process
  pub vars : List ℕ
  pub row : List Message
  pub lines : List Line
  pub progress : Progress

-- What is lent, slice by slice.
abbrev pub memory : List Process → List ℕ → List Message → List Line → Progress → Memory
memory ps vs row lines g = record { processes = ps; vars = vs; row = row; lines = lines; progress = g }

-- What is lent, where it is lent as one.
abbrev pub memory_in : Lent → Memory
memory_in l = memory l.processes.now l.vars.now l.row.now l.lines.now l.progress.now

-- The same lent slices, as long as they were, whatever they hold.
pub record SameLent (l l' : Lent) : Type 0 where
  pub processes : l'.processes.ghost_name ≡ l.processes.ghost_name
  pub vars : l'.vars.ghost_name ≡ l.vars.ghost_name
  pub row : l'.row.ghost_name ≡ l.row.ghost_name
  pub lines : l'.lines.ghost_name ≡ l.lines.ghost_name
  pub progress : l'.progress.ghost_name ≡ l.progress.ghost_name
  pub process_places : length l'.processes.now ≡ length l.processes.now
  pub var_places : length l'.vars.now ≡ length l.vars.now
  pub row_places : length l'.row.now ≡ length l.row.now
  pub line_places : length l'.lines.now ≡ length l.lines.now

-- The state that lent memory stands for.
abbrev pub state_of : Memory → State
state_of y =
    record {
      processes = actors y.processes y.vars;
      pending = waiting y.row y.progress.waiting;
      said = take y.progress.said y.lines;
    }

-- There are 64 places for the variables of each of at most 65,536 processes, as many for what one message sends as in the row, and as many
-- in the row and for lines as are in use.
abbrev pub shaped : Memory → ℕ → Bool
shaped y sends =
    nat_le (length y.processes) 65536 && (nat_le (64 * length y.processes) (length y.vars) && (nat_le (length y.row) sends
    && (nat_le y.progress.waiting (length y.row) && nat_le y.progress.said (length y.lines))))

-- The same, fact by fact.
pub record Shaped (y : Memory) (sends : ℕ) : Type 0 where
  pub few : length y.processes ≤ 65536
  pub wide : 64 * length y.processes ≤ length y.vars
  pub scratch : length y.row ≤ sends
  pub in_row : y.progress.waiting ≤ length y.row
  pub in_lines : y.progress.said ≤ length y.lines

-- Why a message that did d is not handled, where so many others wait, there are so many places in the row and for lines, and so many
-- lines have been said: more messages would wait than there are places; more lines were said at one message than there are places, or
-- than are left, which a run with its lines printed has; or the process's count would reach 2^64.
abbrev pub refuses : Done → ℕ → ℕ → ℕ → ℕ → Option Outcome
refuses d others places line_places said =
    cond (nat_lt places (others + length d.sends)) (Some Waiting)
    (cond (nat_lt line_places (said + length d.says)) (Some (cond (said == 0) Lines Paused))
    (cond (nat_lt top d.process.sent) (Some Count) None))

-- Why a run stops in a state whose pending messages these are: nothing is left before the end, or the next message is refused.
unfoldable pub stops_at : Model → ℕ → ℕ → ℕ → State → List Message → Option Outcome
stops_at m end places line_places s [] = Some Ended
stops_at m end places line_places s (x ∷ xs) =
    cond (nat_lt x.time end) (refuses (handle_in m s.processes x) (length xs) places line_places (length s.said)) (Some Ended)

-- Why a run stops in a state, where there are so many places in the row and for lines; None where it goes on.
abbrev pub stops : Model → ℕ → ℕ → ℕ → State → Option Outcome
stops m end places line_places s = stops_at m end places line_places s s.pending

-- A refusal of a message, where so many lines have been said before.
abbrev pub outcome_of : Refusal → ℕ → Outcome
outcome_of Refusal.Sends said = Waiting
outcome_of Refusal.Lines said = cond (said == 0) Lines Paused
outcome_of Refusal.Count said = Count

-- One step in lent memory: it stands for the state after it, of the same model, and is still shaped.
pub record Stepped (code kinds : List ℕ) (end sends : ℕ) (y y' : Memory) : Type 0 where
  pub state_is : (ns : List (List ℕ)) → state_of y' ≡ step (model_of code kinds y.processes ns) end (state_of y)
  pub kinds_are : map (λ p. p.kind) y'.processes ≡ map (λ p. p.kind) y.processes
  pub widths_are : map (λ p. p.width) y'.processes ≡ map (λ p. p.width) y.processes
  pub shaped_still : Shaped y' sends

-- A run from s of at most budget steps did k of them, came to s' and answered o: it went on in each state before, and it stops there, or
-- the budget is used up.
pub record Ran (m : Model) (end places line_places budget : ℕ) (s : State) (k : ℕ) (s' : State) (o : Outcome) : Type 0 where
  pub steps_are : s' ≡ steps m end k s
  pub went_on : (j : ℕ) → j < k → stops m end places line_places (steps m end j s) ≡ None
  pub stopped : ((k ≡ budget) × (o ≡ Paused)) ⊎ ((k < budget) × (stops m end places line_places s' ≡ Some o))

-- What a run in lent memory promises, if the memory is shaped: it ran, of the same model, and the memory is still shaped.
pub record RunIn (code kinds : List ℕ) (end budget sends : ℕ) (y : Memory) (r : Report) (y' : Memory) : Type 0 where
  pub ran : (ns : List (List ℕ)) →
      Ran (model_of code kinds y.processes ns) end (length y.row) (length y.lines) budget (state_of y) r.steps (state_of y') r.outcome
  pub kinds_are : map (λ p. p.kind) y'.processes ≡ map (λ p. p.kind) y.processes
  pub widths_are : map (λ p. p.width) y'.processes ≡ map (λ p. p.width) y.processes
  pub shaped_still : shaped y' sends ≡ true

-- And if it isn't, nothing has changed, the places for what one message sends included.
pub record NotRun (y : Memory) (sends : List Message) (r : Report) (y' : Memory) (sends' : List Message) : Type 0 where
  pub refused : r ≡ record { outcome = Short; steps = 0 }
  pub same : y' ≡ y
  pub same_sends : sends' ≡ sends

-- Processes at the start, from number k on: a seed from the run's seed and the process's number, and nothing sent.
unfoldable pub started : ℕ → ℕ → List Process → List Process
started luck k [] = []
started luck k (p ∷ ps) =
    record { kind = p.kind; width = p.width; seed = next_seed (next_seed (luck + k)); sent = 0 } ∷ started luck (suc k) ps

-- The variables of each process.
unfoldable pub numbers_of : List Process → List ℕ → List (List ℕ)
numbers_of [] vs = []
numbers_of (p ∷ ps) vs = take (min p.width 64) vs ∷ numbers_of ps (drop 64 vs)

-- Lent memory stands for the start of the model with these variables, whatever the code, the kinds and the places for lines are.
pub record Begun (luck : ℕ) (outside : List Message) (ps : List Process) (row : List Message) (ps' : List Process) (row' : List Message) (g' : Progress) : Type 0 where
  pub processes_are : ps' ≡ started luck 0 ps
  pub kinds_are : map (λ p. p.kind) ps' ≡ map (λ p. p.kind) ps
  pub widths_are : map (λ p. p.width) ps' ≡ map (λ p. p.width) ps
  pub in_row : g'.waiting ≤ length row'
  pub behind : drop g'.waiting row' ≡ drop g'.waiting row
  pub stands : (code kinds vs : List ℕ) (lines : List Line) →
      state_of (record { processes = ps'; vars = vs; row = row'; lines = lines; progress = g' })
      ≡ start (model_of code kinds ps (numbers_of ps vs)) luck outside

-- Why a run cannot begin, if so: the run's seed is 2^31 or more, there are more than 65,536 processes, or more messages than places.
abbrev pub unready : ℕ → ℕ → ℕ → ℕ → Option Unready
unready luck processes messages places =
    cond (nat_lt luck 2147483648) (cond (nat_le processes 65536) (cond (nat_le messages places) None (Some Unready.Messages)) (Some Unready.Processes)) (Some Unready.Seed)

-- Nothing lent has changed.
pub record Unbegun (ps : List Process) (row : List Message) (g : Progress) (ps' : List Process) (row' : List Message) (g' : Progress) : Type 0 where
  pub processes_are : ps' ≡ ps
  pub row_is : row' ≡ row
  pub progress_is : g' ≡ g

-- In the row in lent memory messages wait in their order, and no two are the same, wherever a run from the start has come to.
abbrev pub RowInOrder : Type 0
RowInOrder =
    (m : Model) (luck end k : ℕ) (xs : List Message) (y : Memory) → Proper m → Outside m xs → state_of y ≡ steps m end k (start m luck xs) →
    Sorted (waiting y.row y.progress.waiting)
