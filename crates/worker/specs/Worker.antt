-- Workers: what one holds, with all that it has told and handled, how it begins, and what a piece of work and a letter make of it.
-- Worker 0 has all processes, plays them in the order of the meaning, and prints; the others have none.
use Rattle.std.specs.Prelude.{◌≡◌, ℕ, ◌+◌, ◌*◌, Bool, true, false, cond, ◌&&◌, List, [], ◌∷◌, ◌++◌, length, take, drop, Some, None, Option, ◌==◌, nat_le}
use Rattle.meaning.specs.declared.Message.{Message}
use Rattle.meaning.specs.declared.Line.{Line}
use Rattle.meaning.specs.Model.{Model, State, step, start}
use Rattle.sequential.specs.declared.Outcome.{Outcome}
use Rattle.sequential.specs.declared.Outcome.TheVariants.{Ended, Paused, Waiting, Lines, Count, Short}
use Rattle.sequential.specs.Memory.{stops}
use Rattle.text.specs.Printed.{fitting}

-- What a worker is given: the model, its places for messages and for lines, the run's seed, the end, the messages from outside, how many workers
-- there are, and which this one is.
pub record Job : Type 0 where
  pub model : Model
  pub places : ℕ
  pub luck : ℕ
  pub end : ℕ
  pub outside : List Message
  pub workers : ℕ
  pub number : ℕ

-- A worker: whether it found places for the messages from outside; its processes, the messages that wait for them and the lines that were said
-- and not told yet; all that it has told, and all messages that it has handled for sure; and whether it says that all is done.
pub record Worker : Type 0 where
  pub job : Job
  pub ready : Bool
  pub state : State
  pub told : List Line
  pub handled : List Message
  pub done : Bool

-- The bytes that a piece of work may print.
abbrev pub piece_bytes : ℕ
piece_bytes = 1024

abbrev pub empty : State
empty = record { processes = []; pending = []; said = [] }

-- The first worker begins as the meaning does, if it has places for the messages from outside.
abbrev pub first_state : Job → State
first_state j = cond (nat_le (length j.outside) j.places) (start j.model j.luck j.outside) empty

unfoldable pub begin : Job → Worker
begin j =
    record {
      job = j;
      ready = j.number == 0 && nat_le (length j.outside) j.places;
      state = cond (j.number == 0) (first_state j) empty;
      told = [];
      handled = [];
      done = false;
    }

-- Why the next message is not handled, if so; else it is, and is sure.
unfoldable pub handle_by : Option Outcome → Worker → Worker
handle_by None w =
    record {
      job = w.job;
      ready = w.ready;
      state = step w.job.model w.job.end w.state;
      told = w.told;
      handled = w.handled ++ take 1 w.state.pending;
      done = w.done;
    }
handle_by (Some Ended) w = record { job = w.job; ready = w.ready; state = w.state; told = w.told; handled = w.handled; done = true }
handle_by (Some Paused) w = w
handle_by (Some Waiting) w = w
handle_by (Some Lines) w = w
handle_by (Some Count) w = w
handle_by (Some Short) w = w

-- With no lines left to tell, the next message is handled.
unfoldable pub handles : Worker → Worker
handles w =
    cond (length w.state.said == 0) (handle_by (stops w.job.model w.job.end w.job.places w.job.places w.state) w) w

-- Lines are told, as many as there is room for in one piece.
unfoldable pub tells : Worker → Worker
tells w =
    record {
      job = w.job;
      ready = w.ready;
      state =
          record {
            processes = w.state.processes;
            pending = w.state.pending;
            said = drop (fitting piece_bytes w.state.said) w.state.said;
          };
      told = w.told ++ take (fitting piece_bytes w.state.said) w.state.said;
      handled = w.handled;
      done = w.done;
    }

-- A piece of work: what it makes of the worker. It writes no letters, since no other worker has anything to do.
unfoldable pub work : Worker → Worker
work w = cond w.ready (tells (handles w)) w

-- The bytes in use: 80 for each place (a message that waits, one that is sent, a line), 280 for each process of its own (24, and 64 numbers of 4),
-- and 64 for itself.
unfoldable pub room : Worker → ℕ
room w = 80 * w.job.places + (280 * length w.state.processes + 64)
