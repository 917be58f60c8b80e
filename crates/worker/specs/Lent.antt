-- What lent memory stands for: for which workers, with all that they have told and handled so far; and what begin, work and read make of it.
use Rattle.std.specs.Prelude.{◌≡◌, ℕ, ◌*◌, Bool, true, false, cond, not, ◌&&◌, ◌||◌, List, [], ◌∷◌, ◌++◌, map, length, take, drop, Some, None, Option, ◌==◌, nat_le, nat_lt}
use Rattle.meaning.specs.declared.Message.{Message}
use Rattle.meaning.specs.declared.Line.{Line}
use Rattle.meaning.specs.Model.{State}
use Rattle.body.specs.declared.Process.{Process}
use Rattle.queue.specs.Row.{waiting}
use Rattle.sequential.specs.Memory.{actors, body_from, model_of, numbers_of}
use Rattle.text.specs.Printed.{printed}
use Rattle.text.specs.Slices.{over}
use Rattle.worker.specs.declared.Status.{Status}
use Rattle.worker.specs.declared.Asked.{Asked}
use Rattle.worker.specs.declared.Piece.{Piece}
use Rattle.worker.specs.Worker.{Job, Worker, begin, work, empty, piece_bytes}

-- What is lent to a worker and changes: its processes and their variables, the messages that wait, the lines that were said, and where it stands.
pub record Lent : Type 0 where
  pub processes : List Process
  pub vars : List ℕ
  pub row : List Message
  pub lines : List Line
  pub status : Status

abbrev pub lent : List Process → List ℕ → List Message → List Line → Status → Lent
lent ps vs row lines s = record { processes = ps; vars = vs; row = row; lines = lines; status = s }

-- Its processes, the messages that wait, and the lines that were said and not told.
abbrev pub state_in : Lent → State
state_in l =
    record {
      processes = actors l.processes l.vars;
      pending = waiting l.row l.status.waiting;
      said = drop l.status.told (take l.status.said l.lines);
    }

-- Lent memory stands for a worker, whatever that has told and handled: code and kinds are the text's.
pub record Stands (code kinds : List ℕ) (l : Lent) (w : Worker) : Type 0 where
  pub bodies_are : w.job.model.bodies ≡ map (body_from code) kinds
  pub rounds_are : w.job.model.rounds ≡ 1000
  pub places_are : w.job.places ≡ l.status.places
  pub end_is : w.job.end ≡ l.status.end
  pub workers_are : w.job.workers ≡ l.status.workers
  pub number_is : w.job.number ≡ l.status.number
  pub ready_is : w.ready ≡ l.status.ready
  pub done_is : w.done ≡ l.status.done
  pub kinds_are : l.status.ready ≡ true → w.job.model.kinds ≡ map (λ p. p.kind) l.processes
  pub state_is : l.status.ready ≡ true → w.state ≡ state_in l
  pub none_is : l.status.ready ≡ false → w.state ≡ empty

-- Lent memory is as long as a worker that is ready needs: 64 places for the variables of each of at most 65,536 processes, as many places in the row,
-- for what one message sends and for lines as it was given, and no more in use than there are; and the piece's bytes.
abbrev pub shaped : Lent → ℕ → ℕ → Bool
shaped l sends out =
    not l.status.ready
    || (nat_le (length l.processes) 65536 && (nat_le (64 * length l.processes) (length l.vars) && (length l.row == l.status.places
    && (nat_le l.status.places sends && (length l.lines == l.status.places && (nat_le l.status.waiting (length l.row)
    && (nat_le l.status.told l.status.said && (nat_le l.status.said (length l.lines) && nat_le piece_bytes out))))))))

-- A piece of work over lent memory: for each worker that it stood for it stands for that worker after the piece, the piece's bytes hold just the
-- lines by which what was told grew, as they are printed, and no letter was written.
pub record Worked (code kinds : List ℕ) (l : Lent) (out : List ℕ) (p : Piece) (l' : Lent) (out' : List ℕ) : Type 0 where
  pub stands : (w : Worker) → Stands code kinds l w → Stands code kinds l' (work w)
  pub prints : (w : Worker) → Stands code kinds l w →
      (grown : List Line) × ((work w).told ≡ w.told ++ grown) × (out' ≡ over (printed grown) out) × (p.bytes ≡ length (printed grown))
  pub finishes : (w : Worker) → Stands code kinds l w → p.done ≡ (work w).done
  pub no_letters : p.letters ≡ 0

-- What is asked of a worker is in range: 1 to 64 workers, of which it is one; an end of 1 to 2^32 - 1; a seed below 2^31; 1 to 65,536 places. Else the place of
-- the first that isn't.
abbrev pub out_of_range : Asked → Option ℕ
out_of_range a =
    cond (nat_le 1 a.workers && (nat_le a.workers 64 && nat_lt a.number a.workers))
    (cond (nat_le 1 a.end)
    (cond (nat_le a.luck 2147483647)
    (cond (nat_le 1 a.places && nat_le a.places 65536) None (Some 3))
    (Some 2))
    (Some 1))
    (Some 0)

-- What a worker is given, where the text's slices hold the model.
abbrev pub job_of : List ℕ → List ℕ → List Process → List ℕ → List Message → Asked → Job
job_of code kinds ps vs ms a =
    record {
      model = model_of code kinds ps (numbers_of ps vs);
      places = a.places;
      luck = a.luck;
      end = a.end;
      outside = ms;
      workers = a.workers;
      number = a.number;
    }
