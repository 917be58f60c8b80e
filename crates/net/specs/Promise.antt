-- What is promised of the workers that there are. Each statement is a type, and some function's contract is that statement.
use Rattle.std.specs.Prelude.{ℕ, zero, suc, ◌+◌, ◌*◌, ◌<◌, ◌≤◌, Bool, List, [], length}
use Rattle.meaning.specs.declared.Message.{Message}
use Rattle.meaning.specs.declared.Line.{Line}
use Rattle.worker.specs.Worker as one
use Rattle.worker.specs.Worker.{Job, Worker}
use Rattle.net.specs.Net as net
use Rattle.net.specs.Net.{Given, Fit, Turn}

-- A letter is bytes.
abbrev pub Letter : Type 0
Letter = List ℕ

-- What worker w is given.
abbrev pub job : Given → ℕ → Job
job g w =
    record { model = g.model; places = g.places; luck = g.luck; end = g.end; outside = g.outside; workers = g.workers; number = w }

abbrev pub begin : Given → ℕ → Worker
begin g w = one.begin (job g w)

abbrev pub work : Worker → Worker × List (ℕ × Letter)
work w = (one.work w, [])

abbrev pub read : Worker → Letter → Worker
read w l = w

abbrev pub told : Worker → List Line
told w = w.told

abbrev pub done : Worker → Bool
done w = w.done

abbrev pub handled : Worker → List Message
handled w = w.handled

abbrev pub nothing : ℕ × Letter
nothing = (0, [])

-- These workers and the letters under way between them.
abbrev pub Net : Type 0
Net = net.Net Worker Letter begin work read told done handled one.room nothing

abbrev pub after : Given → List Turn → Net
after g ts = net.after Worker Letter begin work read told done handled one.room nothing g ts

abbrev pub worker_in : Given → ℕ → Net → Worker
worker_in g w n = net.worker_in Worker Letter begin work read told done handled one.room nothing g w n

abbrev pub SameSaid : Type 0
SameSaid = net.SameSaid Worker Letter begin work read told done handled one.room nothing

abbrev pub NeverBack : Type 0
NeverBack = net.NeverBack Worker Letter begin work read told done handled one.room nothing

abbrev pub AllTold : Type 0
AllTold = net.AllTold Worker Letter begin work read told done handled one.room nothing

abbrev pub Pieces : Type 0
Pieces = net.Pieces Worker Letter begin work read told done handled one.room nothing

abbrev pub ComesToEnd : Type 0
ComesToEnd = net.ComesToEnd Worker Letter begin work read told done handled one.room nothing

-- A worker takes at most 4,096 bytes for each place, 1,024, and 512 for each process of its own: of all, if it is the first, and else of none.
abbrev pub Fits : Type 0
Fits =
    (g : Given) (ts : List Turn) (w : ℕ) → Fit g → w < g.workers →
    one.room (worker_in g w (after g ts)) ≤ 4096 * g.places + (1024 + 512 * own g w)
  where
    own : Given → ℕ → ℕ
    own g zero = length g.model.kinds
    own g (suc w) = 0
