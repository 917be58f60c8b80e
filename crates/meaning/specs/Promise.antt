-- What is promised of the meaning itself. Each statement is a type, and some function's contract is that statement.
use Rattle.std.specs.Prelude.{◌≡◌, ℕ, ◌+◌, ◌<◌, ◌≤◌, true, ◌≢◌, List, [], ◌++◌, length, slice_index, slice_index_or}
use Rattle.meaning.specs.declared.Line.{Line}
use Rattle.meaning.specs.declared.Message.{Message}
use Rattle.meaning.specs.Model.{Model, State, Process, handle, handle_in, handled_in, before, steps, start}

-- Models whose kinds are there, with as many rows of variables as processes, all below 2^32, at most 64 each.
abbrev pub Proper : Model → Type 0
Proper m =
    (length m.numbers ≡ length m.kinds) × (length m.kinds ≤ 65536)
    × ((k : ℕ) → k < length m.kinds → slice_index m.kinds k < length m.bodies)
    × ((j k : ℕ) → slice_index (slice_index_or m.numbers j []) k < 4294967296)
    × ((j : ℕ) → length (slice_index_or m.numbers j []) ≤ 64)

-- Messages from outside: to processes that there are, from the number behind the last process, counted from 0.
abbrev pub Outside : Model → List Message → Type 0
Outside m xs =
    (length xs ≤ 65536)
    × ((k : ℕ) (x : Message) → k < length xs → slice_index_or xs k x ≡ x →
    (x.to < length m.kinds) × (x.from ≡ length m.kinds) × (x.count ≡ k) × (x.time < 4294967296) × (x.number < 4294967296))

-- Each comes before every later one: so they are in order, and no two are the same.
abbrev pub Sorted : List Message → Type 0
Sorted xs = (j k : ℕ) (x y : Message) → j < k → k < length xs → slice_index_or xs j x ≡ x → slice_index_or xs k y ≡ y → before x y ≡ true

-- Messages wait in their order, and no two are the same, after any number of steps.
abbrev pub InOrder : Type 0
InOrder = (m : Model) (luck end n : ℕ) (xs : List Message) → Proper m → Outside m xs → Sorted (steps m end n (start m luck xs)).pending

-- What is sent is later than what it came from, from the process that handled that, and counted once.
abbrev pub Later : Type 0
Later =
    (m : Model) (p : Process) (x : Message) (k : ℕ) (y : Message) → k < length (handle m p x).sends → slice_index_or (handle m p x).sends k y ≡ y →
    (x.time < y.time) × (y.from ≡ x.to) × (y.count ≡ p.sent + k)

-- Messages to different processes may be handled in either order: the processes come out the same, and so does what each does.
abbrev pub Independent : Type 0
Independent =
    (m : Model) (ps : List Process) (x y : Message) → x.to ≢ y.to →
    (handled_in m (handled_in m ps x) y ≡ handled_in m (handled_in m ps y) x) × (handle_in m (handled_in m ps y) x ≡ handle_in m ps x)

-- Lines that were said before: a state with these in front of its own.
unfoldable pub said_before : List Line → State → State
said_before ls s = record { processes = s.processes; pending = s.pending; said = ls ++ s.said }

-- What was said before changes nothing of what follows: a run may print its lines and forget them, and go on.
abbrev pub MayForget : Type 0
MayForget = (m : Model) (end k : ℕ) (ls : List Line) (s : State) → steps m end k (said_before ls s) ≡ said_before ls (steps m end k s)
