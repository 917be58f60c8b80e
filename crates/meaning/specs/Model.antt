-- The language and its meaning: processes that send each other messages in time, and what a model in it says,
-- one message after the other. No workers, guesses, copies or takings back in it. Definitions only.
-- The language's words: a thing is a process here, its numbers are its variables, its chance number is its seed.
use Rattle.std.specs.Prelude.{ℕ, zero, suc, ◌+◌, ◌-◌, ◌*◌, ◌/◌, ◌%◌, min, Bool, cond, ◌&&◌, ◌||◌, List, [], ◌∷◌, ◌++◌, length, ◌==◌, nat_lt, slice_index, slice_index_or, slice_set}
use Rattle.meaning.specs.declared.Message.{Message}
use Rattle.meaning.specs.declared.Line.{Line}

-- Numbers are 0 to 2^32 - 1.
abbrev pub whole : ℕ
whole = 4294967296

-- What can be computed. it: the number of the message at hand; me: the process's own number; clock: the time, modulo 2^32.
pub data Expr : Type 0 where
  fixed : ℕ → Expr
  var : ℕ → Expr
  it : Expr
  me : Expr
  clock : Expr
  plus : Expr → Expr → Expr
  minus : Expr → Expr → Expr
  times : Expr → Expr → Expr
  over : Expr → Expr → Expr
  remains : Expr → Expr → Expr
  less : Expr → Expr → Expr
  same : Expr → Expr → Expr

-- The lines of a kind; each but `stop` has the lines behind it as its last part.
-- send: the delay, to whom, the number. branch: the lines if it isn't 0, and if it is. repeat: how often, and the lines.
pub data Body : Type 0 where
  stop : Body
  assign : ℕ → Expr → Body → Body
  draw : ℕ → Expr → Body → Body
  say : Expr → Body → Body
  send : Expr → Expr → Expr → Body → Body
  branch : Expr → Body → Body → Body → Body
  repeat : Expr → Body → Body → Body

-- A model: the lines of each kind, the kind of each process, its variables at the start, and the most turns of one repeat.
pub record Model : Type 0 where
  pub bodies : List Body
  pub kinds : List ℕ
  pub numbers : List (List ℕ)
  pub rounds : ℕ

-- A process: its variables, its seed, and how many messages it has sent.
pub record Process : Type 0 where
  pub vars : List ℕ
  pub seed : ℕ
  pub sent : ℕ

-- What a process does with one message: itself afterwards, what it sends and what it says, each in order.
pub record Done : Type 0 where
  pub process : Process
  pub sends : List Message
  pub says : List Line

-- A number modulo 2^32.
unfoldable pub in_whole : ℕ → ℕ
in_whole a = a % whole

-- What an expression comes to, for the variables vs, the message's number i, the process m and the time n.
unfoldable pub value : List ℕ → ℕ → ℕ → ℕ → Expr → ℕ
value vs i m n (fixed a) = in_whole a
value vs i m n (var k) = slice_index vs k
value vs i m n it = in_whole i
value vs i m n me = in_whole m
value vs i m n clock = in_whole n
value vs i m n (plus e f) = in_whole (value vs i m n e + value vs i m n f)
value vs i m n (minus e f) = in_whole (value vs i m n e + (whole - value vs i m n f))
value vs i m n (times e f) = in_whole (value vs i m n e * value vs i m n f)
value vs i m n (over e f) = cond (value vs i m n f == 0) 0 (value vs i m n e / value vs i m n f)
value vs i m n (remains e f) = cond (value vs i m n f == 0) 0 (value vs i m n e % value vs i m n f)
value vs i m n (less e f) = cond (nat_lt (value vs i m n e) (value vs i m n f)) 1 0
value vs i m n (same e f) = cond (value vs i m n e == value vs i m n f) 1 0

-- The seed after one draw.
unfoldable pub next_seed : ℕ → ℕ
next_seed a = in_whole (a * 1664525 + 1013904223)

-- What is drawn below e where the seed has become c: its upper half modulo e, or 0 if e is 0.
unfoldable pub drawn : ℕ → ℕ → ℕ
drawn c e = cond (e == 0) 0 ((c / 65536) % e)

-- Variable k is a from now on.
unfoldable pub with_var : ℕ → ℕ → Done → Done
with_var k a d =
    record { process = record { vars = slice_set d.process.vars k a; seed = d.process.seed; sent = d.process.sent }; sends = d.sends; says = d.says }

-- The seed goes on.
unfoldable pub with_seed : ℕ → Done → Done
with_seed c d =
    record { process = record { vars = d.process.vars; seed = c; sent = d.process.sent }; sends = d.sends; says = d.says }

-- One line more is said.
unfoldable pub with_line : Line → Done → Done
with_line l d = record { process = d.process; sends = d.sends; says = d.says ++ l ∷ [] }

-- One message more is sent, and counted.
unfoldable pub with_sent : Message → Done → Done
with_sent x d =
    record { process = record { vars = d.process.vars; seed = d.process.seed; sent = suc d.process.sent }; sends = d.sends ++ x ∷ []; says = d.says }

-- f done n times.
unfoldable pub iterate : {A : Type 0} → ℕ → (A → A) → A → A
iterate zero f d = d
iterate (suc n) f d = iterate n f (f d)

-- Variable k becomes a number drawn below e.
unfoldable pub draws : ℕ → ℕ → Done → Done
draws k e d = with_seed (next_seed d.process.seed) (with_var k (drawn (next_seed d.process.seed) e) d)

-- A message goes to a process that there is, at least 1 later; one to nobody is lost, and not counted.
unfoldable pub sending : ℕ → ℕ → ℕ → ℕ → ℕ → ℕ → Done → Done
sending processes m n delay to number d =
    cond (nat_lt to processes)
    (with_sent (record { time = n + cond (delay == 0) 1 delay; to = to; from = m; count = d.process.sent; number = number }) d) d

-- What the lines do, one after the other. ps: how many processes there are; r: most turns of a repeat; i, m, n: as for value.
unfoldable pub exec : ℕ → ℕ → ℕ → ℕ → ℕ → Body → Done → Done
exec ps r i m n stop d = d
exec ps r i m n (assign k e b) d = exec ps r i m n b (with_var k (value d.process.vars i m n e) d)
exec ps r i m n (draw k e b) d = exec ps r i m n b (draws k (value d.process.vars i m n e) d)
exec ps r i m n (say e b) d =
    exec ps r i m n b (with_line (record { time = n; process = m; number = value d.process.vars i m n e }) d)
exec ps r i m n (send g f e b) d =
    exec ps r i m n b
    (sending ps m n (value d.process.vars i m n g) (value d.process.vars i m n f) (value d.process.vars i m n e) d)
exec ps r i m n (branch e b c rest) d =
    exec ps r i m n rest (cond (value d.process.vars i m n e == 0) (exec ps r i m n c d) (exec ps r i m n b d))
exec ps r i m n (repeat e b rest) d =
    exec ps r i m n rest (iterate (min (value d.process.vars i m n e) r) (exec ps r i m n b) d)

-- The lines of process k.
unfoldable pub body_of : Model → ℕ → Body
body_of m k = slice_index_or m.bodies (slice_index m.kinds k) stop

-- What process p does with message x.
unfoldable pub handle : Model → Process → Message → Done
handle m p x =
    exec (length m.kinds) m.rounds x.number x.to x.time (body_of m x.to) (record { process = p; sends = []; says = [] })

-- The order of messages: by time, then to whom, then from whom, then count.
unfoldable pub before : Message → Message → Bool
before a b =
    nat_lt a.time b.time
    || (a.time == b.time
    && (nat_lt a.to b.to || (a.to == b.to && (nat_lt a.from b.from || (a.from == b.from && nat_lt a.count b.count)))))

-- A message put in before the first that comes after it.
unfoldable pub insert : Message → List Message → List Message
insert x [] = x ∷ []
insert x (y ∷ ys) = cond (before x y) (x ∷ y ∷ ys) (y ∷ insert x ys)

-- Messages put in one after the other.
unfoldable pub insert_all : List Message → List Message → List Message
insert_all [] ys = ys
insert_all (x ∷ xs) ys = insert_all xs (insert x ys)

-- Processes now, messages to come in their order, and all that was said.
pub record State : Type 0 where
  pub processes : List Process
  pub pending : List Message
  pub said : List Line

-- Stands for a process that isn't there.
unfoldable pub nobody : Process
nobody = record { vars = []; seed = 0; sent = 0 }

-- What the process that x is for, among ps, does with it.
unfoldable pub handle_in : Model → List Process → Message → Done
handle_in m ps x = handle m (slice_index_or ps x.to nobody) x

-- The processes after x is handled.
unfoldable pub handled_in : Model → List Process → Message → List Process
handled_in m ps x = slice_set ps x.to (handle_in m ps x).process

-- x, the first of the pending, is handled; the others are xs.
unfoldable pub handling : Model → State → Message → List Message → State
handling m s x xs =
    record {
      processes = handled_in m s.processes x;
      pending = insert_all (handle_in m s.processes x).sends xs;
      said = s.said ++ (handle_in m s.processes x).says;
    }

-- One step: the first pending message is handled, if it comes before the end.
unfoldable pub step_with : Model → ℕ → State → List Message → State
step_with m end s [] = s
step_with m end s (x ∷ xs) = cond (nat_lt x.time end) (handling m s x xs) s

unfoldable pub step : Model → ℕ → State → State
step m end s = step_with m end s s.pending

-- n steps.
unfoldable pub steps : Model → ℕ → ℕ → State → State
steps m end zero s = s
steps m end (suc n) s = steps m end n (step m end s)

-- Processes at the start, from number k on: their variables, and a seed from the run's seed and the process's number.
unfoldable pub initial : ℕ → ℕ → List (List ℕ) → List Process
initial luck k [] = []
initial luck k (vs ∷ rest) = record { vars = vs; seed = next_seed (next_seed (luck + k)); sent = 0 } ∷ initial luck (suc k) rest

-- The start: luck is the run's seed, xs are the messages from outside.
unfoldable pub start : Model → ℕ → List Message → State
start m luck xs = record { processes = initial luck 0 m.numbers; pending = insert_all xs []; said = [] }
