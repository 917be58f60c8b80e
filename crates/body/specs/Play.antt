-- Lines played in lent memory: places for what is sent and said, and counts that go on where the places end.
use Rattle.std.specs.Prelude.{◌≡◌, ℕ, ◌+◌, min, cond, List, [], ◌++◌, length, drop, Ok, Err, Result, ◌==◌, nat_lt, slice_set}
use Rattle.body.specs.declared.Act.{Act}
use Rattle.body.specs.Code.{act_by, expr_of, body_of}
use Rattle.meaning.specs.declared.Message.{Message}
use Rattle.meaning.specs.declared.Line.{Line}
use Rattle.meaning.specs.Model.{Done, exec, Expr, Body, stop, assign, draw, say, send, branch, repeat, value, next_seed, drawn, iterate}
use Rattle.body.specs.declared.Process.{Process}
use Rattle.body.specs.declared.Counts.{Counts}
use Rattle.body.specs.declared.Refusal.{Refusal}
use Rattle.body.specs.declared.Refusal.TheVariants.{Sends, Lines, Count}
use Rattle.body.specs.declared.Event.{Event}
use Rattle.body.specs.declared.Tally.{Tally}
use Rattle.body.specs.declared.Frame.{Frame}

-- The largest number of a counter.
abbrev pub top : ℕ
top = 18446744073709551615

-- Lent memory while lines are played: the variables, the seed, the places for messages and how many were sent, the places for lines
-- and how many were said.
pub record Room : Type 0 where
  pub vars : List ℕ
  pub seed : ℕ
  pub sends : List Message
  pub sent : ℕ
  pub lines : List Line
  pub said : ℕ

-- The room that lent slices and a tally make.
abbrev pub room : List ℕ → Tally → List Message → List Line → Room
room vs t xs ls = record { vars = vs; seed = t.seed; sends = xs; sent = t.sends; lines = ls; said = t.lines }

-- The room that a frame makes.
abbrev pub room_in : Frame → Room
room_in f = room f.vars.now f.tally f.sends.now f.lines.now

-- The same event, and the same lent slices, whatever they hold.
pub record SameLent (f g : Frame) : Type 0 where
  pub event : g.event ≡ f.event
  pub vars : g.vars.ghost_name ≡ f.vars.ghost_name
  pub sends : g.sends.ghost_name ≡ f.sends.ghost_name
  pub lines : g.lines.ghost_name ≡ f.lines.ghost_name

-- Variable k is a.
unfoldable pub put_var : ℕ → ℕ → Room → Room
put_var k a r = record { vars = slice_set r.vars k a; seed = r.seed; sends = r.sends; sent = r.sent; lines = r.lines; said = r.said }

-- Variable k is a number drawn below n.
unfoldable pub put_drawn : ℕ → ℕ → Room → Room
put_drawn k n r =
    record {
      vars = slice_set r.vars k (drawn (next_seed r.seed) n);
      seed = next_seed r.seed;
      sends = r.sends;
      sent = r.sent;
      lines = r.lines;
      said = r.said;
    }

-- A line goes into the next place, if there is one, and is counted.
unfoldable pub put_line : Line → Room → Room
put_line l r =
    record { vars = r.vars; seed = r.seed; sends = r.sends; sent = r.sent; lines = slice_set r.lines r.said l; said = min (r.said + 1) top }

-- The message that a process sends at an event, if it has sent k at it before.
abbrev pub letter : Event → ℕ → ℕ → ℕ → ℕ → Message
letter e k delay to number =
    record { time = e.clock + cond (delay == 0) 1 delay; to = to; from = e.me; count = min (e.sent + k) top; number = number }

-- A message to a process that there is goes into place k, if there is one.
abbrev pub sends_more : Event → ℕ → ℕ → ℕ → ℕ → List Message → List Message
sends_more e k delay to number xs = cond (nat_lt to e.processes) (slice_set xs k (letter e k delay to number)) xs

-- How many were sent, with a message to this process: one to nobody is not counted.
abbrev pub one_more : Event → ℕ → ℕ → ℕ
one_more e to k = cond (nat_lt to e.processes) (min (k + 1) top) k

-- A message is sent, or lost if there is nobody to send it to.
unfoldable pub put_sent : Event → ℕ → ℕ → ℕ → Room → Room
put_sent e delay to number r =
    record {
      vars = r.vars;
      seed = r.seed;
      sends = sends_more e r.sent delay to number r.sends;
      sent = one_more e to r.sent;
      lines = r.lines;
      said = r.said;
    }

-- What an expression comes to at an event.
abbrev pub value_at : Event → Room → Expr → ℕ
value_at e r x = value r.vars e.it e.me e.clock x

-- The lines played in lent memory.
unfoldable pub plays : Event → Body → Room → Room
plays e stop r = r
plays e (assign k x b) r = plays e b (put_var k (value_at e r x) r)
plays e (draw k x b) r = plays e b (put_drawn k (value_at e r x) r)
plays e (say x b) r = plays e b (put_line (record { time = e.clock; process = e.me; number = value_at e r x }) r)
plays e (send g f x b) r = plays e b (put_sent e (value_at e r g) (value_at e r f) (value_at e r x) r)
plays e (branch x b c rest) r = plays e rest (cond (value_at e r x == 0) (plays e c r) (plays e b r))
plays e (repeat x b rest) r = plays e rest (iterate (min (value_at e r x) 1000) (plays e b) r)

-- A line with no lines in it, at the front of ws, takes the room r to r' and leaves behind to be read: the lines from ws on, played in r,
-- are the lines from behind on, played in r', whatever lines those are.
abbrev pub Acted : Act → ℕ → Event → List ℕ → Room → List ℕ → Room → Type 0
Acted a n e ws r behind r' = (go : List ℕ → Body) → plays e (act_by a (expr_of n) go ws) r ≡ plays e (go behind) r'

-- What the lines that the code stands for do at an event, with this seed and these variables.
unfoldable pub does_at : Event → List ℕ → ℕ → List ℕ → Done
does_at e code c vs =
    exec e.processes 1000 e.it e.me e.clock (body_of (length code) code)
    (record { process = record { vars = vs; seed = c; sent = e.sent }; sends = []; says = [] })

-- What a process in lent memory does with a message, among so many processes.
abbrev pub does : List ℕ → ℕ → Process → List ℕ → Message → Done
does code ps p vs x =
    does_at (record { it = x.number; me = x.to; clock = x.time; processes = ps; sent = p.sent }) code p.seed vs

-- The tally of what was done.
abbrev pub tally_of : Done → Tally
tally_of d = record { seed = d.process.seed; sends = min (length d.sends) top; lines = min (length d.says) top }

-- The answer where there are so many places for messages and for lines: how many there are of each, or that there is no place for them,
-- or that the count of the process would reach 2^64.
abbrev pub answer : Done → ℕ → ℕ → Result Counts Refusal
answer d places line_places =
    cond (nat_lt places (length d.sends)) (Err Sends)
    (cond (nat_lt line_places (length d.says)) (Err Lines)
    (cond (nat_lt top d.process.sent) (Err Count) (Ok (record { sends = length d.sends; lines = length d.says }))))

-- What is lent to handle a message: the process, its variables, places for messages and for lines.
pub record Lent : Type 0 where
  pub process : Process
  pub vars : List ℕ
  pub sends : List Message
  pub lines : List Line

-- The first places hold xs, the others what they held.
abbrev pub filled : {X : Type 0} → List X → List X → List X
filled xs row = xs ++ drop (length xs) row

-- Lent memory afterwards: as the process did; and as it was, if the answer is a refusal.
abbrev pub lent_after : Result Counts Refusal → Done → Lent → Lent
lent_after (Ok n) d l =
    record {
      process = record { kind = l.process.kind; width = l.process.width; seed = d.process.seed; sent = d.process.sent };
      vars = d.process.vars;
      sends = filled d.sends l.sends;
      lines = filled d.says l.lines;
    }
lent_after (Err e) d l = l
