-- Workers and the letters under way between them, for any kind of workers: what a turn makes of them, and what is promised.
use Rattle.std.specs.Prelude.{◌≡◌, ℕ, zero, suc, ◌+◌, ◌-◌, ◌*◌, ◌/◌, ◌%◌, ◌<◌, ◌≤◌, Bool, true, false, cond, ◌≢◌, List, [], ◌∷◌, ◌++◌, length, nat_lt, slice_index_or, slice_set}
use Rattle.meaning.specs.declared.Message.{Message}
use Rattle.meaning.specs.declared.Line.{Line}
use Rattle.meaning.specs.Model.{Model, steps, step, start}
use Rattle.meaning.specs.Promise.{Proper, Outside}

-- One list of lines is the beginning of another.
abbrev pub Begins : List Line → List Line → Type 0
Begins xs ys = (zs : List Line) × (ys ≡ xs ++ zs)

-- Worker w does a piece of work; the cable hands letter k over, which stays, and may be handed over again; letter k is lost.
pub data Turn : Type 0 where
  works : ℕ → Turn
  hands : ℕ → Turn
  loses : ℕ → Turn

unfoldable pub without : {A : Type 0} → ℕ → List A → List A
without k [] = []
without zero (x ∷ xs) = xs
without (suc k) (x ∷ xs) = x ∷ without k xs

-- What is given for a run: a model, places for each worker, the run's seed, the end, messages from outside, and how many workers there are.
pub record Given : Type 0 where
  pub model : Model
  pub places : ℕ
  pub luck : ℕ
  pub end : ℕ
  pub outside : List Message
  pub workers : ℕ

-- As a text, its settings and a number of workers can be.
pub record Fit (g : Given) : Type 0 where
  pub proper : Proper g.model
  pub from_outside : Outside g.model g.outside
  pub some_workers : 1 ≤ g.workers
  pub few_workers : g.workers ≤ 64
  pub some_places : 1 ≤ g.places
  pub few_places : g.places ≤ 65536
  pub some_time : 1 ≤ g.end
  pub bounded_time : g.end < 4294967296
  pub bounded_luck : g.luck < 2147483648

-- The meaning of what is given, after k messages.
abbrev pub meant : Given → ℕ → Rattle.meaning.specs.Model.State
meant g k = steps g.model g.end k (start g.model g.luck g.outside)

-- Nothing is left before the end after k messages.
abbrev pub Over : Given → ℕ → Type 0
Over g k = step g.model g.end (meant g k) ≡ meant g k

-- Workers are given by how each begins, what a piece of work makes of one and which letters it writes to whom, what reading a letter makes of one,
-- what one has told, whether it says that all is done, the messages that it has handled for sure, and the bytes that it takes.
module _ (Worker Letter : Type 0) (begin : Given → ℕ → Worker) (work : Worker → Worker × List (ℕ × Letter)) (read : Worker → Letter → Worker)
    (told : Worker → List Line) (done : Worker → Bool) (handled : Worker → List Message) (room : Worker → ℕ) (nothing : ℕ × Letter) where
  pub record Net : Type 0 where
    pub workers : List Worker
    pub cable : List (ℕ × Letter)

  -- A turn; d stands for a worker that isn't there.
  unfoldable pub turn : Worker → Net → Turn → Net
  turn d net (works w) =
      cond (nat_lt w (length net.workers))
      (record { workers = slice_set net.workers w (work (slice_index_or net.workers w d)).0; cable = net.cable ++ (work (slice_index_or net.workers w d)).1 }) net
  turn d net (hands k) =
      cond (nat_lt k (length net.cable))
      (record {
        workers = slice_set net.workers (slice_index_or net.cable k nothing).0 (read (slice_index_or net.workers (slice_index_or net.cable k nothing).0 d) (slice_index_or net.cable k nothing).1);
        cable = net.cable;
      })
      net
  turn d net (loses k) = record { workers = net.workers; cable = without k net.cable }

  unfoldable pub turns : Worker → Net → List Turn → Net
  turns d net [] = net
  turns d net (t ∷ ts) = turns d (turn d net t) ts

  -- Workers w, w + 1, .. at the start, k of them.
  unfoldable pub all_workers : Given → ℕ → ℕ → List Worker
  all_workers g w zero = []
  all_workers g w (suc k) = begin g w ∷ all_workers g (suc w) k

  abbrev pub at_start : Given → Net
  at_start g = record { workers = all_workers g 0 g.workers; cable = [] }

  abbrev pub after : Given → List Turn → Net
  after g ts = turns (begin g 0) (at_start g) ts

  abbrev pub worker_in : Given → ℕ → Net → Worker
  worker_in g w net = slice_index_or net.workers w (begin g w)

  -- What was told is a beginning of what the meaning says.
  abbrev pub SameSaid : Type 0
  SameSaid = (g : Given) (ts : List Turn) → Fit g → (k : ℕ) × Begins (told (worker_in g 0 (after g ts))) (meant g k).said

  -- Nothing that was told is taken back.
  abbrev pub NeverBack : Type 0
  NeverBack = (g : Given) (ts : List Turn) (t : Turn) → Fit g → Begins (told (worker_in g 0 (after g ts))) (told (worker_in g 0 (after g (ts ++ t ∷ []))))

  -- When worker 0 says that all is done, all was told, and the meaning has nothing more before the end.
  abbrev pub AllTold : Type 0
  AllTold =
      (g : Given) (ts : List Turn) → Fit g → done (worker_in g 0 (after g ts)) ≡ true → (k : ℕ) × (told (worker_in g 0 (after g ts)) ≡ (meant g k).said) × Over g k

  -- A piece of work writes at most 64 letters.
  abbrev pub Pieces : Type 0
  Pieces = (g : Given) (ts : List Turn) (w : ℕ) → Fit g → w < g.workers → length (work (worker_in g w (after g ts))).1 ≤ 64

  -- A fair round: every worker works once, in order, and every letter is handed over once, in order, and then gone.
  unfoldable pub all_work : Worker → ℕ → ℕ → Net → Net
  all_work d w zero net = net
  all_work d w (suc k) net = all_work d (suc w) k (turn d net (works w))

  unfoldable pub all_handed : Worker → ℕ → Net → Net
  all_handed d zero net = net
  all_handed d (suc k) net = all_handed d k (turn d (turn d net (hands 0)) (loses 0))

  unfoldable pub fair : Worker → ℕ → ℕ → Net → Net
  fair d n zero net = net
  fair d n (suc r) net = fair d n r (all_handed d (length (all_work d 0 n net).cable) (all_work d 0 n net))

  -- Fair rounds come to an end, from wherever the workers were: if the model ends after k messages, and never has more to come, nor says more at one
  -- message, than each worker has places, after at most 16 (k + s + 1) of them, where s is how many lines it says.
  abbrev pub ComesToEnd : Type 0
  ComesToEnd =
      (g : Given) (k : ℕ) (ts : List Turn) → Fit g → ((j : ℕ) → j ≤ k → length (meant g j).pending ≤ g.places) →
      ((j : ℕ) → j < k → length (meant g (suc j)).said ≤ length (meant g j).said + g.places) → Over g k →
      done (worker_in g 0 (fair (begin g 0) g.workers (16 * (k + length (meant g k).said + 1)) (after g ts))) ≡ true
