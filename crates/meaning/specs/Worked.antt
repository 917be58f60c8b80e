-- Five small models, and what each prints: one table.
use Rattle.std.specs.Prelude.{◌≡◌, ℕ, List, [], ◌∷◌}
use Rattle.std.specs.List.{AllByRecursion}
use Rattle.meaning.specs.declared.Message.{Message}
use Rattle.meaning.specs.declared.Line.{Line}
use Rattle.meaning.specs.Model.{Model, Body, fixed, var, it, me, plus, minus, over, remains, less, stop, assign, say, send, branch, step, steps, start}

-- A row of the table: the model, the end, the messages from outside, in how many steps, and the lines it says. The run's seed is 1.
pub record Example : Type 0 where
  pub model : Model
  pub end : ℕ
  pub outside : List Message
  pub count : ℕ
  pub lines : List Line

-- It says these lines, and then nothing more before the end.
abbrev pub Prints : Example → Type 0
Prints c =
    ((steps c.model c.end c.count (start c.model 1 c.outside)).said ≡ c.lines)
    × (step c.model c.end (steps c.model c.end c.count (start c.model 1 c.outside))
    ≡ steps c.model c.end c.count (start c.model 1 c.outside))

abbrev pub line : ℕ → ℕ → ℕ → Line
line t p k = record { time = t; process = p; number = k }

-- Message number c from outside, where there are ps processes: at time t to process f with number k.
abbrev pub message : ℕ → ℕ → ℕ → ℕ → ℕ → Message
message ps c t f k = record { time = t; to = f; from = ps; count = c; number = k }

-- One kind.
abbrev pub one_kind : Body → List (List ℕ) → List ℕ → Model
one_kind b vs ks = record { bodies = b ∷ []; kinds = ks; numbers = vs; rounds = 1000 }

-- say it
abbrev pub echo : Example
echo =
    record {
      model = one_kind (say it stop) ([] ∷ []) (0 ∷ []);
      end = 100;
      outside = message 1 0 5 0 7 ∷ [];
      count = 1;
      lines = line 5 0 7 ∷ [];
    }

-- two processes that send a number back and forth until it is 3
abbrev pub rally : Example
rally =
    record {
      model = one_kind (say it (branch (less it (fixed 3)) (send (fixed 2) (minus (fixed 1) me) (plus it (fixed 1)) stop) stop stop)) ([] ∷ [] ∷ []) (0 ∷ 0 ∷ []);
      end = 100;
      outside = message 2 0 0 0 0 ∷ [];
      count = 4;
      lines = line 0 0 0 ∷ line 2 1 1 ∷ line 4 0 2 ∷ line 6 1 3 ∷ [];
    }

-- a sum, and a message at the end, which isn't handled
abbrev pub sum : Example
sum =
    record {
      model = one_kind (assign 0 (plus (var 0) it) (say (var 0) stop)) ((10 ∷ []) ∷ []) (0 ∷ []);
      end = 9;
      outside = message 1 0 3 0 1 ∷ message 1 1 3 0 2 ∷ message 1 2 9 0 4 ∷ [];
      count = 2;
      lines = line 3 0 11 ∷ line 3 0 13 ∷ [];
    }

-- a delay of 0 is 1, messages of one time go by their count, and one to nobody is lost
abbrev pub fan : Example
fan =
    record {
      model =
          record {
            bodies =
                send (fixed 0) (fixed 1) (fixed 1) (send (fixed 1) (fixed 1) (fixed 2) (send (fixed 1) (fixed 9) (fixed 3) stop)) ∷ say it stop ∷ [];
            kinds = 0 ∷ 1 ∷ [];
            numbers = [] ∷ [] ∷ [];
            rounds = 1000;
          };
      end = 100;
      outside = message 2 0 0 0 0 ∷ [];
      count = 3;
      lines = line 1 1 1 ∷ line 1 1 2 ∷ [];
    }

-- numbers wrap below 0, and division by 0 gives 0
abbrev pub wrap : Example
wrap =
    record {
      model =
          one_kind
          (say (minus (fixed 0) (fixed 1)) (say (over (fixed 7) (fixed 0)) (say (remains (fixed 7) (fixed 4)) stop)))
          ([] ∷ []) (0 ∷ []);
      end = 100;
      outside = message 1 0 0 0 0 ∷ [];
      count = 1;
      lines = line 0 0 4294967295 ∷ line 0 0 0 ∷ line 0 0 3 ∷ [];
    }

-- Each row of the table prints its lines.
abbrev pub WorkedModels : Type 0
WorkedModels = AllByRecursion Prints (echo ∷ rally ∷ sum ∷ fan ∷ wrap ∷ [])
