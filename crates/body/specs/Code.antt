-- Lines and expressions as words: what a row of words stands for. Every row stands for something: words that are missing are 0,
-- and a word that opens no expression is the number 0, one that opens no line the end.
use Rattle.std.specs.Prelude.{◌≡◌, ℕ, zero, suc, ◌+◌, ◌-◌, ◌*◌, ◌/◌, ◌%◌, cond, List, [], ◌∷◌, drop, ◌==◌, nat_lt, slice_index}
use Rattle.meaning.specs.Model.{Expr, fixed, var, it, me, clock, plus, minus, times, over, remains, less, same, Body, stop, assign, draw, say, send, branch, repeat, in_whole, whole, value}
use Rattle.body.specs.declared.Event.{Event}
use Rattle.body.specs.declared.Binary.{Binary}
use Rattle.body.specs.declared.Binary.TheVariants.{Plus, Minus, Times, Over, Remains, Less, Same}
use Rattle.body.specs.declared.LineOp.{LineOp}
use Rattle.body.specs.declared.LineOp.TheVariants.{Stop, Do, Branch, Repeat}
use Rattle.body.specs.declared.Act.{Act}
use Rattle.body.specs.declared.Act.TheVariants.{Assign, Draw, Say, Send}
use Rattle.body.specs.declared.ExprOp.{ExprOp}
use Rattle.body.specs.declared.ExprOp.TheVariants.{Fixed, Var, It, Me, Clock, Two, Nothing}

-- How an expression opens.
abbrev pub expr_op : ℕ → ExprOp
expr_op w =
    cond (w == 0) Fixed (cond (w == 1) Var (cond (w == 2) It (cond (w == 3) Me (cond (w == 4) Clock
    (cond (w == 5) (Two Plus) (cond (w == 6) (Two Minus) (cond (w == 7) (Two Times) (cond (w == 8) (Two Over)
    (cond (w == 9) (Two Remains) (cond (w == 10) (Two Less) (cond (w == 11) (Two Same) Nothing)))))))))))

-- The word that opens an expression so; 12 is the first that opens none.
abbrev pub expr_word : ExprOp → ℕ
expr_word Fixed = 0
expr_word Var = 1
expr_word It = 2
expr_word Me = 3
expr_word Clock = 4
expr_word (Two Plus) = 5
expr_word (Two Minus) = 6
expr_word (Two Times) = 7
expr_word (Two Over) = 8
expr_word (Two Remains) = 9
expr_word (Two Less) = 10
expr_word (Two Same) = 11
expr_word Nothing = 12

-- The expression of two.
abbrev pub of_two : Binary → Expr → Expr → Expr
of_two Plus e f = plus e f
of_two Minus e f = minus e f
of_two Times e f = times e f
of_two Over e f = over e f
of_two Remains e f = remains e f
of_two Less e f = less e f
of_two Same e f = same e f

-- What two numbers come to.
abbrev pub binary_result : Binary → ℕ → ℕ → ℕ
binary_result Plus a b = in_whole (a + b)
binary_result Minus a b = in_whole (a + (whole - b))
binary_result Times a b = in_whole (a * b)
binary_result Over a b = cond (b == 0) 0 (a / b)
binary_result Remains a b = cond (b == 0) 0 (a % b)
binary_result Less a b = cond (nat_lt a b) 1 0
binary_result Same a b = cond (a == b) 1 0

-- An expression, and the words behind it.
pub record Read : Type 0 where
  pub expr : Expr
  pub rest : List ℕ

-- By how it opens; go reads an expression that is part of it.
abbrev pub expr_by : ExprOp → (List ℕ → Read) → List ℕ → Read
expr_by Fixed go ws = record { expr = fixed (slice_index ws 0); rest = drop 1 ws }
expr_by Var go ws = record { expr = var (slice_index ws 0); rest = drop 1 ws }
expr_by It go ws = record { expr = it; rest = ws }
expr_by Me go ws = record { expr = me; rest = ws }
expr_by Clock go ws = record { expr = clock; rest = ws }
expr_by (Two b) go ws = record { expr = of_two b (go ws).expr (go (go ws).rest).expr; rest = (go (go ws).rest).rest }
expr_by Nothing go ws = record { expr = fixed 0; rest = ws }

-- The expression at the front of the words, at most n deep.
unfoldable pub expr_of : ℕ → List ℕ → Read
expr_of zero ws = record { expr = fixed 0; rest = ws }
expr_of (suc n) [] = record { expr = fixed 0; rest = [] }
expr_of (suc n) (w ∷ ws) = expr_by (expr_op w) (expr_of n) ws

-- v is what the expression at the front of ws comes to, and rest is what stands behind it.
pub record Evaluated (vs : List ℕ) (e : Event) (n : ℕ) (ws : List ℕ) (v : ℕ) (rest : List ℕ) : Type 0 where
  pub value_is : v ≡ value vs e.it e.me e.clock (expr_of n ws).expr
  pub rest_is : rest ≡ (expr_of n ws).rest

-- How a line opens.
abbrev pub line_op : ℕ → LineOp
line_op w =
    cond (w == 1) (Do Assign) (cond (w == 2) (Do Draw) (cond (w == 3) (Do Say) (cond (w == 4) (Do Send) (cond (w == 5) Branch (cond (w == 6) Repeat Stop)))))

-- The word that opens a line so.
abbrev pub line_word : LineOp → ℕ
line_word Stop = 0
line_word (Do Assign) = 1
line_word (Do Draw) = 2
line_word (Do Say) = 3
line_word (Do Send) = 4
line_word Branch = 5
line_word Repeat = 6

-- A line with no lines in it, at the front of ws, and the lines behind it; ex reads an expression, go lines.
abbrev pub act_by : Act → (List ℕ → Read) → (List ℕ → Body) → List ℕ → Body
act_by Assign ex go ws = assign (slice_index ws 0) (ex (drop 1 ws)).expr (go (ex (drop 1 ws)).rest)
act_by Draw ex go ws = draw (slice_index ws 0) (ex (drop 1 ws)).expr (go (ex (drop 1 ws)).rest)
act_by Say ex go ws = say (ex ws).expr (go (ex ws).rest)
act_by Send ex go ws =
    send (ex ws).expr (ex (ex ws).rest).expr (ex (ex (ex ws).rest).rest).expr (go (ex (ex (ex ws).rest).rest).rest)

-- Lines by how the first opens. A branch has behind its first word how many words its two parts take, a repeat how many its part takes.
abbrev pub body_by : LineOp → (List ℕ → Read) → (List ℕ → Body) → List ℕ → Body
body_by Stop ex go ws = stop
body_by (Do a) ex go ws = act_by a ex go ws
body_by Branch ex go ws =
    branch (ex (drop 2 ws)).expr (go (ex (drop 2 ws)).rest) (go (drop (slice_index ws 0) (ex (drop 2 ws)).rest))
    (go (drop (slice_index ws 1) (drop (slice_index ws 0) (ex (drop 2 ws)).rest)))
body_by Repeat ex go ws =
    repeat (ex (drop 1 ws)).expr (go (ex (drop 1 ws)).rest) (go (drop (slice_index ws 0) (ex (drop 1 ws)).rest))

-- The lines at the front of the words, at most n of them and in each other.
unfoldable pub body_of : ℕ → List ℕ → Body
body_of zero ws = stop
body_of (suc n) [] = stop
body_of (suc n) (w ∷ ws) = body_by (line_op w) (expr_of n) (body_of n) ws
