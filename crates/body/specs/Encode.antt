-- The words of expressions and of lines: the way back from what a row of words stands for.
use Rattle.std.specs.Prelude.{◌≡◌, ℕ, ◌≤◌, List, [], ◌∷◌, ◌++◌, length}
use Rattle.meaning.specs.Model.{Expr, fixed, var, it, me, clock, plus, minus, times, over, remains, less, same, Body, stop, assign, draw, say, send, branch, repeat}
use Rattle.body.specs.declared.ExprOp.{ExprOp}
use Rattle.body.specs.declared.LineOp.{LineOp}
use Rattle.body.specs.Code.{body_of, expr_op, expr_word, line_op, line_word}

-- The words of an expression: one for how it opens, then those of its parts in their order.
unfoldable pub encode_expr : Expr → List ℕ
encode_expr (fixed a) = 0 ∷ a ∷ []
encode_expr (var k) = 1 ∷ k ∷ []
encode_expr it = 2 ∷ []
encode_expr me = 3 ∷ []
encode_expr clock = 4 ∷ []
encode_expr (plus e f) = 5 ∷ encode_expr e ++ encode_expr f
encode_expr (minus e f) = 6 ∷ encode_expr e ++ encode_expr f
encode_expr (times e f) = 7 ∷ encode_expr e ++ encode_expr f
encode_expr (over e f) = 8 ∷ encode_expr e ++ encode_expr f
encode_expr (remains e f) = 9 ∷ encode_expr e ++ encode_expr f
encode_expr (less e f) = 10 ∷ encode_expr e ++ encode_expr f
encode_expr (same e f) = 11 ∷ encode_expr e ++ encode_expr f

-- The words of lines, a 0 at their end. A branch and a repeat say how many words the lines in them take.
unfoldable pub encode : Body → List ℕ
encode stop = 0 ∷ []
encode (assign k e b) = 1 ∷ k ∷ encode_expr e ++ encode b
encode (draw k e b) = 2 ∷ k ∷ encode_expr e ++ encode b
encode (say e b) = 3 ∷ encode_expr e ++ encode b
encode (send g f e b) = 4 ∷ encode_expr g ++ encode_expr f ++ encode_expr e ++ encode b
encode (branch e b c rest) = 5 ∷ length (encode b) ∷ length (encode c) ∷ encode_expr e ++ encode b ++ encode c ++ encode rest
encode (repeat e b rest) = 6 ∷ length (encode b) ∷ encode_expr e ++ encode b ++ encode rest

-- The words of lines stand for those lines, whatever stands behind them.
abbrev pub WordsDecode : Type 0
WordsDecode = (b : Body) (rest : List ℕ) (n : ℕ) → length (encode b) ≤ n → body_of n (encode b ++ rest) ≡ b

-- The word of each operation opens just that operation.
pub record OperationsBack : Type 0 where
  pub exprs : (op : ExprOp) → expr_op (expr_word op) ≡ op
  pub lines : (op : LineOp) → line_op (line_word op) ≡ op
