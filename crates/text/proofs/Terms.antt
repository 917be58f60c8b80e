-- What is written of an expression, by how it opens.
use Rattle.std.proofs.Common.{◌≡◌, ℕ, zero, suc, ◌-◌, ◌<◌, true, false, eqb, ◌⊎◌, List, [], ◌∷◌, ◌++◌, map, length, get_or, drop, codes, sym, refl, ap, ◌∙◌, subst, inl, inr, sub-one, arith}
use Rattle.std.proofs.lemmas.Bool.{both_ways, eqb-true}
use Rattle.body.specs.declared.Binary.{Binary}
use Rattle.body.specs.declared.Binary.TheVariants.{Plus, Minus, Times, Over, Remains, Less, Same}
use Rattle.body.specs.declared.ExprOp.{ExprOp}
use Rattle.body.specs.declared.ExprOp.TheVariants.{Fixed, Var, It, Me, Clock, Two, Nothing}
use Rattle.body.specs.Code.{expr_of, expr_by, expr_op, of_two}
use Rattle.meaning.specs.Model.{Expr}
use Rattle.words.specs.Words.{unpack}
use Rattle.grammar.specs.Syntax.{two, show_term, sign_byte}
use Rattle.text.specs.Named.{digits, term}
use Rattle.text.specs.Written.{sign_of, term_bytes}
use Rattle.text.proofs.Words.{unpack_zero}

pub some_left : (a : ℕ) → false ≡ eqb a 0 → 0 < a
some_left zero p = absurd (both_ways true (sym p) refl)
some_left (suc a) p = omega arith

-- A name beyond the last has no bytes.
pub name_of : (names : List ℕ) (k : ℕ) → unpack (get_or names k 0) ≡ get_or (map unpack names) k []
name_of [] k = unpack_zero 8
name_of (p ∷ ps) zero = refl
name_of (p ∷ ps) (suc k) = name_of ps k

expr_step : (n : ℕ) (ws : List ℕ) → (n ≡ 0 → ⊥) → 0 < length ws → expr_of n ws ≡ expr_by (expr_op (get_or ws 0 0)) (expr_of (n - 1)) (drop 1 ws)
unfolding expr_of
expr_step zero ws h k = absurd (h refl)
expr_step (suc n) [] h k = absurd (omega arith)
expr_step (suc n) (w ∷ ws) h k = rw (sub-one) refl

term_two : (ns : List (List ℕ)) (b : Binary) (e f : Expr) → term ns (of_two b e f) ≡ two (sign_of b) (term ns e) (term ns f)
unfolding term
term_two ns Plus e f = refl
term_two ns Minus e f = refl
term_two ns Times e f = refl
term_two ns Over e f = refl
term_two ns Remains e f = refl
term_two ns Less e f = refl
term_two ns Same e f = refl

-- Where no word is left it is the number 0.
pub none_bytes : (names : List ℕ) (n : ℕ) (ws : List ℕ) → (n ≡ 0) ⊎ (true ≡ eqb (length ws) 0) → digits 0 ≡ term_bytes names n ws
unfolding expr_of term show_term
none_bytes names zero ws h = refl
none_bytes names (suc n) [] h = refl
none_bytes names (suc n) (v ∷ ws) (inl h) = absurd (omega arith)
none_bytes names (suc n) (v ∷ ws) (inr h) = absurd (omega (arith, eqb-true (length (v ∷ ws)) 0 (sym h)))

pub rest_all : (n : ℕ) (ws : List ℕ) → (n ≡ 0) ⊎ (true ≡ eqb (length ws) 0) → (expr_of n ws).rest ≡ ws
unfolding expr_of
rest_all zero ws h = refl
rest_all (suc n) [] h = refl
rest_all (suc n) (v ∷ ws) (inl h) = absurd (omega arith)
rest_all (suc n) (v ∷ ws) (inr h) = absurd (omega (arith, eqb-true (length (v ∷ ws)) 0 (sym h)))

-- What is written of an expression that opens by op; tail stands behind its first word.
module _ (names : List ℕ) (n : ℕ) (ws tail : List ℕ) (some : n ≡ 0 → ⊥) (left : false ≡ eqb (length ws) 0) (behind : tail ≡ drop 1 ws) where
  pub eq_of : (op : ExprOp) → op ≡ expr_op (get_or ws 0 0) → expr_of n ws ≡ expr_by op (expr_of (n - 1)) tail
  eq_of op e =
      subst (λ p. expr_of n ws ≡ expr_by p (expr_of (n - 1)) tail) (sym e)
      (subst (λ t. expr_of n ws ≡ expr_by (expr_op (get_or ws 0 0)) (expr_of (n - 1)) t) (sym behind) (expr_step n ws some (some_left (length ws) left)))

  -- What stands behind it.
  pub rest_one : (op : ExprOp) → op ≡ expr_op (get_or ws 0 0) → (op ≡ Fixed) ⊎ (op ≡ Var) → (expr_of n ws).rest ≡ drop 1 tail
  rest_one op e (inl h) = ap (λ x. x.rest) (eq_of Fixed (sym h ∙ e))
  rest_one op e (inr h) = ap (λ x. x.rest) (eq_of Var (sym h ∙ e))

  pub rest_none : (op : ExprOp) → op ≡ expr_op (get_or ws 0 0) → (op ≡ It) ⊎ ((op ≡ Me) ⊎ ((op ≡ Clock) ⊎ (op ≡ Nothing))) → (expr_of n ws).rest ≡ tail
  rest_none op e (inl h) = ap (λ x. x.rest) (eq_of It (sym h ∙ e))
  rest_none op e (inr (inl h)) = ap (λ x. x.rest) (eq_of Me (sym h ∙ e))
  rest_none op e (inr (inr (inl h))) = ap (λ x. x.rest) (eq_of Clock (sym h ∙ e))
  rest_none op e (inr (inr (inr h))) = ap (λ x. x.rest) (eq_of Nothing (sym h ∙ e))

  pub rest_two : {b : Binary} {middle rest : List ℕ} → Two b ≡ expr_op (get_or ws 0 0) → middle ≡ (expr_of (n - 1) tail).rest → rest ≡ (expr_of (n - 1) middle).rest → rest ≡ (expr_of n ws).rest
  rest_two {b} e f g = g ∙ ap (λ x. (expr_of (n - 1) x).rest) f ∙ ap (λ x. x.rest) (sym (eq_of (Two b) e))

  -- Its bytes.
  bytes_of : (op : ExprOp) → op ≡ expr_op (get_or ws 0 0) → show_term (term (map unpack names) (expr_by op (expr_of (n - 1)) tail).expr) ≡ term_bytes names n ws
  bytes_of op e = ap (λ x. show_term (term (map unpack names) x.expr)) (sym (eq_of op e))

  pub fixed_bytes : {v : ℕ} → Fixed ≡ expr_op (get_or ws 0 0) → v ≡ get_or tail 0 0 → digits v ≡ term_bytes names n ws
  unfolding term show_term
  fixed_bytes e p = ap digits p ∙ bytes_of Fixed e

  pub var_bytes : {k p : ℕ} → Var ≡ expr_op (get_or ws 0 0) → k ≡ get_or tail 0 0 → p ≡ get_or names k 0 → unpack p ≡ term_bytes names n ws
  unfolding term show_term
  var_bytes e h p = ap unpack p ∙ ap (λ j. unpack (get_or names j 0)) h ∙ name_of names (get_or tail 0 0) ∙ bytes_of Var e

  pub it_bytes : It ≡ expr_op (get_or ws 0 0) → codes "it" ≡ term_bytes names n ws
  unfolding term show_term
  it_bytes e = bytes_of It e

  pub me_bytes : Me ≡ expr_op (get_or ws 0 0) → codes "me" ≡ term_bytes names n ws
  unfolding term show_term
  me_bytes e = bytes_of Me e

  pub clock_bytes : Clock ≡ expr_op (get_or ws 0 0) → codes "now" ≡ term_bytes names n ws
  unfolding term show_term
  clock_bytes e = bytes_of Clock e

  pub nothing_bytes : Nothing ≡ expr_op (get_or ws 0 0) → digits 0 ≡ term_bytes names n ws
  unfolding term show_term
  nothing_bytes e = bytes_of Nothing e

-- Two expressions between parentheses, with a sign between them; ws stands behind the first word.
pub two_bytes : (names : List ℕ) (n : ℕ) (ws : List ℕ) (b : Binary) {s : ℕ} {middle : List ℕ} → s ≡ sign_byte (sign_of b) → middle ≡ (expr_of n ws).rest →
    show_term (term (map unpack names) (expr_by (Two b) (expr_of n) ws).expr)
    ≡ codes "(" ++ (term_bytes names n ws ++ (codes " " ++ ((s ∷ []) ++ (codes " " ++ (term_bytes names n middle ++ codes ")")))))
unfolding show_term
two_bytes names n ws b {s} {middle} q m =
    ap show_term (term_two (map unpack names) b (expr_of n ws).expr (expr_of n (expr_of n ws).rest).expr)
    ∙ ap (λ x. codes "(" ++ (term_bytes names n ws ++ (codes " " ++ ((sign_byte (sign_of b) ∷ []) ++ (codes " " ++ (term_bytes names n x ++ codes ")")))))) (sym m)
    ∙ ap (λ x. codes "(" ++ (term_bytes names n ws ++ (codes " " ++ ((x ∷ []) ++ (codes " " ++ (term_bytes names n middle ++ codes ")")))))) (sym q)
