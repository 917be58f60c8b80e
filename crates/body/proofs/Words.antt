-- Equations of the words' meaning, by which the code's answers go.
use Rattle.std.proofs.Common.{◌≡◌, ℕ, zero, suc, ◌-◌, ◌%◌, ◌<◌, true, false, eqb, ◌⊎◌, List, [], ◌∷◌, length, get_or, drop, sym, refl, ap, ◌∙◌, subst, inl, inr, sub-one, arith}
use Rattle.std.proofs.lemmas.Bool.{both_ways, eqb-true}
use Rattle.body.specs.declared.Event.{Event}
use Rattle.body.specs.declared.ExprOp.{ExprOp}
use Rattle.body.specs.declared.ExprOp.TheVariants.{Fixed, Var, It, Me, Clock, Two, Nothing}
use Rattle.meaning.specs.Model.{Expr, value, in_whole}
use Rattle.body.specs.declared.Binary.{Binary}
use Rattle.body.specs.declared.Binary.TheVariants.{Plus, Minus, Times, Over, Remains, Less, Same}
use Rattle.body.specs.Code.{expr_of, expr_by, expr_op, of_two, binary_result, Evaluated}

pub small : (a : ℕ) → a < 4294967296 → in_whole a ≡ a
unfolding in_whole
small a h = omega arith

pub wraps : (a : ℕ) → in_whole a ≡ a % 4294967296
unfolding in_whole
wraps a = refl

pub expr_step : (n : ℕ) (ws : List ℕ) → (n ≡ 0 → ⊥) → 0 < length ws → expr_of n ws ≡ expr_by (expr_op (get_or ws 0 0)) (expr_of (n - 1)) (drop 1 ws)
unfolding expr_of
expr_step zero ws h k = absurd (h refl)
expr_step (suc n) [] h k = absurd (omega arith)
expr_step (suc n) (w ∷ ws) h k = rw (sub-one) refl

pub expr_none : (n : ℕ) → (expr_of n []).rest ≡ []
unfolding expr_of
expr_none zero = refl
expr_none (suc n) = refl

pub value_two : (vs : List ℕ) (i m n : ℕ) (b : Binary) (e f : Expr) →
    value vs i m n (of_two b e f) ≡ binary_result b (value vs i m n e) (value vs i m n f)
unfolding value
value_two vs i m n Plus e f = refl
value_two vs i m n Minus e f = refl
value_two vs i m n Times e f = refl
value_two vs i m n Over e f = refl
value_two vs i m n Remains e f = refl
value_two vs i m n Less e f = refl
value_two vs i m n Same e f = refl

pub some_left : (a : ℕ) → false ≡ eqb a 0 → 0 < a
some_left zero p = absurd (both_ways true (sym p) refl)
some_left (suc a) p = omega arith

-- An expression whose first word is known by how it opens.
pub opens : (n : ℕ) (ws : List ℕ) (op : ExprOp) → (n ≡ 0 → ⊥) → false ≡ eqb (length ws) 0 → op ≡ expr_op (get_or ws 0 0) →
    expr_of n ws ≡ expr_by op (expr_of (n - 1)) (drop 1 ws)
opens n ws op h k e =
    subst (λ o. expr_of n ws ≡ expr_by o (expr_of (n - 1)) (drop 1 ws)) (sym e) (expr_step n ws h (some_left (length ws) k))

pub none_left : (vs : List ℕ) (s : Event) (n : ℕ) (ws : List ℕ) → (n ≡ 0) ⊎ (true ≡ eqb (length ws) 0) → Evaluated vs s n ws 0 ws
unfolding expr_of value in_whole
none_left vs s zero ws h = record { value_is = refl; rest_is = refl }
none_left vs s (suc n) [] h = record { value_is = refl; rest_is = refl }
none_left vs s (suc n) (w ∷ ws) (inl h) = absurd (omega arith)
none_left vs s (suc n) (w ∷ ws) (inr h) = absurd (omega (arith, eqb-true (length (w ∷ ws)) 0 (sym h)))

-- What an expression that opens by op comes to, arm by arm; tail stands behind its first word.
module _ (vs : List ℕ) (s : Event) (n : ℕ) (ws tail : List ℕ) (some : n ≡ 0 → ⊥) (left : false ≡ eqb (length ws) 0) (behind : tail ≡ drop 1 ws) where
  eq_of : (op : ExprOp) → op ≡ expr_op (get_or ws 0 0) → expr_of n ws ≡ expr_by op (expr_of (n - 1)) tail
  eq_of op e = subst (λ t. expr_of n ws ≡ expr_by op (expr_of (n - 1)) t) (sym behind) (opens n ws op some left e)

  finished : (op : ExprOp) → op ≡ expr_op (get_or ws 0 0) → (v : ℕ) (rest : List ℕ) →
      v ≡ value vs s.it s.me s.clock (expr_by op (expr_of (n - 1)) tail).expr → rest ≡ (expr_by op (expr_of (n - 1)) tail).rest → Evaluated vs s n ws v rest
  finished op e v rest p q =
      record {
        value_is = p ∙ ap (λ r. value vs s.it s.me s.clock r.expr) (sym (eq_of op e));
        rest_is = q ∙ ap (λ r. r.rest) (sym (eq_of op e));
      }

  pub at_fixed : Fixed ≡ expr_op (get_or ws 0 0) → (v : ℕ) → v ≡ get_or tail 0 0 → v < 4294967296 → (rest : List ℕ) → rest ≡ drop 1 tail → Evaluated vs s n ws v rest
  unfolding value
  at_fixed e v p h rest q = finished Fixed e v rest (p ∙ sym (small (get_or tail 0 0) (subst (λ x. x < 4294967296) p h))) q

  pub at_var : Var ≡ expr_op (get_or ws 0 0) → (k v : ℕ) → k ≡ get_or tail 0 0 → v ≡ get_or vs k 0 → (rest : List ℕ) → rest ≡ drop 1 tail → Evaluated vs s n ws v rest
  unfolding value
  at_var e k v p h rest q = finished Var e v rest (h ∙ ap (λ j. get_or vs j 0) p) q

  pub at_it : It ≡ expr_op (get_or ws 0 0) → s.it < 4294967296 → Evaluated vs s n ws s.it tail
  unfolding value
  at_it e h = finished It e s.it tail (sym (small s.it h)) refl

  pub at_me : Me ≡ expr_op (get_or ws 0 0) → s.me < 4294967296 → Evaluated vs s n ws s.me tail
  unfolding value
  at_me e h = finished Me e s.me tail (sym (small s.me h)) refl

  pub at_clock : Clock ≡ expr_op (get_or ws 0 0) → s.clock < 4294967296 → Evaluated vs s n ws s.clock tail
  unfolding value
  at_clock e h = finished Clock e s.clock tail (sym (small s.clock h)) refl

  pub at_nothing : Nothing ≡ expr_op (get_or ws 0 0) → Evaluated vs s n ws 0 tail
  unfolding value in_whole
  at_nothing e = finished Nothing e 0 tail refl refl

  pub at_two : (b : Binary) → Two b ≡ expr_op (get_or ws 0 0) → (x y v : ℕ) (middle rest : List ℕ) →
      Evaluated vs s (n - 1) tail x middle → Evaluated vs s (n - 1) middle y rest → v ≡ binary_result b x y → Evaluated vs s n ws v rest
  at_two b e x y v middle rest p q r =
      finished (Two b) e v rest
      (cc (value_two vs s.it s.me s.clock b (expr_of (n - 1) tail).expr (expr_of (n - 1) (expr_of (n - 1) tail).rest).expr))
      (cc)

-- The same variables, lent once more.
pub same_vars : {us vs : List ℕ} {e : Event} {n v : ℕ} {ws rest : List ℕ} → us ≡ drop 0 vs → Evaluated us e n ws v rest → Evaluated vs e n ws v rest
same_vars {us} {vs} {e} {n} {v} {ws} {rest} p q = subst (λ zs. Evaluated zs e n ws v rest) p q
