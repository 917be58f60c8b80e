-- What is written of lines, by how the first opens.
use Rattle.std.proofs.Common.{◌≡◌, ℕ, zero, suc, ◌-◌, ◌<◌, true, false, eqb, ◌⊎◌, List, [], ◌∷◌, ◌++◌, map, length, get_or, drop, codes, sym, refl, ap, ◌∙◌, subst, inl, inr, sub-one, arith}
use Rattle.std.proofs.lemmas.Bool.{both_ways}
use Rattle.body.specs.declared.Act.TheVariants.{Assign, Draw, Say, Send}
use Rattle.body.specs.declared.LineOp.{LineOp}
use Rattle.body.specs.declared.LineOp.TheVariants.{Stop, Do, Branch, Repeat}
use Rattle.body.specs.Code.{expr_of, body_of, body_by, line_op}
use Rattle.meaning.specs.Model.{Expr, Body, stop, assign, draw, say, send, branch, repeat}
use Rattle.words.specs.Words.{unpack}
use Rattle.grammar.specs.Syntax as text
use Rattle.grammar.specs.Syntax.{Term, Lines, show_term, show_lines, newline}
use Rattle.text.specs.Named.{term, lines, branched}
use Rattle.text.specs.Written.{else_head, term_bytes, lines_bytes, opened_bytes}
use Rattle.text.proofs.Terms.{name_of}

body_step : (n : ℕ) (ws : List ℕ) (w : ℕ) (tail : List ℕ) → 0 < n → ws ≡ w ∷ tail → body_of n ws ≡ body_by (line_op w) (expr_of (n - 1)) (body_of (n - 1)) tail
unfolding body_of
body_step zero ws w tail h e = absurd (omega arith)
body_step (suc n) [] w tail h e = cc
body_step (suc n) (v ∷ ws) w tail h e = ap (λ x. body_of (suc n) x) e ∙ rw sub-one refl

-- Some words are a first and those behind it.
pub front_of : (ws : List ℕ) → false ≡ eqb (length ws) 0 → ws ≡ get_or ws 0 0 ∷ drop 1 ws
front_of [] e = absurd (both_ways true (sym e) refl)
front_of (w ∷ ws) e = refl

-- Where no word is left there are no lines.
pub no_body : (n : ℕ) (ws : List ℕ) → (n ≡ 0) ⊎ (length ws ≡ 0) → body_of n ws ≡ stop
unfolding body_of
no_body zero ws h = refl
no_body (suc n) [] h = refl
no_body (suc n) (w ∷ ws) (inl h) = absurd (omega (arith, h))
no_body (suc n) (w ∷ ws) (inr h) = absurd (omega (arith, h))

pub no_lines : (names : List ℕ) (b : Body) → b ≡ stop → show_lines (lines (map unpack names) b) ≡ []
unfolding lines show_lines
no_lines names b e = ap (λ x. show_lines (lines (map unpack names) x)) e

-- What stands before the lines of an else, by how they are written.
head_of : Lines → List ℕ
head_of text.none = []
head_of (text.assign w t ls) = codes "else\n"
head_of (text.draw w t ls) = codes "else\n"
head_of (text.say t ls) = codes "else\n"
head_of (text.send t u v ls) = codes "else\n"
head_of (text.when t b ls) = codes "else\n"
head_of (text.choose t b c ls) = codes "else\n"
head_of (text.again t b ls) = codes "else\n"

show_branched : (t : Term) (b c ls : Lines) →
    show_lines (branched t b c ls)
    ≡ codes "if " ++ (show_term t ++ (newline ++ (show_lines b ++ (head_of c ++ (show_lines c ++ (codes "end\n" ++ show_lines ls))))))
unfolding show_lines head_of
show_branched t b text.none ls = refl
show_branched t b (text.assign w u c) ls = refl
show_branched t b (text.draw w u c) ls = refl
show_branched t b (text.say u c) ls = refl
show_branched t b (text.send u v w c) ls = refl
show_branched t b (text.when u v c) ls = refl
show_branched t b (text.choose u v w c) ls = refl
show_branched t b (text.again u v c) ls = refl

head_branched : (t : Term) (b c ls : Lines) → head_of (branched t b c ls) ≡ codes "else\n"
unfolding head_of
head_branched t b text.none ls = refl
head_branched t b (text.assign w u c) ls = refl
head_branched t b (text.draw w u c) ls = refl
head_branched t b (text.say u c) ls = refl
head_branched t b (text.send u v w c) ls = refl
head_branched t b (text.when u v c) ls = refl
head_branched t b (text.choose u v w c) ls = refl
head_branched t b (text.again u v c) ls = refl

head_lines : (ns : List (List ℕ)) (c : Body) → head_of (lines ns c) ≡ else_head c
unfolding head_of lines
head_lines ns stop = refl
head_lines ns (assign k e b) = refl
head_lines ns (draw k e b) = refl
head_lines ns (say e b) = refl
head_lines ns (send g f e b) = refl
head_lines ns (branch e b c rest) = head_branched (term ns e) (lines ns b) (lines ns c) (lines ns rest)
head_lines ns (repeat e b rest) = refl

show_branch : (ns : List (List ℕ)) (e : Expr) (b c rest : Body) →
    show_lines (lines ns (branch e b c rest))
    ≡ codes "if " ++ (show_term (term ns e) ++ (newline ++ (show_lines (lines ns b) ++ (else_head c ++ (show_lines (lines ns c) ++ (codes "end\n" ++ show_lines (lines ns rest)))))))
unfolding lines
show_branch ns e b c rest =
    show_branched (term ns e) (lines ns b) (lines ns c) (lines ns rest)
    ∙ ap (λ h. codes "if " ++ (show_term (term ns e) ++ (newline ++ (show_lines (lines ns b) ++ (h ++ (show_lines (lines ns c) ++ (codes "end\n" ++ show_lines (lines ns rest)))))))) (head_lines ns c)

-- The bytes of lines, by how the first opens; ws stands behind its first word, and rest is what its last expression or its lines leave.
module _ (names : List ℕ) (n : ℕ) (ws : List ℕ) where
  pub assign_bytes : {v rest : List ℕ} {k p : ℕ} → k ≡ get_or ws 0 0 → p ≡ get_or names k 0 → v ≡ drop 1 ws → rest ≡ (expr_of n v).rest →
      opened_bytes names (Do Assign) n ws ≡ unpack p ++ (codes " = " ++ (term_bytes names n v ++ (newline ++ lines_bytes names n rest)))
  unfolding lines show_lines
  assign_bytes {v} {rest} {k} {p} h g e f =
      let q : get_or (map unpack names) (get_or ws 0 0) [] ≡ unpack p = sym (ap unpack g ∙ ap (λ j. unpack (get_or names j 0)) h ∙ name_of names (get_or ws 0 0)) in
      let r : rest ≡ (expr_of n (drop 1 ws)).rest = cc in
      ap (λ x. x ++ (codes " = " ++ (term_bytes names n (drop 1 ws) ++ (newline ++ lines_bytes names n (expr_of n (drop 1 ws)).rest)))) q
      ∙ ap (λ x. unpack p ++ (codes " = " ++ (term_bytes names n x ++ (newline ++ lines_bytes names n (expr_of n (drop 1 ws)).rest)))) (sym e)
      ∙ ap (λ x. unpack p ++ (codes " = " ++ (term_bytes names n v ++ (newline ++ lines_bytes names n x)))) (sym r)

  pub draw_bytes : {v rest : List ℕ} {k p : ℕ} → k ≡ get_or ws 0 0 → p ≡ get_or names k 0 → v ≡ drop 1 ws → rest ≡ (expr_of n v).rest →
      opened_bytes names (Do Draw) n ws ≡ unpack p ++ (codes " = draw " ++ (term_bytes names n v ++ (newline ++ lines_bytes names n rest)))
  unfolding lines show_lines
  draw_bytes {v} {rest} {k} {p} h g e f =
      let q : get_or (map unpack names) (get_or ws 0 0) [] ≡ unpack p = sym (ap unpack g ∙ ap (λ j. unpack (get_or names j 0)) h ∙ name_of names (get_or ws 0 0)) in
      let r : rest ≡ (expr_of n (drop 1 ws)).rest = cc in
      ap (λ x. x ++ (codes " = draw " ++ (term_bytes names n (drop 1 ws) ++ (newline ++ lines_bytes names n (expr_of n (drop 1 ws)).rest)))) q
      ∙ ap (λ x. unpack p ++ (codes " = draw " ++ (term_bytes names n x ++ (newline ++ lines_bytes names n (expr_of n (drop 1 ws)).rest)))) (sym e)
      ∙ ap (λ x. unpack p ++ (codes " = draw " ++ (term_bytes names n v ++ (newline ++ lines_bytes names n x)))) (sym r)

  pub say_bytes : {rest : List ℕ} → rest ≡ (expr_of n ws).rest →
      opened_bytes names (Do Say) n ws ≡ codes "say " ++ (term_bytes names n ws ++ (newline ++ lines_bytes names n rest))
  unfolding lines show_lines
  say_bytes f = ap (λ x. codes "say " ++ (term_bytes names n ws ++ (newline ++ lines_bytes names n x))) (sym f)

  pub send_bytes : {second third rest : List ℕ} → second ≡ (expr_of n ws).rest → third ≡ (expr_of n second).rest → rest ≡ (expr_of n third).rest →
      opened_bytes names (Do Send) n ws
      ≡ codes "send " ++ (term_bytes names n third ++ (codes " to " ++ (term_bytes names n second ++ (codes " after " ++ (term_bytes names n ws ++ (newline ++ lines_bytes names n rest))))))
  unfolding lines show_lines
  send_bytes {second} {third} {rest} e f g =
      let all : List ℕ → List ℕ → List ℕ → List ℕ =
      λ x y z. codes "send " ++ (term_bytes names n y ++ (codes " to " ++ (term_bytes names n x ++ (codes " after " ++ (term_bytes names n ws ++ (newline ++ lines_bytes names n z)))))) in
      sym (ap (λ z. all second third z) g ∙ ap (λ y. all second y (expr_of n y).rest) f ∙ ap (λ x. all x (expr_of n x).rest (expr_of n (expr_of n x).rest).rest) e)

  pub branch_bytes : {v then otherwise rest : List ℕ} {j k : ℕ} → v ≡ drop 2 ws → then ≡ (expr_of n v).rest → j ≡ get_or ws 0 0 → otherwise ≡ drop j then →
      k ≡ get_or ws 1 0 → rest ≡ drop k otherwise →
      opened_bytes names Branch n ws
      ≡ codes "if " ++ (term_bytes names n v ++ (newline ++ (lines_bytes names n then ++ (else_head (body_of n otherwise) ++ (lines_bytes names n otherwise
      ++ (codes "end\n" ++ lines_bytes names n rest))))))
  branch_bytes {v} {then} {otherwise} {rest} {j} {k} e t a f b g =
      let all : List ℕ → List ℕ → List ℕ → List ℕ → List ℕ =
      λ x y z w. codes "if " ++ (term_bytes names n x ++ (newline ++ (lines_bytes names n y ++ (else_head (body_of n z) ++ (lines_bytes names n z ++ (codes "end\n" ++ lines_bytes names n w)))))) in
      let y : then ≡ (expr_of n (drop 2 ws)).rest = t ∙ ap (λ x. (expr_of n x).rest) e in
      let z : otherwise ≡ drop (get_or ws 0 0) (expr_of n (drop 2 ws)).rest = f ∙ ap (λ m. drop m then) a ∙ ap (λ x. drop (get_or ws 0 0) x) y in
      let w : rest ≡ drop (get_or ws 1 0) (drop (get_or ws 0 0) (expr_of n (drop 2 ws)).rest) = g ∙ ap (λ m. drop m otherwise) b ∙ ap (λ x. drop (get_or ws 1 0) x) z in
      show_branch (map unpack names) (expr_of n (drop 2 ws)).expr (body_of n (expr_of n (drop 2 ws)).rest)
      (body_of n (drop (get_or ws 0 0) (expr_of n (drop 2 ws)).rest)) (body_of n (drop (get_or ws 1 0) (drop (get_or ws 0 0) (expr_of n (drop 2 ws)).rest)))
      ∙ sym (ap (λ x. all x then otherwise rest) e ∙ ap (λ x. all (drop 2 ws) x otherwise rest) y ∙ ap (λ x. all (drop 2 ws) (expr_of n (drop 2 ws)).rest x rest) z
      ∙ ap (λ x. all (drop 2 ws) (expr_of n (drop 2 ws)).rest (drop (get_or ws 0 0) (expr_of n (drop 2 ws)).rest) x) w)

  pub repeat_bytes : {v body rest : List ℕ} {j : ℕ} → v ≡ drop 1 ws → body ≡ (expr_of n v).rest → j ≡ get_or ws 0 0 → rest ≡ drop j body →
      opened_bytes names Repeat n ws
      ≡ codes "again " ++ (term_bytes names n v ++ (newline ++ (lines_bytes names n body ++ (codes "end\n" ++ lines_bytes names n rest))))
  unfolding lines show_lines
  repeat_bytes {v} {body} {rest} {j} e t a f =
      let all : List ℕ → List ℕ → List ℕ → List ℕ =
      λ x y w. codes "again " ++ (term_bytes names n x ++ (newline ++ (lines_bytes names n y ++ (codes "end\n" ++ lines_bytes names n w)))) in
      let y : body ≡ (expr_of n (drop 1 ws)).rest = t ∙ ap (λ x. (expr_of n x).rest) e in
      let w : rest ≡ drop (get_or ws 0 0) (expr_of n (drop 1 ws)).rest = f ∙ ap (λ m. drop m body) a ∙ ap (λ x. drop (get_or ws 0 0) x) y in
      sym (ap (λ x. all x body rest) e ∙ ap (λ x. all (drop 1 ws) x rest) y ∙ ap (λ x. all (drop 1 ws) (expr_of n (drop 1 ws)).rest x) w)

-- Lines whose first opens by op; tail stands behind its first word.
module _ (names : List ℕ) (n : ℕ) (ws : List ℕ) (w : ℕ) (tail : List ℕ) (some : 0 < n) (front : ws ≡ w ∷ tail) where
  opened : (op : LineOp) → op ≡ line_op w → body_of n ws ≡ body_by op (expr_of (n - 1)) (body_of (n - 1)) tail
  opened op p = subst (λ x. body_of n ws ≡ body_by x (expr_of (n - 1)) (body_of (n - 1)) tail) (sym p) (body_step n ws w tail some front)

  pub is_stop : Stop ≡ line_op w → body_of n ws ≡ stop
  is_stop p = opened Stop p

  pub else_some : (op : LineOp) → op ≡ line_op w → (op ≡ Stop → ⊥) → else_head (body_of n ws) ≡ codes "else\n"
  else_some Stop p h = absurd (h refl)
  else_some (Do Assign) p h = ap else_head (opened (Do Assign) p)
  else_some (Do Draw) p h = ap else_head (opened (Do Draw) p)
  else_some (Do Say) p h = ap else_head (opened (Do Say) p)
  else_some (Do Send) p h = ap else_head (opened (Do Send) p)
  else_some Branch p h = ap else_head (opened Branch p)
  else_some Repeat p h = ap else_head (opened Repeat p)

  -- Their bytes.
  pub opened_are : (op : LineOp) → op ≡ line_op w → lines_bytes names n ws ≡ opened_bytes names op (n - 1) tail
  opened_are op p = ap (λ b. show_lines (lines (map unpack names) b)) (opened op p)
