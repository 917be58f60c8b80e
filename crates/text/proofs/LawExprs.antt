-- Expressions and how they are written: each is got from the other.
use Rattle.std.proofs.Common.{◌≡◌, ℕ, true, false, not, ◌&&◌, List, [], length, get_or, codes, sym, refl, ap, ◌∙◌, ⊎_elim, arith}
use Rattle.std.proofs.lemmas.Bool.{both_ways, and_parts, and_from, or_cases, or_from, or_right, not-true, ltb-true, lt-ltb, cond-false, cond_both}
use Rattle.meaning.specs.Model.{Expr, fixed, var, it, me, clock, plus, minus, times, over, remains, less, same}
use Rattle.grammar.specs.Syntax as text
use Rattle.grammar.specs.Syntax.{is_name, is_word, among, reserved, every, Sign, Term, number, word, two, spelled_term}
use Rattle.grammar.specs.Check.{decimal, too_large, stand_ins}
use Rattle.grammar.specs.Rules.{distinct, right_term}
use Rattle.grammar.proofs.Words.{same_is, not_at}
use Rattle.grammar.proofs.Leaves.{name_operand}
use Rattle.text.specs.Named.{index_of, operation, expr, digits, term}
use Rattle.text.specs.Bounds.{bounded_expr}
use Rattle.text.proofs.Canonical.{decimal_digits, number_digits, digits_decimal}
use Rattle.text.proofs.LawNames.{index_in, at_index, among_at, index_at, every_at}

-- A name stands for the number of its place.
pub expr_name : (ns : List (List ℕ)) (w : List ℕ) → is_name w ≡ true → expr ns (word w) ≡ var (index_of w ns)
unfolding expr
expr_name ns w h =
    (let n = not-true (among w reserved) (and_parts (is_word w) (not (among w reserved)) h).1 in
    cond-false (text.same w (codes "it")) _ _ (not_at w reserved n 12 (omega arith)) ∙ cond-false (text.same w (codes "me")) _ _ (not_at w reserved n 13 (omega arith))
    ∙ cond-false (text.same w (codes "now")) _ _ (not_at w reserved n 14 (omega arith)))

-- A term that says e, and is taken.
pub record TermOf (ns : List (List ℕ)) (e : Expr) (t : Term) : Type 0 where
  pub says : expr ns t ≡ e
  pub spelled : spelled_term t ≡ true
  pub right : right_term ns t ≡ true

-- An operation, where each part has its term.
two_has : (ns : List (List ℕ)) (s : Sign) (e f : Expr) → (bounded_expr (length ns) e ≡ true → TermOf ns e (term ns e)) →
    (bounded_expr (length ns) f ≡ true → TermOf ns f (term ns f)) → (bounded_expr (length ns) e && bounded_expr (length ns) f) ≡ true →
    TermOf ns (operation s e f) (two s (term ns e) (term ns f))
unfolding expr spelled_term right_term
two_has ns s e f p q h =
    (let b = and_parts (bounded_expr (length ns) e) (bounded_expr (length ns) f) h in
    let x = p b.0 in
    let y = q b.1 in
    let m = x.says in
    let n = y.says in
    record {
      says = ap (λ z. operation s z (expr ns (term ns f))) m ∙ ap (operation s e) n;
      spelled = and_from (spelled_term (term ns e)) _ x.spelled y.spelled;
      right = and_from (right_term ns (term ns e)) _ x.right y.right;
    })

pub term_has : (ns : List (List ℕ)) → every is_name ns ≡ true → distinct ns ≡ true → (e : Expr) → bounded_expr (length ns) e ≡ true → TermOf ns e (term ns e)
unfolding bounded_expr term expr spelled_term right_term among text.same text.all
term_has ns names once (fixed a) h =
    (let l = ltb-true a too_large h in
    let d = decimal_digits a l in
    record { says = ap fixed d; spelled = number_digits a l; right = lt-ltb (decimal 0 (digits a)) too_large (omega arith) })
term_has ns names once (var k) h =
    (let l = ltb-true k (length ns) h in
    let w = every_at is_name ns [] k names l in
    record {
      says = expr_name ns (get_or ns k []) w ∙ ap var (index_at ns k once l);
      spelled = name_operand (get_or ns k []) w;
      right = or_right (among (get_or ns k []) stand_ins) (among (get_or ns k []) ns) (among_at ns k l);
    })
term_has ns names once it h = record { says = refl; spelled = refl; right = refl }
term_has ns names once me h = record { says = refl; spelled = refl; right = refl }
term_has ns names once clock h = record { says = refl; spelled = refl; right = refl }
term_has ns names once (plus e f) h = two_has ns text.plus e f (term_has ns names once e) (term_has ns names once f) h
term_has ns names once (minus e f) h = two_has ns text.minus e f (term_has ns names once e) (term_has ns names once f) h
term_has ns names once (times e f) h = two_has ns text.times e f (term_has ns names once e) (term_has ns names once f) h
term_has ns names once (over e f) h = two_has ns text.over e f (term_has ns names once e) (term_has ns names once f) h
term_has ns names once (remains e f) h = two_has ns text.remains e f (term_has ns names once e) (term_has ns names once f) h
term_has ns names once (less e f) h = two_has ns text.less e f (term_has ns names once e) (term_has ns names once f) h
term_has ns names once (same e f) h = two_has ns text.equal e f (term_has ns names once e) (term_has ns names once f) h

-- An expression that is in bounds, and is written as t.
pub record SaidAs (ns : List (List ℕ)) (t : Term) (e : Expr) : Type 0 where
  pub bounded : bounded_expr (length ns) e ≡ true
  pub written : term ns e ≡ t

two_said : (ns : List (List ℕ)) (s : Sign) (t u : Term) (e f : Expr) → SaidAs ns t e → SaidAs ns u f → SaidAs ns (two s t u) (operation s e f)
unfolding bounded_expr term
two_said ns s t u e f p q = by s
  where
    parts : (bounded_expr (length ns) e && bounded_expr (length ns) f) ≡ true
    parts = and_from (bounded_expr (length ns) e) (bounded_expr (length ns) f) p.bounded q.bounded

    terms : (s : Sign) → two s (term ns e) (term ns f) ≡ two s t u
    terms s = (let m = p.written in let n = q.written in cc)

    by : (s : Sign) → SaidAs ns (two s t u) (operation s e f)
    by text.plus = record { bounded = parts; written = terms text.plus }
    by text.minus = record { bounded = parts; written = terms text.minus }
    by text.times = record { bounded = parts; written = terms text.times }
    by text.over = record { bounded = parts; written = terms text.over }
    by text.remains = record { bounded = parts; written = terms text.remains }
    by text.less = record { bounded = parts; written = terms text.less }
    by text.equal = record { bounded = parts; written = terms text.equal }

word_said : (ns : List (List ℕ)) (w : List ℕ) → right_term ns (word w) ≡ true → SaidAs ns (word w) (expr ns (word w))
unfolding expr bounded_expr term right_term among
word_said ns w h =
    cond_both (text.same w (codes "it")) _ _ (SaidAs ns (word w)) (λ t. record { bounded = refl; written = ap word (sym (same_is w (codes "it") t)) }) (λ f₁.
    cond_both (text.same w (codes "me")) _ _ (SaidAs ns (word w)) (λ t. record { bounded = refl; written = ap word (sym (same_is w (codes "me") t)) }) (λ f₂.
    cond_both (text.same w (codes "now")) _ _ (SaidAs ns (word w)) (λ t. record { bounded = refl; written = ap word (sym (same_is w (codes "now") t)) }) (λ f₃.
    (let a = listed (or_from (text.same w (codes "it")) _ f₁ (or_from (text.same w (codes "me")) _ f₂ (or_from (text.same w (codes "now")) false f₃ refl))) in
    record { bounded = lt-ltb (index_of w ns) (length ns) (index_in w ns a); written = ap word (at_index w ns a) }))))
  where
    listed : among w stand_ins ≡ false → among w ns ≡ true
    listed f = ⊎_elim (λ t. absurd (both_ways (among w stand_ins) f t)) (λ t. t) (or_cases (among w stand_ins) (among w ns) h)

-- What a term that is taken says.
pub term_said : (ns : List (List ℕ)) (t : Term) → spelled_term t ≡ true → right_term ns t ≡ true → SaidAs ns t (expr ns t)
unfolding expr bounded_expr term right_term spelled_term
term_said ns (number ds) h r = record { bounded = r; written = ap number (digits_decimal ds h (ltb-true (decimal 0 ds) too_large r)) }
term_said ns (word w) h r = word_said ns w r
term_said ns (two s t u) h r =
    (let p = and_parts (spelled_term t) (spelled_term u) h in
    let q = and_parts (right_term ns t) (right_term ns u) r in
    two_said ns s t u (expr ns t) (expr ns u) (term_said ns t p.0 q.0) (term_said ns u p.1 q.1))
