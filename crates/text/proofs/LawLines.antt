-- Lines and what they say: each is got from the other, but that an else with no lines is left out.
use Rattle.std.proofs.Common.{◌≡◌, ℕ, true, ◌&&◌, ltb, ◌⊎◌, List, [], length, get_or, sym, refl, ap, ◌∙◌, subst, inl, inr, ⊎_elim}
use native.Mathlib.Nat.{max-zero}
use Rattle.std.proofs.lemmas.Bool.{and_parts, and_from, ltb-true, lt-ltb}
use Rattle.meaning.specs.Model.{Expr, Body, stop, assign, draw, say, send, branch, repeat}
use Rattle.grammar.specs.Syntax as text
use Rattle.grammar.specs.Syntax.{is_name, among, every, Term, Lines, spelled_term, spelled_lines}
use Rattle.grammar.specs.Rules.{distinct, right_term, right_lines, depth}
use Rattle.text.specs.Named.{index_of, expr, body, term, branched, lines}
use Rattle.text.specs.Bounds.{bounded_expr, bounded_body, body_depth}
use Rattle.text.proofs.LawNames.{index_in, at_index, among_at, index_at, every_at}
use Rattle.text.proofs.LawExprs.{TermOf, term_has, term_said}

-- A branch has no else, or it has the one that is given.
pub branched_is : (t : Term) (b c ls : Lines) → ((c ≡ text.none) × (branched t b c ls ≡ text.when t b ls)) ⊎ (branched t b c ls ≡ text.choose t b c ls)
branched_is t b text.none ls = inl (refl, refl)
branched_is t b (text.assign w u c) ls = inr refl
branched_is t b (text.draw w u c) ls = inr refl
branched_is t b (text.say u c) ls = inr refl
branched_is t b (text.send u v w c) ls = inr refl
branched_is t b (text.when u v c) ls = inr refl
branched_is t b (text.choose u v w c) ls = inr refl
branched_is t b (text.again u v c) ls = inr refl

-- Lines that say b, and are taken.
pub record LinesOf (ns : List (List ℕ)) (b : Body) (ls : Lines) : Type 0 where
  pub says : body ns ls ≡ b
  pub spelled : spelled_lines ls ≡ true
  pub right : right_lines ns ls ≡ true

-- A name that is the one at k.
record NameOf (ns : List (List ℕ)) (k : ℕ) (w : List ℕ) : Type 0 where
  place : index_of w ns ≡ k
  name : is_name w ≡ true
  listed : among w ns ≡ true

name_has : (ns : List (List ℕ)) → every is_name ns ≡ true → distinct ns ≡ true → (k : ℕ) → ltb k (length ns) ≡ true → NameOf ns k (get_or ns k [])
name_has ns names once k h =
    (let l = ltb-true k (length ns) h in record { place = index_at ns k once l; name = every_at is_name ns [] k names l; listed = among_at ns k l })

module _ (ns : List (List ℕ)) (names : every is_name ns ≡ true) (once : distinct ns ≡ true) where
  branch_has : (e : Expr) (b c rest : Body) (t : Term) (lb lc ls : Lines) → TermOf ns e t → LinesOf ns b lb → LinesOf ns c lc → LinesOf ns rest ls →
      LinesOf ns (branch e b c rest) (branched t lb lc ls)
  unfolding body spelled_lines right_lines
  branch_has e b c rest t lb lc ls x y z v =
      (let p = x.says in
      let q = y.says in
      let r = z.says in
      let s = v.says in
      ⊎_elim (λ n. subst (LinesOf ns (branch e b c rest)) (sym n.1) (record {
        says = (let m = sym (ap (body ns) n.0) in cc);
        spelled = and_from (spelled_term t) _ x.spelled (and_from (spelled_lines lb) _ y.spelled v.spelled);
        right = and_from (right_term ns t) _ x.right (and_from (right_lines ns lb) _ y.right v.right);
      })) (λ n. subst (LinesOf ns (branch e b c rest)) (sym n) (record {
        says = cc;
        spelled =
            and_from (spelled_term t) _ x.spelled
            (and_from (spelled_lines lb) _ y.spelled (and_from (spelled_lines lc) _ z.spelled v.spelled));
        right =
            and_from (right_term ns t) _ x.right (and_from (right_lines ns lb) _ y.right (and_from (right_lines ns lc) _ z.right v.right));
      })) (branched_is t lb lc ls))

  -- A line that gives one of the kind's numbers a value.
  sets_has : (f : ℕ → Expr → Body → Body) (g : List ℕ → Term → Lines → Lines) →
      ((w : List ℕ) (t : Term) (ls : Lines) → (body ns (g w t ls) ≡ f (index_of w ns) (expr ns t) (body ns ls))
      × (spelled_lines (g w t ls) ≡ (is_name w && (spelled_term t && spelled_lines ls)))
      × (right_lines ns (g w t ls) ≡ (among w ns && (right_term ns t && right_lines ns ls)))) →
      (k : ℕ) (e : Expr) (b : Body) → (ltb k (length ns) && (bounded_expr (length ns) e && bounded_body (length ns) b)) ≡ true →
      (bounded_body (length ns) b ≡ true → LinesOf ns b (lines ns b)) → LinesOf ns (f k e b) (g (get_or ns k []) (term ns e) (lines ns b))
  sets_has f g law k e b h more =
      (let p = and_parts (ltb k (length ns)) _ h in
      let q = and_parts (bounded_expr (length ns) e) (bounded_body (length ns) b) p.1 in
      let w = name_has ns names once k p.0 in
      let x = term_has ns names once e q.0 in
      let y = more q.1 in
      let z = law (get_or ns k []) (term ns e) (lines ns b) in
      let i = w.place in
      let j = x.says in
      let l = y.says in
      record {
        says = z.0 ∙ cc;
        spelled = z.1 ∙ and_from (is_name (get_or ns k [])) _ w.name (and_from (spelled_term (term ns e)) _ x.spelled y.spelled);
        right = z.2 ∙ and_from (among (get_or ns k []) ns) _ w.listed (and_from (right_term ns (term ns e)) _ x.right y.right);
      })

  pub lines_has : (b : Body) → bounded_body (length ns) b ≡ true → LinesOf ns b (lines ns b)
  unfolding bounded_body lines body spelled_lines right_lines
  lines_has stop h = record { says = refl; spelled = refl; right = refl }
  lines_has (assign k e b) h = sets_has assign text.assign (λ w t ls. (refl, refl, refl)) k e b h (lines_has b)
  lines_has (draw k e b) h = sets_has draw text.draw (λ w t ls. (refl, refl, refl)) k e b h (lines_has b)
  lines_has (say e b) h =
      (let q = and_parts (bounded_expr (length ns) e) (bounded_body (length ns) b) h in
      let x = term_has ns names once e q.0 in
      let y = lines_has b q.1 in
      let j = x.says in
      let l = y.says in
      record {
        says = cc;
        spelled = and_from (spelled_term (term ns e)) _ x.spelled y.spelled;
        right = and_from (right_term ns (term ns e)) _ x.right y.right;
      })
  lines_has (send g f e b) h =
      (let p = and_parts (bounded_expr (length ns) g) _ h in
      let q = and_parts (bounded_expr (length ns) f) _ p.1 in
      let r = and_parts (bounded_expr (length ns) e) (bounded_body (length ns) b) q.1 in
      let u = term_has ns names once g p.0 in
      let v = term_has ns names once f q.0 in
      let x = term_has ns names once e r.0 in
      let y = lines_has b r.1 in
      let i = u.says in
      let j = v.says in
      let k = x.says in
      let l = y.says in
      record {
        says = cc;
        spelled =
            and_from (spelled_term (term ns e)) _ x.spelled
            (and_from (spelled_term (term ns f)) _ v.spelled (and_from (spelled_term (term ns g)) _ u.spelled y.spelled));
        right =
            and_from (right_term ns (term ns e)) _ x.right
            (and_from (right_term ns (term ns f)) _ v.right (and_from (right_term ns (term ns g)) _ u.right y.right));
      })
  lines_has (branch e b c rest) h =
      (let p = and_parts (bounded_expr (length ns) e) _ h in
      let q = and_parts (bounded_body (length ns) b) _ p.1 in
      let r = and_parts (bounded_body (length ns) c) (bounded_body (length ns) rest) q.1 in
      branch_has e b c rest (term ns e) (lines ns b) (lines ns c) (lines ns rest) (term_has ns names once e p.0) (lines_has b q.0) (lines_has c r.0)
      (lines_has rest r.1))
  lines_has (repeat e b rest) h =
      (let p = and_parts (bounded_expr (length ns) e) _ h in
      let q = and_parts (bounded_body (length ns) b) (bounded_body (length ns) rest) p.1 in
      let x = term_has ns names once e p.0 in
      let y = lines_has b q.0 in
      let z = lines_has rest q.1 in
      let i = x.says in
      let j = y.says in
      let k = z.says in
      record {
        says = cc;
        spelled = and_from (spelled_term (term ns e)) _ x.spelled (and_from (spelled_lines (lines ns b)) _ y.spelled z.spelled);
        right = and_from (right_term ns (term ns e)) _ x.right (and_from (right_lines ns (lines ns b)) _ y.right z.right);
      })

-- As much stands in each other in lines as in what they say.
pub body_depth_is : (ns : List (List ℕ)) (ls : Lines) → body_depth (body ns ls) ≡ depth ls
unfolding body_depth body depth
body_depth_is ns text.none = refl
body_depth_is ns (text.assign w t ls) = body_depth_is ns ls
body_depth_is ns (text.draw w t ls) = body_depth_is ns ls
body_depth_is ns (text.say t ls) = body_depth_is ns ls
body_depth_is ns (text.send t u v ls) = body_depth_is ns ls
body_depth_is ns (text.when t b ls) = (let p = body_depth_is ns b in let q = body_depth_is ns ls in let r = max-zero (body_depth (body ns b)) in cc)
body_depth_is ns (text.choose t b c ls) = (let p = body_depth_is ns b in let q = body_depth_is ns c in let r = body_depth_is ns ls in cc)
body_depth_is ns (text.again t b ls) = (let p = body_depth_is ns b in let q = body_depth_is ns ls in cc)

-- Lines without each else that has none.
unfoldable pub tidy : Lines → Lines
tidy text.none = text.none
tidy (text.assign w t ls) = text.assign w t (tidy ls)
tidy (text.draw w t ls) = text.draw w t (tidy ls)
tidy (text.say t ls) = text.say t (tidy ls)
tidy (text.send t u v ls) = text.send t u v (tidy ls)
tidy (text.when t b ls) = text.when t (tidy b) (tidy ls)
tidy (text.choose t b c ls) = branched t (tidy b) (tidy c) (tidy ls)
tidy (text.again t b ls) = text.again t (tidy b) (tidy ls)

-- What is said is in bounds, and is written as the lines were but for that.
pub record SaidLines (ns : List (List ℕ)) (ls : Lines) : Type 0 where
  pub bounded : bounded_body (length ns) (body ns ls) ≡ true
  pub written : lines ns (body ns ls) ≡ tidy ls

-- A line that gives a number a value, and one with lines of its own.
module _ (ns : List (List ℕ)) where
  sets_said : (f : ℕ → Expr → Body → Body) (g : List ℕ → Term → Lines → Lines) (w : List ℕ) (t : Term) (ls : Lines) →
      body ns (g w t ls) ≡ f (index_of w ns) (expr ns t) (body ns ls) → tidy (g w t ls) ≡ g w t (tidy ls) →
      ((k : ℕ) (e : Expr) (b : Body) → (bounded_body (length ns) (f k e b) ≡ (ltb k (length ns) && (bounded_expr (length ns) e && bounded_body (length ns) b)))
      × (lines ns (f k e b) ≡ g (get_or ns k []) (term ns e) (lines ns b))) →
      (is_name w && (spelled_term t && spelled_lines ls)) ≡ true → (among w ns && (right_term ns t && right_lines ns ls)) ≡ true →
      (spelled_lines ls ≡ true → right_lines ns ls ≡ true → SaidLines ns ls) → SaidLines ns (g w t ls)
  sets_said f g w t ls b d law s r more =
      (let p = and_parts (is_name w) _ s in
      let q = and_parts (among w ns) _ r in
      let m = and_parts (spelled_term t) (spelled_lines ls) p.1 in
      let n = and_parts (right_term ns t) (right_lines ns ls) q.1 in
      let x = term_said ns t m.0 n.0 in
      let y = more m.1 n.1 in
      let z = law (index_of w ns) (expr ns t) (body ns ls) in
      let i = at_index w ns q.0 in
      let j = x.written in
      let k = y.written in
      record {
        bounded = ap (bounded_body (length ns)) b ∙ z.0 ∙ and_from (ltb (index_of w ns) (length ns)) _ (lt-ltb (index_of w ns) (length ns) (index_in w ns q.0))
            (and_from (bounded_expr (length ns) (expr ns t)) _ x.bounded y.bounded);
        written = ap (lines ns) b ∙ z.1 ∙ cc;
      })

  holds_said : (f : Expr → Body → Body → Body) (g : Term → Lines → Lines → Lines) (t : Term) (a ls : Lines) →
      body ns (g t a ls) ≡ f (expr ns t) (body ns a) (body ns ls) → tidy (g t a ls) ≡ g t (tidy a) (tidy ls) →
      ((e : Expr) (b c : Body) → (bounded_body (length ns) (f e b c) ≡ (bounded_expr (length ns) e && (bounded_body (length ns) b && bounded_body (length ns) c)))
      × (lines ns (f e b c) ≡ g (term ns e) (lines ns b) (lines ns c))) →
      (spelled_term t && (spelled_lines a && spelled_lines ls)) ≡ true → (right_term ns t && (right_lines ns a && right_lines ns ls)) ≡ true →
      (spelled_lines a ≡ true → right_lines ns a ≡ true → SaidLines ns a) → (spelled_lines ls ≡ true → right_lines ns ls ≡ true → SaidLines ns ls) →
      SaidLines ns (g t a ls)
  holds_said f g t a ls b d law s r own more =
      (let p = and_parts (spelled_term t) _ s in
      let q = and_parts (right_term ns t) _ r in
      let m = and_parts (spelled_lines a) (spelled_lines ls) p.1 in
      let n = and_parts (right_lines ns a) (right_lines ns ls) q.1 in
      let x = term_said ns t p.0 q.0 in
      let y = own m.0 n.0 in
      let z = more m.1 n.1 in
      let u = law (expr ns t) (body ns a) (body ns ls) in
      let i = x.written in
      let j = y.written in
      let k = z.written in
      record {
        bounded = ap (bounded_body (length ns)) b ∙ u.0
            ∙ and_from (bounded_expr (length ns) (expr ns t)) _ x.bounded (and_from (bounded_body (length ns) (body ns a)) _ y.bounded z.bounded);
        written = ap (lines ns) b ∙ u.1 ∙ cc;
      })

pub lines_said : (ns : List (List ℕ)) (ls : Lines) → spelled_lines ls ≡ true → right_lines ns ls ≡ true → SaidLines ns ls
unfolding bounded_body lines body spelled_lines right_lines tidy
lines_said ns text.none s r = record { bounded = refl; written = refl }
lines_said ns (text.assign w t ls) s r = sets_said ns assign text.assign w t ls refl refl (λ k e b. (refl, refl)) s r (lines_said ns ls)
lines_said ns (text.draw w t ls) s r = sets_said ns draw text.draw w t ls refl refl (λ k e b. (refl, refl)) s r (lines_said ns ls)
lines_said ns (text.say t ls) s r =
    (let f = and_parts (spelled_term t) (spelled_lines ls) s in
    let g = and_parts (right_term ns t) (right_lines ns ls) r in
    let x = term_said ns t f.0 g.0 in
    let y = lines_said ns ls f.1 g.1 in
    let j = x.written in
    let k = y.written in
    record { bounded = and_from (bounded_expr (length ns) (expr ns t)) _ x.bounded y.bounded; written = cc })
lines_said ns (text.send t u v ls) s r =
    (let f = and_parts (spelled_term t) _ s in
    let g = and_parts (right_term ns t) _ r in
    let d = and_parts (spelled_term u) _ f.1 in
    let e = and_parts (right_term ns u) _ g.1 in
    let m = and_parts (spelled_term v) (spelled_lines ls) d.1 in
    let n = and_parts (right_term ns v) (right_lines ns ls) e.1 in
    let x = term_said ns t f.0 g.0 in
    let y = term_said ns u d.0 e.0 in
    let z = term_said ns v m.0 n.0 in
    let o = lines_said ns ls m.1 n.1 in
    let h = x.written in
    let i = y.written in
    let j = z.written in
    let k = o.written in
    record {
      bounded = and_from (bounded_expr (length ns) (expr ns v)) _ z.bounded (and_from (bounded_expr (length ns) (expr ns u)) _ y.bounded
          (and_from (bounded_expr (length ns) (expr ns t)) _ x.bounded o.bounded));
      written = cc;
    })
lines_said ns (text.when t b ls) s r =
    holds_said ns (λ e a c. branch e a stop c) text.when t b ls refl refl (λ e a c. (refl, refl)) s r (lines_said ns b) (lines_said ns ls)
lines_said ns (text.choose t b c ls) s r =
    (let f = and_parts (spelled_term t) _ s in
    let g = and_parts (right_term ns t) _ r in
    let d = and_parts (spelled_lines b) _ f.1 in
    let e = and_parts (right_lines ns b) _ g.1 in
    let m = and_parts (spelled_lines c) (spelled_lines ls) d.1 in
    let n = and_parts (right_lines ns c) (right_lines ns ls) e.1 in
    let x = term_said ns t f.0 g.0 in
    let y = lines_said ns b d.0 e.0 in
    let z = lines_said ns c m.0 n.0 in
    let o = lines_said ns ls m.1 n.1 in
    let h = x.written in
    let i = y.written in
    let j = z.written in
    let k = o.written in
    record {
      bounded = and_from (bounded_expr (length ns) (expr ns t)) _ x.bounded (and_from (bounded_body (length ns) (body ns b)) _ y.bounded
          (and_from (bounded_body (length ns) (body ns c)) _ z.bounded o.bounded));
      written = cc;
    })
lines_said ns (text.again t b ls) s r =
    holds_said ns repeat text.again t b ls refl refl (λ e a c. (refl, refl)) s r (lines_said ns b) (lines_said ns ls)
