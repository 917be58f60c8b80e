-- Lines with no lines in them.
use Rattle.std.proofs.Common.{◌≡◌, ℕ, true, false, List, [], ◌∷◌, ◌++◌, length, get_or, drop, codes, sym, refl, ap, ◌∙◌, subst, arith, length-append}
use Rattle.std.proofs.lemmas.Bool.{both_ways, and_parts}
use Rattle.body.specs.Encode.{encode_expr}
use Rattle.grammar.specs.Syntax as text
use Rattle.grammar.specs.Syntax.{all, is_letter, is_word, Term, number, word, two, show_term, spelled_term}
use Rattle.grammar.proofs.Words.{digit_no_letter, operand_no_draw}
use Rattle.words.specs.declared.Word.TheVariants.{Draw, Say, Send, Name}
use Rattle.words.specs.declared.Word.{Word}
use Rattle.words.specs.Words.{pack}
use Rattle.words.specs.Reads.{first_is}
use Rattle.text.specs.Named.{expr}
use Rattle.text.specs.Writes.{Row, writes}
use Rattle.text.specs.Parts.{place_of, WordAt, TermAt, ExprAt, HeadAt, SayAt, SendAt, DrawAt, PutAt, SimpleAt}
use Rattle.text.proofs.Rows.{writes_on}
use Rattle.text.proofs.FillTerms.{Begins, digit, paren, begins_so, so, packed_place}

pub expr_deep : (ps : List ℕ) (bs : List ℕ) (r : Row ℕ) (bs' : List ℕ) (r' : Row ℕ) → TermAt bs ps (length bs) r bs' r' → ExprAt bs ps r bs' r'
expr_deep ps bs r bs' r' f ns t k b pk e s g n =
    f ns t k b pk e s g n (omega (arith, ap length e, length-append (show_term t) (b ∷ k)))

module _ (ps : List ℕ) where
  pub head_by : (bs bs1 : List ℕ) (r : Row ℕ) (bs2 : List ℕ) (r' : Row ℕ) (bs3 : List ℕ) → bs1 ≡ drop 1 bs → ExprAt bs1 ps r bs2 r' →
      bs3 ≡ drop 1 bs2 → HeadAt bs ps r bs3 r'
  head_by bs bs1 r bs2 r' bs3 e1 f e2 ns t k pk e s g =
      let q = f ns t k 10 pk (e1 ∙ ap (drop 1) e) s g refl in (e2 ∙ ap (drop 1) q.0, q.1)

  pub say_by : (bs : List ℕ) (r r1 : Row ℕ) (bs' : List ℕ) (r' : Row ℕ) → r1 ≡ writes (3 ∷ []) r → HeadAt bs ps r1 bs' r' → SayAt bs ps r bs' r'
  unfolding writes
  say_by bs r r1 bs' r' p f ns t k pk e s g =
      let q = f ns t k pk e s g in (q.0, q.1 ∙ ap (writes (encode_expr (expr ns t))) p)

  pub send_by : (bs bs1 bs2 bs3 bs4 bs5 : List ℕ) (n1 n2 m1 m2 r r1 : Row ℕ) (bs6 : List ℕ) (r2 : Row ℕ) (bs7 : List ℕ) (r3 : Row ℕ) (bs8 : List ℕ) (r4 : Row ℕ) (bs9 : List ℕ) →
      bs1 ≡ drop 1 bs → ExprAt bs1 ps n1 bs2 n2 → bs3 ≡ drop 4 bs2 → ExprAt bs3 ps m1 bs4 m2 → bs5 ≡ drop 7 bs4 →
      r1 ≡ writes (4 ∷ []) r → ExprAt bs5 ps r1 bs6 r2 → ExprAt bs3 ps r2 bs7 r3 → ExprAt bs1 ps r3 bs8 r4 → bs9 ≡ drop 1 bs6 →
      SendAt bs ps r bs9 r4
  unfolding writes
  send_by bs bs1 bs2 bs3 bs4 bs5 n1 n2 m1 m2 r r1 bs6 r2 bs7 r3 bs8 r4 bs9 e1 t1 e3 t3 e5 p x1 x2 x3 e9 ns t u v k pk e st su sv gt gu gv =
      let ew = encode_expr (expr ns v) in
      let a1 = e1 ∙ ap (drop 1) e in
      let a2 = (t1 ns t (codes "to " ++ (show_term u ++ (codes " after " ++ (show_term v ++ 10 ∷ k)))) 32 pk a1 st gt refl).0 in
      let a3 = e3 ∙ ap (drop 4) a2 in
      let a4 = (t3 ns u (codes "after " ++ (show_term v ++ 10 ∷ k)) 32 pk a3 su gu refl).0 in
      let a5 = e5 ∙ ap (drop 7) a4 in
      let q1 = x1 ns v k 10 pk a5 sv gv refl in
      let q2 = x2 ns u (codes "after " ++ (show_term v ++ 10 ∷ k)) 32 pk a3 su gu refl in
      let q3 = x3 ns t (codes "to " ++ (show_term u ++ (codes " after " ++ (show_term v ++ 10 ∷ k)))) 32 pk a1 st gt refl in
      let b1 = q1.1 ∙ ap (writes (encode_expr (expr ns v))) p in
      let b2 = q2.1 ∙ ap (writes (encode_expr (expr ns u))) b1 ∙ sym (writes_on (4 ∷ encode_expr (expr ns v)) (encode_expr (expr ns u)) r) in
      let b3 = q3.1 ∙ ap (writes (encode_expr (expr ns t))) b2 ∙ sym (writes_on (4 ∷ encode_expr (expr ns v) ++ encode_expr (expr ns u)) (encode_expr (expr ns t)) r) in
      (e9 ∙ ap (drop 1) q1.0, b3)

-- No letter, so no draw.
pub draw_no_letter : (bs : List ℕ) → false ≡ first_is is_letter bs → DrawAt bs false
draw_no_letter bs h =
    record {
      drawn = λ k e. absurd (both_ways (first_is is_letter bs) (sym h) (ap (first_is is_letter) e));
      not_drawn = λ t k e s. refl;
    }

letter_front : (bs : List ℕ) → true ≡ first_is is_letter bs → true ≡ is_letter (get_or bs 0 0)
letter_front [] h = absurd (both_ways true h refl)
letter_front (b ∷ bs) h = h

pub draw_so : (bs bs' : List ℕ) (v : Word) → WordAt bs v bs' → true ≡ first_is is_letter bs → v ≡ Draw → DrawAt bs true
unfolding spelled_term text.same show_term
draw_so bs bs' v f l h = record { drawn = λ k e. refl; not_drawn = λ t k e s. absurd (go t k e s (begins_so k bs 10 t e s)) }
  where
    go : (t : Term) (k : List ℕ) → bs ≡ show_term t ++ 10 ∷ k → spelled_term t ≡ true → Begins t (get_or bs 0 0) → ⊥
    go (number ds) k e s (digit u z) = both_ways (is_letter (get_or bs 0 0)) (digit_no_letter (get_or bs 0 0) z) (sym (letter_front bs l))
    go (word w) k e s z =
        let q = f w k 10 e (and_parts (is_word w) _ s).0 refl in
        let d = so w Draw (and_parts (is_word w) _ s).0 (sym h ∙ q.0) in
        both_ways (text.same w (codes "draw")) (operand_no_draw w s) (ap (λ x. text.same x (codes "draw")) d)
    go (two s t u) k e h z = opens z (sym (letter_front bs l))
      where
        opens : {x : ℕ} → Begins (two s t u) x → is_letter x ≡ true → ⊥
        opens (paren s t u) d = both_ways false refl d

pub draw_not : (bs bs' : List ℕ) (v : Word) → WordAt bs v bs' → (v ≡ Draw → ⊥) → DrawAt bs false
unfolding all pack
draw_not bs bs' v f h =
    record {
      drawn = λ k e. absurd (h (f (codes "draw") k 32 e refl refl).0);
      not_drawn = λ t k e s. refl;
    }

module _ (ps : List ℕ) where
  -- A name and what it stands before, by whether draw stands there.
  pub put_draw : (bs : List ℕ) (p : ℕ) (bs1 bs2 : List ℕ) (place : ℕ) (r r1 r2 : Row ℕ) (bs' : List ℕ) (r' : Row ℕ) → place ≡ place_of p ps → bs1 ≡ drop 3 bs → DrawAt bs1 true →
      bs2 ≡ drop 4 bs1 → r1 ≡ writes (2 ∷ []) r → r2 ≡ writes (place ∷ []) r1 → HeadAt bs2 ps r2 bs' r' → PutAt bs p ps r bs' r'
  unfolding writes
  put_draw bs p bs1 bs2 place r r1 r2 bs' r' ep e1 d e2 p1 p2 f =
      record {
        assigns = λ ns w t k pk n h e s g. absurd (both_ways true (d.not_drawn t k (e1 ∙ ap (drop 3) e) s) refl);
        draws =
            λ ns w t k pk n h e s g.
            (let q = f ns t k pk (e2 ∙ ap (drop 4) (e1 ∙ ap (drop 3) e)) s g in (
              q.0,
              q.1 ∙ ap (writes (encode_expr (expr ns t))) (p2 ∙ ap (writes (place ∷ [])) p1)
                  ∙ ap (λ x. writes (2 ∷ x ∷ encode_expr (expr ns t)) r) (ep ∙ packed_place ns ps w p pk n h),
            ));
      }

  pub put_assign : (bs : List ℕ) (p : ℕ) (bs1 bs2 : List ℕ) (place : ℕ) (r r1 r2 : Row ℕ) (bs' : List ℕ) (r' : Row ℕ) → place ≡ place_of p ps → bs1 ≡ drop 3 bs → DrawAt bs1 false →
      bs2 ≡ drop 2 bs → r1 ≡ writes (1 ∷ []) r → r2 ≡ writes (place ∷ []) r1 → HeadAt bs2 ps r2 bs' r' → PutAt bs p ps r bs' r'
  unfolding writes
  put_assign bs p bs1 bs2 place r r1 r2 bs' r' ep e1 d e2 p1 p2 f =
      record {
        assigns =
            λ ns w t k pk n h e s g.
            (let q = f ns t k pk (e2 ∙ ap (drop 2) e) s g in (
              q.0,
              q.1 ∙ ap (writes (encode_expr (expr ns t))) (p2 ∙ ap (writes (place ∷ [])) p1)
                  ∙ ap (λ x. writes (1 ∷ x ∷ encode_expr (expr ns t)) r) (ep ∙ packed_place ns ps w p pk n h),
            ));
        draws = λ ns w t k pk n h e s g. absurd (both_ways false refl (d.drawn (show_term t ++ 10 ∷ k) (e1 ∙ ap (drop 3) e)));
      }

-- A line by its first word.
module _ (bs ps : List ℕ) (v : Word) (r : Row ℕ) (bs' : List ℕ) (r' : Row ℕ) where
  pub simple_say : v ≡ Say → SayAt bs ps r bs' r' → SimpleAt bs v ps r bs' r'
  simple_say e f =
      record {
        says = λ _. f;
        sends = λ h. absurd (let x : Say ≡ Send = sym e ∙ h in let z : ◌≡◌ {A = ℕ} 0 1 = cc in omega arith);
        puts = λ p h. absurd (let x : Say ≡ Name p = sym e ∙ h in let z : ◌≡◌ {A = ℕ} 0 1 = cc in omega arith);
      }

  pub simple_send : v ≡ Send → SendAt bs ps r bs' r' → SimpleAt bs v ps r bs' r'
  simple_send e f =
      record {
        says = λ h. absurd (let x : Send ≡ Say = sym e ∙ h in let z : ◌≡◌ {A = ℕ} 0 1 = cc in omega arith);
        sends = λ _. f;
        puts = λ p h. absurd (let x : Send ≡ Name p = sym e ∙ h in let z : ◌≡◌ {A = ℕ} 0 1 = cc in omega arith);
      }

  pub simple_put : (p : ℕ) → v ≡ Name p → PutAt bs p ps r bs' r' → SimpleAt bs v ps r bs' r'
  simple_put p e f =
      record {
        says = λ h. absurd (let x : Name p ≡ Say = sym e ∙ h in let z : ◌≡◌ {A = ℕ} 0 1 = cc in omega arith);
        sends = λ h. absurd (let x : Name p ≡ Send = sym e ∙ h in let z : ◌≡◌ {A = ℕ} 0 1 = cc in omega arith);
        puts = λ q h. subst (λ n. PutAt bs n ps r bs' r') (let x : Name p ≡ Name q = sym e ∙ h in cc) f;
      }

  pub simple_none : (v ≡ Say → ⊥) → (v ≡ Send → ⊥) → ((p : ℕ) → v ≡ Name p → ⊥) → SimpleAt bs v ps r bs' r'
  simple_none a b c = record { says = λ h. absurd (a h); sends = λ h. absurd (b h); puts = λ p h. absurd (c p h) }
