-- From what a check of bytes answers to what is loaded.
use Rattle.std.proofs.Common.{◌≡◌, ℕ, ◌*◌, ◌≤◌, true, false, ◌&&◌, leb, List, [], ◌∷◌, length, Ok, Err, codes, sym, refl, ap, ◌∙◌, inr, arith, length-append}
use Rattle.grammar.specs.Syntax.{Kind, Text, IsText, show_kinds}
use Rattle.grammar.specs.Check.{Checked, taken, refused, check}
use Rattle.grammar.specs.Rules.{Keeps, lines_of, kind_lines}
use Rattle.grammar.proofs.Exact.{taken_exactly}
use Rattle.checker.specs.declared.Rule.TheVariants.{Lent}
use Rattle.checker.specs.declared.texts.Extent.{Extent}
use Rattle.checker.specs.Texts.{Answered, Measures}
use Rattle.text.specs.Slices.{Slices, filled, roomy, held, used}
use Rattle.text.specs.Loaded.{Loaded, roomy_for}
use Rattle.text.proofs.Holds.{filled_holds}

-- The text that was taken.
pub record TextOf (bs : List ℕ) (e : Extent) : Type 0 where
  pub tree : Text
  pub checked : check bs ≡ taken tree []
  pub is_text : IsText bs tree
  pub keeps : Keeps tree
  pub measures : Measures tree e

pub text_of : (bs : List ℕ) (e : Extent) → Answered bs (Ok e) (check bs) → TextOf bs e
text_of bs e h = go (check bs) refl h
  where
    go : (g : Checked Text) → check bs ≡ g → Answered bs (Ok e) g → TextOf bs e
    go (taken t c) q m =
        let x = (taken_exactly bs c t).0 q in
        record { tree = t; checked = q ∙ ap (λ r. taken t r) x.0; is_text = x.1; keeps = x.2; measures = m }
    go (refused n c) q m = absurd m

few_kinds : (ks : List Kind) → length ks ≤ length (kind_lines ks)
unfolding kind_lines
few_kinds [] = omega arith
few_kinds (k ∷ ks) = omega (arith, few_kinds ks, length-append (lines_of k.lines) (codes "end" ∷ kind_lines ks))

pub kinds_few : (bs : List ℕ) (e : Extent) → TextOf bs e → e.kinds ≤ 4096
kinds_few bs e x = omega (arith, few_kinds x.tree.kinds, x.keeps.few_lines, x.measures.kinds)

pub things_few : (bs : List ℕ) (e : Extent) → TextOf bs e → e.things ≤ 65536
things_few bs e x = omega (arith, x.keeps.few_things, x.measures.things)

same_room : (t : Text) (e : Extent) (s : Slices) → Measures t e → roomy_for e s ≡ roomy t s
same_room t e s m = by e.lines e.kinds e.things e.notes m.lines m.kinds m.things m.notes
  where
    by : (a b c d : ℕ) → a ≡ length (show_kinds t.kinds) → b ≡ length t.kinds → c ≡ length t.things → d ≡ length t.notes →
        (leb a (length s.code) && (leb b (length s.kinds) && (leb (65 * b) (length s.names) && (leb c (length s.processes) && (leb (64 * c) (length s.vars) && leb d (length s.messages))))))
        ≡ roomy t s
    by a b c d p q r u = cc

pub too_short : (bs : List ℕ) (e : Extent) (s : Slices) → TextOf bs e → false ≡ roomy_for e s → Loaded bs s s (Err (record { rule = Lent; place = 4 }))
too_short bs e s x h = (refl, inr (x.tree, x.checked, sym (h ∙ same_room x.tree e s x.measures), refl))

pub takes : (bs : List ℕ) (e : Extent) (s s' : Slices) (x : TextOf bs e) → true ≡ roomy_for e s → (roomy x.tree s ≡ true → s' ≡ filled x.tree s) → Loaded bs s s' (Ok e)
takes bs e s s' x h f =
    let r : roomy x.tree s ≡ true = sym (h ∙ same_room x.tree e s x.measures) in
    let g = f r in
    let m = x.measures in
    let w = filled_holds x.tree s x.is_text.well_spelled x.keeps r in (
      x.tree,
      record {
        is_text = x.is_text;
        keeps = x.keeps;
        kinds_are = m.kinds;
        things_are = m.things;
        notes_are = m.notes;
        filled_is = g;
        says = moved e.kinds e.things e.notes s' m.kinds m.things m.notes g ∙ w;
      },
    )
  where
    moved : (a b c : ℕ) (u : Slices) → a ≡ length x.tree.kinds → b ≡ length x.tree.things → c ≡ length x.tree.notes → u ≡ filled x.tree s →
        held (used a b c u) ≡ held (used (length x.tree.kinds) (length x.tree.things) (length x.tree.notes) (filled x.tree s))
    moved a b c u p q r g = cc
