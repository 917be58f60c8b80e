-- From where reading ends to what texts there are.
use Rattle.std.proofs.Common.{◌≡◌, ℕ, suc, ◌+◌, ◌-◌, ◌≤◌, List, [], ◌∷◌, ◌++◌, length, get_or, take, drop, sym, refl, ap, ◌∙◌, subst, append_assoc, arith}
use Rattle.std.proofs.lemmas.List.{drop_at, drop_more, take_more, take_at, length-append}
use Rattle.grammar.specs.Syntax.{Text, IsText}
use Rattle.grammar.specs.Parse.{Got, got, bad, parse, read_kinds}
use Rattle.grammar.proofs.Texts.{read_shown, stops_first}
use Rattle.reader.specs.Rests.{forget}
use Rattle.reader.specs.Form.{StopsAt}

parsed : (bs : List ℕ) (n : ℕ) (X : Got (Unit {0})) → n ≡ length bs + 1 → forget (read_kinds n bs) ≡ X → forget (parse bs) ≡ X
unfolding parse
parsed bs n X e x = let s : suc (length bs) ≡ n = omega arith in ap (λ m. forget (read_kinds m bs)) s ∙ x

whole : (bs : List ℕ) (g : Got Text) → parse bs ≡ g → forget g ≡ got tt [] → (t : Text) × IsText bs t
whole bs (got t r) p e = let z : r ≡ [] = cc in (t, (read_shown bs t).0 (p ∙ ap (λ q. got t q) z))
whole bs (bad r) p e = absurd (let z : ◌≡◌ {A = ℕ} 0 1 = cc in omega arith)

pub is_text : (bs : List ℕ) (n : ℕ) → n ≡ length bs + 1 → forget (read_kinds n bs) ≡ got tt [] → (t : Text) × IsText bs t
is_text bs n h x = whole bs (parse bs) refl (parsed bs n (got tt []) h x)

stops : (bs k : List ℕ) (g : Got Text) → parse bs ≡ g → forget g ≡ bad k → parse bs ≡ bad k
stops bs k (got t r) p e = absurd (let z : ◌≡◌ {A = ℕ} 0 1 = cc in omega arith)
stops bs k (bad r) p e = let z : r ≡ k = cc in p ∙ ap (λ q. bad q) z

-- The bad bytes are the last ones, so that their number is that of their place from the end.
pub stops_at : (bs r : List ℕ) (n : ℕ) → n ≡ length bs + 1 → forget (read_kinds n bs) ≡ bad r → (length r ≤ length bs) × StopsAt bs (length bs - length r)
stops_at bs r n h x =
    let s = stops_first bs r (stops bs r (parse bs) refl (parsed bs n (bad r) h x)) in
    let l : length bs ≡ length s.0 + length r = ap length s.1 ∙ length-append s.0 r in
    let p : length s.0 ≡ length bs - length r = omega arith in
    let d : drop (length bs - length r) bs ≡ r = ap (drop (length bs - length r)) s.1 ∙ drop_at s.0 r (length bs - length r) p in
    let f : s.0 ≡ take (length bs - length r) bs = sym (ap (take (length bs - length r)) s.1 ∙ take_at s.0 r (length bs - length r) p) in (
      omega arith,
      record {
        inside = omega arith;
        goes_on = (s.2.0, s.2.1, subst (λ q. IsText (q ++ s.2.0) s.2.1) f s.2.2);
        no_further = λ k more t i.
            s.3 (get_or bs (length bs - length r) 0) (drop (length bs - length r + 1) bs) more t (sym d ∙ drop_more bs (length bs - length r) 0 k)
            (subst (λ q. IsText q t) (ap (λ q. q ++ more) (take_more bs (length bs - length r) 0 k) ∙ append_assoc (take (length bs - length r) bs) (get_or bs (length bs - length r) 0 ∷ []) more ∙ ap (λ q. q ++ get_or bs (length bs - length r) 0 ∷ more) (sym f)) i);
        no_text = s.4;
      },
    )
