-- Lines one after the other and in each other, by how they close and how many may still come.
use Rattle.std.proofs.Common.{◌≡◌, ℕ, zero, suc, ◌-◌, Bool, true, false, eqb, List, sym, refl, ap, ◌∙◌, arith}
use Rattle.std.proofs.lemmas.Bool.{eq-eqb, ne_eqb, cond-true, cond-false}
use Rattle.grammar.specs.Syntax.{Term, Lines}
use Rattle.grammar.specs.Parse.{Close, by_end, by_else}
use Rattle.grammar.specs.Check.{Checked, taken, refused, then, Head, ends, elses, assigns, draws, says, sends, whens, agains, Block, before_block, excess, in_line, check_head, check_behind, check_lines}
use Rattle.checker.specs.declared.lines.Sort.{Sort}
use Rattle.checker.specs.declared.lines.Sort.TheVariants.{End, Else, Simple, Again, If}
use Rattle.checker.specs.Refusals.{map_checked}
use Rattle.checker.specs.Lines.{Shape, shape, sort_of}

abbrev pub shaped : Checked Block → Checked Shape
shaped r = map_checked shape r

abbrev pub sorted : Checked Head → Checked Sort
sorted r = map_checked sort_of r

-- Lines behind their first, without trees: go reads lines.
abbrev pub Go : Type 0
Go = ℕ → ℕ → Bool → List ℕ → Checked Shape

abbrev pub closed : Go → ℕ → Bool → Close → ℕ → List ℕ → Checked Shape
closed go deep els by_end l d = go l deep els d
closed go deep els by_else l d = then (go l (deep - 1) false d) (λ e f. go e.left deep els f)

abbrev pub behind : Go → ℕ → ℕ → Bool → Sort → List ℕ → Checked Shape
behind go left deep els End c = taken (record { close = by_end; left = left }) c
behind go left deep els Else c = taken (record { close = by_else; left = left }) c
behind go left deep els Simple c = go left deep els c
behind go left deep els Again c = then (go left (deep - 1) false c) (λ b d. go b.left deep els d)
behind go left deep els If c = then (go left (deep - 1) true c) (λ b d. closed go deep els b.close b.left d)

shape_before : (f : Lines → Lines) (g : Checked Block) → shaped (before_block f g) ≡ shaped g
shape_before f (taken b c) = refl
shape_before f (refused n c) = refl

along : (r : Checked Block) (f : Block → List ℕ → Checked Block) (g : Shape → List ℕ → Checked Shape) →
    ((b : Block) (d : List ℕ) → shaped (f b d) ≡ g (record { close = b.close; left = b.left }) d) → shaped (then r f) ≡ then (shaped r) g
along (taken b d) f g h = h b d
along (refused n d) f g h = refl

module _ (go : ℕ → ℕ → Bool → List ℕ → Checked Block) (left deep : ℕ) (els : Bool) where
  shapes : Go
  shapes l d e c = shaped (go l d e c)

  when_closed : Term → Close → Lines → ℕ → List ℕ → Checked Block
  when_closed t by_end b l d = before_block (Lines.when t b) (go l deep els d)
  when_closed t by_else b l d = then (go l (deep - 1) false d) (λ e f. before_block (Lines.choose t b e.lines) (go e.left deep els f))

  closed_shape : (t : Term) (k : Close) (b : Lines) (l : ℕ) (d : List ℕ) → shaped (when_closed t k b l d) ≡ closed shapes deep els k l d
  unfolding when_closed shapes
  closed_shape t by_end b l d = shape_before (Lines.when t b) (go l deep els d)
  closed_shape t by_else b l d =
      along (go l (deep - 1) false d) (λ e f. before_block (Lines.choose t b e.lines) (go e.left deep els f)) (λ e f. shaped (go e.left deep els f))
      (λ e f. shape_before (Lines.choose t b e.lines) (go e.left deep els f))

  behind_shape : (h : Head) (c : List ℕ) → shaped (check_behind go left deep els h c) ≡ behind shapes left deep els (sort_of h) c
  unfolding when_closed shapes
  behind_shape ends c = refl
  behind_shape elses c = refl
  behind_shape (assigns w t) c = shape_before (Lines.assign w t) (go left deep els c)
  behind_shape (draws w t) c = shape_before (Lines.draw w t) (go left deep els c)
  behind_shape (says t) c = shape_before (Lines.say t) (go left deep els c)
  behind_shape (sends t u v) c = shape_before (Lines.send t u v) (go left deep els c)
  behind_shape (agains t) c =
      along (go left (deep - 1) false c) (λ b d. before_block (Lines.again t b.lines) (go b.left deep els d)) (λ b d. shaped (go b.left deep els d))
      (λ b d. shape_before (Lines.again t b.lines) (go b.left deep els d))
  behind_shape (whens t) c =
      along (go left (deep - 1) true c) (λ b d. when_closed t b.close b.lines b.left d) (λ b d. closed shapes deep els b.close b.left d)
      (λ b d. closed_shape t b.close b.lines b.left d)

  then_behind : (r : Checked Head) (s : Sort) (c : List ℕ) → sorted r ≡ taken s c → shaped (then r (λ h d. check_behind go left deep els h d)) ≡ behind shapes left deep els s c
  then_behind (taken h d) s c e =
      let p : sort_of h ≡ s = cc in
      let q : d ≡ c = cc in
      behind_shape h d ∙ ap (λ k. behind shapes left deep els k d) p ∙ ap (behind shapes left deep els s) q
  then_behind (refused n d) s c e = let z : ◌≡◌ {A = ℕ} 0 1 = cc in absurd (omega arith)

  then_refused : (r : Checked Head) (n : ℕ) (c : List ℕ) → sorted r ≡ refused n c → shaped (then r (λ h d. check_behind go left deep els h d)) ≡ refused n c
  then_refused (taken h d) n c e = let z : ◌≡◌ {A = ℕ} 0 1 = cc in absurd (omega arith)
  then_refused (refused k d) n c e = let p : k ≡ n = cc in let q : d ≡ c = cc in λ i. refused (p i) (q i)

-- Lines in a line, part by part: those of a repeat, and both parts of a branch. inner is how deep they may be.
module _ (go : Go) (left deep inner : ℕ) (els : Bool) (c : List ℕ) (i : inner ≡ deep - 1) where
  pub again_bad : (n : ℕ) (r : List ℕ) → go left inner false c ≡ refused n r → behind go left deep els Again c ≡ refused n r
  again_bad n r e = ap (λ g. then g (λ b d. go b.left deep els d)) (ap (λ d. go left d false c) (sym i) ∙ e)

  pub again_whole : (s : Shape) (d : List ℕ) (X : Checked Shape) → go left inner false c ≡ taken s d → go s.left deep els d ≡ X → behind go left deep els Again c ≡ X
  again_whole s d X e x = ap (λ g. then g (λ b d. go b.left deep els d)) (ap (λ d. go left d false c) (sym i) ∙ e) ∙ x

  at_if : (g : Checked Shape) → go left inner true c ≡ g → behind go left deep els If c ≡ then g (λ b d. closed go deep els b.close b.left d)
  at_if g e = ap (λ g. then g (λ b d. closed go deep els b.close b.left d)) (ap (λ d. go left d true c) (sym i) ∙ e)

  pub if_bad : (n : ℕ) (r : List ℕ) → go left inner true c ≡ refused n r → behind go left deep els If c ≡ refused n r
  if_bad n r e = at_if (refused n r) e

  module _ (k : Close) (l : ℕ) (d : List ℕ) (e : go left inner true c ≡ taken (record { close = k; left = l }) d) where
    at_close : (j : Close) → k ≡ j → behind go left deep els If c ≡ closed go deep els j l d
    at_close j q = at_if (taken (record { close = k; left = l }) d) e ∙ ap (λ j. closed go deep els j l d) q

    pub if_whole : (X : Checked Shape) → k ≡ by_end → go l deep els d ≡ X → behind go left deep els If c ≡ X
    if_whole X q x = at_close by_end q ∙ x

    pub if_second : (n : ℕ) (r : List ℕ) → k ≡ by_else → go l inner false d ≡ refused n r → behind go left deep els If c ≡ refused n r
    if_second n r q x = at_close by_else q ∙ ap (λ g. then g (λ e f. go e.left deep els f)) (ap (λ j. go l j false d) (sym i) ∙ x)

    pub if_both : (s : Shape) (f : List ℕ) (X : Checked Shape) → k ≡ by_else → go l inner false d ≡ taken s f → go s.left deep els f ≡ X → behind go left deep els If c ≡ X
    if_both s f X q x y = at_close by_else q ∙ ap (λ g. then g (λ e f. go e.left deep els f)) (ap (λ j. go l j false d) (sym i) ∙ x) ∙ y

-- Lines by their first.
module _ (names : List (List ℕ)) (left deep : ℕ) (els : Bool) (bs : List ℕ) where
  pub lines_deep : (n : ℕ) → n ≡ 0 → shaped (check_lines names n left deep els bs) ≡ refused 4 bs
  unfolding check_lines
  lines_deep zero h = refl
  lines_deep (suc n) h = absurd (omega arith)

  pub lines_left : (n : ℕ) → (n ≡ 0 → ⊥) → left ≡ 0 → shaped (check_lines names n left deep els bs) ≡ shaped (excess bs (check_head names deep els bs))
  unfolding check_lines
  lines_left zero h e = absurd (h refl)
  lines_left (suc n) h e = ap shaped (cond-true (eqb left 0) _ _ (eq-eqb left 0 e))

  by_head : (n : ℕ) → (n ≡ 0 → ⊥) → (left ≡ 0 → ⊥) →
      check_lines names n left deep els bs ≡ then (in_line bs (check_head names deep els bs)) (λ h c. check_behind (check_lines names (n - 1)) (left - 1) deep els h c)
  unfolding check_lines
  by_head zero h e = absurd (h refl)
  by_head (suc n) h e =
      let m : n ≡ suc n - 1 = omega arith in
      cond-false (eqb left 0) _ _ (ne_eqb left 0 e) ∙ ap (λ k. then (in_line bs (check_head names deep els bs)) (λ h c. check_behind (check_lines names k) (left - 1) deep els h c)) m

  pub lines_refused : (n k : ℕ) (r : List ℕ) → (n ≡ 0 → ⊥) → (left ≡ 0 → ⊥) → sorted (in_line bs (check_head names deep els bs)) ≡ refused k r → shaped (check_lines names n left deep els bs) ≡ refused k r
  lines_refused n k r h e x = ap shaped (by_head n h e) ∙ then_refused (check_lines names (n - 1)) (left - 1) deep els (in_line bs (check_head names deep els bs)) k r x

  pub lines_behind : (n : ℕ) (s k : Sort) (c : List ℕ) → (n ≡ 0 → ⊥) → (left ≡ 0 → ⊥) → sorted (in_line bs (check_head names deep els bs)) ≡ taken s c → s ≡ k →
      shaped (check_lines names n left deep els bs) ≡ behind (λ l d e q. shaped (check_lines names (n - 1) l d e q)) (left - 1) deep els k c
  unfolding shapes
  lines_behind n s k c h e x q =
      ap shaped (by_head n h e) ∙ then_behind (check_lines names (n - 1)) (left - 1) deep els (in_line bs (check_head names deep els bs)) s c x
      ∙ ap (λ j. behind (λ l d e q. shaped (check_lines names (n - 1) l d e q)) (left - 1) deep els j c) q
