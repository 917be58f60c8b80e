-- What is checked of lines follows what is read, and lines that are taken keep their rules.
use Rattle.std.proofs.Common.{◌≡◌, ℕ, zero, suc, ◌+◌, ◌-◌, ◌<◌, ◌≤◌, max, Bool, true, false, not, ◌&&◌, eqb, List, [], ◌∷◌, ◌++◌, length, codes, sym, refl, ap, ◌∙◌, subst, arith, length-append}
use Rattle.std.proofs.lemmas.Bool.{and_from, and_parts, cond_both, not-true, eqb-false}
use Rattle.grammar.specs.Syntax.{among, Term, Lines, assign, draw, say, send, when, choose, again, every}
use Rattle.grammar.specs.Parse.{Got, got, and_then, read_word, Close, by_end, by_else, read_by, read_lines}
use Rattle.grammar.specs.Parse as read
use Rattle.grammar.specs.Check.{Checked, then, line_bytes, Head, ends, elses, assigns, draws, says, sends, whens, agains, too_long, Block, before_block, check_behind, check_lines}
use Rattle.grammar.specs.Rules.{right_term, right_lines, depth, lines_of, short}
use Rattle.grammar.proofs.Trees.{lines_reads, closed}
use Rattle.grammar.proofs.Follow.{Follows, took, off, on, next, then_as, unless_over, excess_follows}
use Rattle.grammar.proofs.Heads.{line_of, right_head, behind, Lined, head_follows}
use Rattle.grammar.proofs.Short.{head_inside, short_since}

pub every_join : {A : Type 0} (p : A → Bool) (u v : List A) → every p u ≡ true → every p v ≡ true → every p (u ++ v) ≡ true
unfolding every
every_join p [] v h g = g
every_join p (x ∷ u) v h g = (let q = and_parts (p x) (every p u) h in and_from (p x) _ q.0 (every_join p u v q.1 g))

pub every_parts : {A : Type 0} (p : A → Bool) (u v : List A) → every p (u ++ v) ≡ true → (every p u ≡ true) × (every p v ≡ true)
unfolding every
every_parts p [] v h = (refl, h)
every_parts p (x ∷ u) v h = (let q = and_parts (p x) _ h in let r = every_parts p u v q.1 in (and_from (p x) _ q.0 r.0, r.1))

-- Lines that name these, where so many may come, so deep.
pub record Kept (names : List (List ℕ)) (left deep : ℕ) (ls : Lines) (after : ℕ) : Type 0 where
  pub right : right_lines names ls ≡ true
  pub shallow : depth ls ≤ deep
  pub shorts : every short (lines_of ls) ≡ true
  pub counts : length (lines_of ls) + suc after ≡ left

abbrev as_read : Block → read.Block
as_read b = record { lines = b.lines; close = b.close }

-- Behind the lines of a branch, as they are checked.
abbrev pub check_closed : (ℕ → ℕ → Bool → List ℕ → Checked Block) → ℕ → Bool → Term → Close → Lines → ℕ → List ℕ → Checked Block
check_closed go deep els t by_end b l d = before_block (when t b) (go l deep els d)
check_closed go deep els t by_else b l d = then (go l (deep - 1) false d) (λ e f. before_block (choose t b e.lines) (go e.left deep els f))

module _ (names : List (List ℕ)) where
  abbrev Goes : ℕ → ℕ → Checked Block → Got read.Block → Type 0
  Goes left deep = Follows (λ b c. got (as_read b) c) (λ b _. Kept names left deep b.lines b.left)

  -- One line more in front.
  before_follows : {r : Checked Block} {g : Got read.Block} {left deep : ℕ} (more : ℕ) (f : Lines → Lines) → Goes left deep r g →
      ((ls : Lines) (after : ℕ) → Kept names left deep ls after → Kept names more deep (f ls) after) → Goes more deep (before_block f r) (read.before_block f g)
  before_follows more f h k = next _ h (λ b c _ x. took refl (k b.lines b.left x))

  -- The lines behind the first, where those that are one shorter follow.
  module _ (m n : ℕ) (ih : (left deep : ℕ) (els : Bool) (bs : List ℕ) → length bs < n → Goes left deep (check_lines names m left deep els bs) (read_lines n els bs))
      (left deep : ℕ) (els : Bool) (some : 0 < left) where
    -- Behind a line with no lines in it.
    plain_kept : (l : List ℕ) (ls : Lines) (after : ℕ) (f : Lines → Lines) → short l ≡ true → right_lines names (f ls) ≡ true → depth (f ls) ≡ depth ls →
        lines_of (f ls) ≡ l ∷ lines_of ls → Kept names (left - 1) deep ls after → Kept names left deep (f ls) after
    unfolding every
    plain_kept l ls after f s r d e k =
        record {
          right = r;
          shallow = omega arith;
          shorts = subst (λ z. every short z ≡ true) (sym e) (and_from (short l) _ s k.shorts);
          counts = omega (arith, ap length e);
        }

    deeper : not (eqb deep 0) ≡ true → 0 < deep
    deeper o = (let z = eqb-false deep 0 (not-true (eqb deep 0) o) in omega arith)

    -- Behind a branch with no else, or a repeat.
    nested_kept : (l : List ℕ) (t : Term) (f : Lines → Lines → Lines) (b ls : Lines) (more after : ℕ) → short l ≡ true → (not (eqb deep 0) && right_term names t) ≡ true →
        right_lines names (f b ls) ≡ (right_term names t && (right_lines names b && right_lines names ls)) → depth (f b ls) ≡ max (suc (depth b)) (depth ls) →
        lines_of (f b ls) ≡ l ∷ (lines_of b ++ (codes "end" ∷ lines_of ls)) → Kept names (left - 1) (deep - 1) b more → Kept names more deep ls after →
        Kept names left deep (f b ls) after
    unfolding every
    nested_kept l t f b ls more after s o r d e k x =
        (let p = and_parts (not (eqb deep 0)) (right_term names t) o in
        let z = deeper p.0 in
        record {
          right = r ∙ and_from (right_term names t) _ p.1 (and_from (right_lines names b) _ k.right x.right);
          shallow = omega arith;
          shorts = subst (λ z. every short z ≡ true) (sym e) (and_from (short l) _ s (every_join short (lines_of b) (codes "end" ∷ lines_of ls) k.shorts x.shorts));
          counts = omega (arith, ap length e, length-append (lines_of b) (codes "end" ∷ lines_of ls));
        })

    when_closed : (t : Term) → right_head names deep els (whens t) ≡ true → short (line_of (whens t)) ≡ true → (b : Lines) (c : Close) (after : ℕ) →
        Kept names (left - 1) (deep - 1) b after → (d : List ℕ) → length d < n →
        Goes left deep (check_closed (check_lines names m) deep els t c b after d)
        (closed (read_lines n) els c t b d)
    unfolding right_lines depth lines_of every
    when_closed t o s b by_end after k d l =
        before_follows left (when t b) (ih after deep els d l) (λ ls more x. nested_kept (line_of (whens t)) t (when t) b ls after more s o refl refl refl k x)
    when_closed t o s b by_else after k d l =
        (let p = and_parts (not (eqb deep 0)) (right_term names t) o in
        let z = deeper p.0 in
        then_as _ (lines_reads n false) l (ih after (deep - 1) false d l) (λ e f w y.
        before_follows left (choose t b e.lines) (ih e.left deep els f (omega arith)) (λ ls more x. record {
          right = and_from (right_term names t) _ p.1 (and_from (right_lines names b) _ k.right (and_from (right_lines names e.lines) _ y.right x.right));
          shallow = omega arith;
          shorts = and_from (short (line_of (whens t))) _ s (every_join short (lines_of b) _ k.shorts
              (every_join short (lines_of e.lines) (codes "end" ∷ lines_of ls) y.shorts x.shorts));
          counts = omega (
            arith,
            length-append (lines_of b) (codes "else" ∷ (lines_of e.lines ++ (codes "end" ∷ lines_of ls))),
            length-append (lines_of e.lines) (codes "end" ∷ lines_of ls),
          );
        })))

    behind_follows : (h : Head) (c : List ℕ) → length c < n → right_head names deep els h ≡ true → short (line_of h) ≡ true →
        Goes left deep (check_behind (check_lines names m) (left - 1) deep els h c) (behind (read_lines n) els h c)
    unfolding right_lines depth lines_of every
    behind_follows ends c l o s = took refl (record { right = refl; shallow = omega arith; shorts = refl; counts = omega arith })
    behind_follows elses c l o s = took refl (record { right = refl; shallow = omega arith; shorts = refl; counts = omega arith })
    behind_follows (assigns w t) c l o s =
        (let p = and_parts (among w names) (right_term names t) o in
        before_follows left (assign w t) (ih (left - 1) deep els c l) (λ ls after x.
        plain_kept (line_of (assigns w t)) ls after (assign w t) s (and_from (among w names) _ p.0 (and_from (right_term names t) _ p.1 x.right)) refl refl x))
    behind_follows (draws w t) c l o s =
        (let p = and_parts (among w names) (right_term names t) o in
        before_follows left (draw w t) (ih (left - 1) deep els c l) (λ ls after x.
        plain_kept (line_of (draws w t)) ls after (draw w t) s (and_from (among w names) _ p.0 (and_from (right_term names t) _ p.1 x.right)) refl refl x))
    behind_follows (says t) c l o s =
        before_follows left (say t) (ih (left - 1) deep els c l) (λ ls after x.
        plain_kept (line_of (says t)) ls after (say t) s (and_from (right_term names t) _ o x.right) refl refl x)
    behind_follows (sends t u v) c l o s =
        (let p = and_parts (right_term names t) (right_term names u && right_term names v) o in
        let q = and_parts (right_term names u) (right_term names v) p.1 in
        before_follows left (send t u v) (ih (left - 1) deep els c l) (λ ls after x.
        plain_kept (line_of (sends t u v)) ls after (send t u v) s
        (and_from (right_term names t) _ p.0 (and_from (right_term names u) _ q.0 (and_from (right_term names v) _ q.1 x.right))) refl refl x))
    behind_follows (whens t) c l o s =
        then_as _ (lines_reads n true) l (ih (left - 1) (deep - 1) true c l) (λ b d w k.
        when_closed t o s b.lines b.close b.left k d (omega arith))
    behind_follows (agains t) c l o s =
        then_as _ (lines_reads n false) l (ih (left - 1) (deep - 1) false c l) (λ b d w k.
        before_follows left (again t b.lines) (ih b.left deep els d (omega arith)) (λ ls more x.
        nested_kept (line_of (agains t)) t (again t) b.lines ls b.left more s o refl refl refl k x))

  pub lines_follow : (m n left deep : ℕ) (els : Bool) (bs : List ℕ) → length bs < n → Goes left deep (check_lines names m left deep els bs) (read_lines n els bs)
  unfolding check_lines read_lines
  lines_follow zero n left deep els bs l = off (λ z. absurd (omega arith))
  lines_follow (suc m) zero left deep els bs l = absurd (omega arith)
  lines_follow (suc m) (suc n) left deep els bs l =
      cond_both (eqb left 0) _ _ (λ r. Goes left deep r (and_then (read_word bs) (read_by (read_lines n) els))) (λ _. excess_follows bs (λ c e. e) (head_follows names deep els (read_lines n) bs))
      (λ f. (let z = eqb-false left 0 f in
      on (unless_over {P = λ h c. Lined names deep els bs h c × (short (line_of h) ≡ true)} line_bytes bs (too_long bs) (λ h c _ f x. (x, short_line h c f x)) (head_follows names deep els (read_lines n) bs))
      (λ h c x. behind_follows m n (λ left deep els bs. lines_follow m n left deep els bs) left deep els (omega arith) h c
      (omega (arith, ap length x.0.splits, length-append (line_of h) (10 ∷ c))) x.0.right x.1)))
    where
      short_line : (h : Head) (c : List ℕ) → too_long bs ≡ false → Lined names deep els bs h c → short (line_of h) ≡ true
      short_line h c f x = short_since (line_of h) c (head_inside h x.spells) (subst (λ z. too_long z ≡ false) x.splits f)
