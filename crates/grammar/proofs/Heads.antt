-- The first line of lines: its bytes, what it must keep, and that what is checked of it follows what is read.
use Rattle.std.proofs.Common.{◌≡◌, ℕ, suc, ◌<◌, Bool, true, false, cond, not, ◌&&◌, eqb, List, [], ◌∷◌, ◌++◌, length, codes, sym, refl, ap, ◌∙◌, subst, append_assoc, arith}
use Rattle.std.proofs.lemmas.Bool.{and_from, cond-true, cond-false, cond_both, not_from_false}
use Rattle.grammar.specs.Syntax.{is_letter, same, among, is_name, is_operand, newline, Term, word, none, assign, draw, say, send, again, show_term, spelled_term}
use Rattle.grammar.specs.Parse.{Got, got, bad, and_then, expect, read_word, checked, read_term, read_expr, read_last, by_end, by_else, Block, before_block, read_by}
use Rattle.grammar.specs.Check.{Checked, taken, refused, then, formed, Head, ends, elses, assigns, draws, says, sends, whens, agains, check_last, check_rest, check_send, check_value, check_deeper, check_by, check_head}
use Rattle.grammar.specs.Rules.{right_term}
use Rattle.grammar.proofs.Words.{same_is, letter_in, word_no_paren}
use Rattle.grammar.proofs.Leaves.{expects, words}
use Rattle.grammar.proofs.Trees.{exprs, lasts, show_last, drawn, by_first, closed}
use Rattle.grammar.proofs.Follow.{Follows, took, off, front_read, by_test, formed_as, next, then_by, leaf, asked, term_follows, last_follows}

-- The bytes of the line, without its end.
abbrev pub line_of : Head → List ℕ
line_of ends = codes "end"
line_of elses = codes "else"
line_of (assigns w t) = w ++ (codes " = " ++ show_term t)
line_of (draws w t) = w ++ (codes " = draw " ++ show_term t)
line_of (says t) = codes "say " ++ show_term t
line_of (sends t u v) = codes "send " ++ (show_term t ++ (codes " to " ++ (show_term u ++ (codes " after " ++ show_term v))))
line_of (whens t) = codes "if " ++ show_term t
line_of (agains t) = codes "again " ++ show_term t

abbrev pub spelled_head : Head → Bool
spelled_head ends = true
spelled_head elses = true
spelled_head (assigns w t) = is_name w && spelled_term t
spelled_head (draws w t) = is_name w && spelled_term t
spelled_head (says t) = spelled_term t
spelled_head (sends t u v) = spelled_term t && (spelled_term u && spelled_term v)
spelled_head (whens t) = spelled_term t
spelled_head (agains t) = spelled_term t

abbrev pub right_head : List (List ℕ) → ℕ → Bool → Head → Bool
right_head names deep els ends = true
right_head names deep els elses = els
right_head names deep els (assigns w t) = among w names && right_term names t
right_head names deep els (draws w t) = among w names && right_term names t
right_head names deep els (says t) = right_term names t
right_head names deep els (sends t u v) = right_term names t && (right_term names u && right_term names v)
right_head names deep els (whens t) = not (eqb deep 0) && right_term names t
right_head names deep els (agains t) = not (eqb deep 0) && right_term names t

-- The lines behind, as they are read.
abbrev pub behind : (Bool → List ℕ → Got Block) → Bool → Head → List ℕ → Got Block
behind go els ends c = got (record { lines = none; close = by_end }) c
behind go els elses c = got (record { lines = none; close = by_else }) c
behind go els (assigns w t) c = before_block (assign w t) (go els c)
behind go els (draws w t) c = before_block (draw w t) (go els c)
behind go els (says t) c = before_block (say t) (go els c)
behind go els (sends t u v) c = before_block (send t u v) (go els c)
behind go els (whens t) c = and_then (go true c) (λ b d. closed go els b.close t b.lines d)
behind go els (agains t) c = and_then (go false c) (λ b d. before_block (again t b.lines) (go els d))

-- The line that was taken.
pub record Lined (names : List (List ℕ)) (deep : ℕ) (els : Bool) (bs : List ℕ) (h : Head) (c : List ℕ) : Type 0 where
  pub splits : bs ≡ line_of h ++ (10 ∷ c)
  pub spells : spelled_head h ≡ true
  pub right : right_head names deep els h ≡ true

-- A word is an expression; K reads on behind it.
word_last : {A : Type 0} (K : Term → List ℕ → Got A) (b : ℕ) (d v f : List ℕ) → is_letter b ≡ true → read_word (b ∷ d) ≡ got v f →
    cond (is_operand v) (and_then (expect newline f) (λ _ e. K (word v) e)) (bad f) ≡ and_then (read_last (b ∷ d)) K
unfolding read_term
word_last {A} K b d v f t e =
    pick (is_operand v) ∙ ap (λ z. and_then (and_then z ended) K)
    (sym (cond-false (eqb b 40) _ _ (word_no_paren b (letter_in b t)) ∙ cond-true (is_letter b) _ _ t ∙ ap (λ z. and_then (checked is_operand z) (λ w c. got (word w) c)) e))
  where
    ended : Term → List ℕ → Got Term
    ended t c = and_then (expect newline c) (λ _ d. got t d)

    joined : (g : Got (Unit {0})) → and_then g (λ _ e. K (word v) e) ≡ and_then (and_then g (λ _ d. got (word v) d)) K
    joined (got x c) = refl
    joined (bad c) = refl

    pick : (o : Bool) → cond o (and_then (expect newline f) (λ _ e. K (word v) e)) (bad f)
        ≡ and_then (and_then (and_then (cond o (got v f) (bad f)) (λ w c. got (word w) c)) ended) K
    pick true = joined (expect newline f)
    pick false = refl

-- Behind its first word w.
module _ (names : List (List ℕ)) (deep : ℕ) (els : Bool) (go : Bool → List ℕ → Got Block) (bs w c : List ℕ) (e : bs ≡ w ++ c) where
  abbrev Goes : Checked Head → Got Block → Type 0
  Goes = Follows (behind go els) (Lined names deep els bs)

  ends_follow : w ≡ codes "end" →
      Goes (then (formed (expect newline c)) (λ _ d. taken ends d)) (and_then (expect newline c) (λ _ c. got (record { lines = none; close = by_end }) c))
  ends_follow q = leaf _ (λ n. expects newline) (λ _ d x. took refl (record { splits = cc x.splits; spells = refl; right = refl }))

  says_follow : w ≡ codes "say" →
      Goes (check_rest names says c) (and_then (expect (codes " ") c) (λ _ c. and_then (read_last c) (λ t d. before_block (say t) (go els d))))
  says_follow q =
      leaf _ (λ n. expects (codes " ")) (λ _ d x. then_by _ (λ n. lasts) (last_follows names d) (λ t f y p.
      took refl (record { splits = cc (append_assoc (show_term t) newline f); spells = y.fine; right = p })))

  elses_follow : w ≡ codes "else" →
      Goes (cond els (then (formed (expect newline c)) (λ _ d. taken elses d)) (refused 1 c))
      (cond els (and_then (expect newline c) (λ _ c. got (record { lines = none; close = by_else }) c)) (bad c))
  elses_follow q =
      by_test els (λ t. leaf _ (λ n. expects newline) (λ _ d x. took refl (record { splits = cc x.splits; spells = refl; right = t }))) (λ _. off (λ _. refl))

  sends_follow : w ≡ codes "send" →
      Goes (check_send names c)
      (and_then (expect (codes " ") c) (λ _ c. and_then (read_expr c) (λ t d. and_then (expect (codes " to ") d) (λ _ e. and_then (read_expr e) (λ u f.
      and_then (expect (codes " after ") f) (λ _ g. and_then (read_last g) (λ v h. before_block (send t u v) (go els h))))))))
  sends_follow q =
      leaf _ (λ n. expects (codes " ")) (λ _ d x. then_by _ (λ n. exprs) (term_follows names _ (suc (length d)) d (omega arith)) (λ t f y p.
      leaf _ (λ n. expects (codes " to ")) (λ _ g z. then_by _ (λ n. exprs) (term_follows names _ (suc (length g)) g (omega arith)) (λ u h i r.
      leaf _ (λ n. expects (codes " after ")) (λ _ j k. then_by _ (λ n. lasts) (last_follows names j) (λ v l m s.
      took refl (record {
        splits = cc (send_line t u v l);
        spells = and_from (spelled_term t) _ y.fine (and_from (spelled_term u) _ i.fine m.fine);
        right = and_from (right_term names t) _ p (and_from (right_term names u) _ r s);
      })))))))
    where
      send_line : (t u v : Term) (l : List ℕ) →
          line_of (sends t u v) ++ (10 ∷ l) ≡ codes "send" ++ (codes " " ++ (show_term t ++ (codes " to " ++ (show_term u ++ (codes " after " ++ (show_last v ++ l))))))
      send_line t u v l = simp append_assoc

  deeper_follow : (f : Term → Head) → ((t : Term) (d : List ℕ) → w ++ (codes " " ++ (show_last t ++ d)) ≡ line_of (f t) ++ (10 ∷ d)) →
      ((t : Term) → spelled_term t ≡ true → spelled_head (f t) ≡ true) →
      ((t : Term) → eqb deep 0 ≡ false → right_term names t ≡ true → right_head names deep els (f t) ≡ true) →
      Goes (check_deeper names deep bs f c) (and_then (expect (codes " ") c) (λ _ c. and_then (read_last c) (λ t d. behind go els (f t) d)))
  deeper_follow f shows spells right =
      leaf _ (λ n. expects (codes " ")) (λ _ d x. cond_both (eqb deep 0) (refused 4 bs) (then (check_last names d) (λ t e. taken (f t) e))
      (λ r. Goes r (and_then (read_last d) (λ t d. behind go els (f t) d))) (λ _. off (λ z. absurd (omega arith))) (λ z.
      then_by _ (λ n. lasts) (last_follows names d) (λ t g y p. took refl (record { splits = cc (shows t g); spells = spells t y.fine; right = right t z p }))))

  module _ (name : is_name w ≡ true) (there : among w names ≡ true) where
    assigned_follow : (d : List ℕ) → c ≡ codes " = " ++ d →
        Goes (then (check_last names d) (λ t f. taken (assigns w t) f)) (and_then (read_last d) (λ t f. before_block (assign w t) (go els f)))
    assigned_follow d x =
        then_by _ (λ n. lasts) (last_follows names d) (λ t f y p.
        took refl (record {
          splits = cc (shows t f, y.splits);
          spells = and_from (is_name w) _ name y.fine;
          right = and_from (among w names) _ there p;
        }))
      where
        shows : (t : Term) (f : List ℕ) → w ++ (codes " = " ++ (show_last t ++ f)) ≡ line_of (assigns w t) ++ (10 ∷ f)
        shows t f = simp append_assoc

    drawn_follow : (b : ℕ) (d v f : List ℕ) → c ≡ codes " = " ++ (b ∷ d) → is_letter b ≡ true → read_word (b ∷ d) ≡ got v f →
        Goes (cond (same v (codes "draw")) (check_rest names (draws w) f) (then (check_last names (b ∷ d)) (λ t f. taken (assigns w t) f))) (drawn (go els) w v f)
    drawn_follow b d v f x t r =
        by_test (same v (codes "draw"))
        (λ s. leaf _ (λ n. expects (codes " ")) (λ _ g y. then_by _ (λ n. lasts) (last_follows names g) (λ t k z p.
        took refl (record {
          splits = cc (shows t k, same_is v (codes "draw") s, (front_read words more r).splits, y.splits, z.splits);
          spells = and_from (is_name w) _ name z.fine;
          right = and_from (among w names) _ there p;
        }))))
        (λ _. subst (Goes (then (check_last names (b ∷ d)) (λ t f. taken (assigns w t) f))) (sym (word_last (λ t f. before_block (assign w t) (go els f)) b d v f t r))
        (assigned_follow (b ∷ d) x))
      where
        shows : (t : Term) (f : List ℕ) → w ++ (codes " = " ++ (codes "draw" ++ (codes " " ++ (show_last t ++ f)))) ≡ line_of (draws w t) ++ (10 ∷ f)
        shows t f = simp append_assoc

        more : length (b ∷ d) < suc (length (b ∷ d))
        more = omega arith

    value_follow : (d : List ℕ) → c ≡ codes " = " ++ d → Goes (check_value names w d) (by_first (go els) w d)
    value_follow [] x = off (λ _. refl)
    value_follow (b ∷ d) x =
        by_test (is_letter b) (λ t. next _ (formed_as (read_word (b ∷ d))) (λ v f r _. drawn_follow b d v f x t r)) (λ _. assigned_follow (b ∷ d) x)

  by_follow : Goes (check_by names deep els bs w c) (read_by go els w c)
  by_follow =
      by_test (same w (codes "end")) (λ t. ends_follow (same_is w _ t)) (λ _.
      by_test (same w (codes "else")) (λ t. elses_follow (same_is w _ t)) (λ _.
      by_test (same w (codes "say")) (λ t. says_follow (same_is w _ t)) (λ _.
      by_test (same w (codes "send")) (λ t. sends_follow (same_is w _ t)) (λ _.
      by_test (same w (codes "if"))
      (λ s. deeper_follow whens (λ t d. cc (append_assoc (show_term t) newline d, same_is w (codes "if") s)) (λ t o. o) (λ t z p. and_from (not (eqb deep 0)) _ (not_from_false _ z) p)) (λ _.
      by_test (same w (codes "again"))
      (λ s. deeper_follow agains (λ t d. cc (append_assoc (show_term t) newline d, same_is w (codes "again") s)) (λ t o. o) (λ t z p. and_from (not (eqb deep 0)) _ (not_from_false _ z) p)) (λ _.
      by_test (is_name w) (λ name. asked 2 bs (among w names) (λ z. omega arith) (λ there. leaf _ (λ n. expects (codes " = ")) (λ _ d x. value_follow name there d x.splits)))
      (λ _. off (λ _. refl))))))))

pub head_follows : (names : List (List ℕ)) (deep : ℕ) (els : Bool) (go : Bool → List ℕ → Got Block) (bs : List ℕ) →
    Follows (behind go els) (Lined names deep els bs) (check_head names deep els bs) (and_then (read_word bs) (read_by go els))
head_follows names deep els go bs = leaf _ (λ n. words) (λ w c x. by_follow names deep els go bs w c x.splits)
