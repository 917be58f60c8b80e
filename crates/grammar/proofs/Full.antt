-- Every text is read whole.
use Rattle.std.proofs.Common.{◌≡◌, ℕ, zero, suc, ◌<◌, ◌≤◌, Bool, true, false, not, ◌&&◌, eqb, leb, List, [], ◌∷◌, ◌++◌, length, codes, sym, refl, ap, ◌∙◌, subst, append_assoc, arith, length-append}
use Rattle.std.proofs.lemmas.Bool.{both_ways, and_parts, cond-true, cond-false, leb-true}
use Rattle.grammar.specs.Syntax.{is_letter, is_digit, all, same, among, reserved, is_word, is_name, is_operand, is_number, Sign, plus, minus, times, over, remains, less, equal, sign_byte, Term, number, word, two, Lines, none, assign, draw, say, send, when, choose, again, Kind, Thing, Note, Text, show_term, show_lines, show_row, show_kinds, show_things, show_notes, show, spelled_term, spelled_lines, every, spelled_kind, spelled_thing, spelled_note, IsText}
use Rattle.grammar.specs.Parse.{Got, got, and_then, expect, read_name, read_number, read_sign, read_plain, read_term, read_expr, read_last, Close, by_end, by_else, Block, before_block, read_assign, read_by, read_lines, read_next, read_row, read_upto, read_kind, read_thing, read_note, read_notes, read_things, read_kinds, parse}
use Rattle.grammar.proofs.Words.{Ends, letter_in, digit_in, digit_no_letter, word_no_paren, word_full, checked_full, name_full, number_full, operand_no_draw, by_name}

-- What comes behind something that was read.
pub read_on : {A B : Type 0} {g : Got A} {a : A} {c : List ℕ} (f : A → List ℕ → Got B) → g ≡ got a c → and_then g f ≡ f a c
read_on f h = ap (λ z. and_then z f) h

pub sign_full : (s : Sign) (k : List ℕ) → read_sign (sign_byte s ∷ k) ≡ got s k
unfolding read_sign
sign_full plus k = refl
sign_full minus k = refl
sign_full times k = refl
sign_full over k = refl
sign_full remains k = refl
sign_full less k = refl
sign_full equal k = refl

-- An expression that begins with a byte of a word is read as a plain one.
plain_word : (w k : List ℕ) → is_operand w ≡ true → Ends k → read_plain (w ++ k) ≡ got (word w) k
plain_word [] k h e = absurd (both_ways true (sym h) refl)
plain_word (b ∷ u) k h e =
    (let p = (and_parts (is_word (b ∷ u)) _ h).0 in
    cond-true (is_letter b) _ _ (and_parts (is_letter b) _ p).0 ∙ read_on (λ w c. got (word w) c) (checked_full is_operand (b ∷ u) k p h e))

plain_number : (w k : List ℕ) → is_number w ≡ true → Ends k → read_plain (w ++ k) ≡ got (number w) k
plain_number [] k h e = absurd (both_ways true (sym h) refl)
plain_number (b ∷ u) k h e =
    cond-false (is_letter b) _ _ (digit_no_letter b (and_parts (is_digit b) _ h).0) ∙ read_on (λ w c. got (number w) c) (number_full (b ∷ u) k h e)

pub show_two : (s : Sign) (t u : Term) (k : List ℕ) →
    show_term (two s t u) ++ k ≡ 40 ∷ (show_term t ++ (32 ∷ sign_byte s ∷ 32 ∷ (show_term u ++ (41 ∷ k))))
unfolding show_term
show_two s t u k = simp append_assoc

pub term_full : (t : Term) (n : ℕ) (k : List ℕ) → spelled_term t ≡ true → Ends k → length (show_term t ++ k) < n → read_term n (show_term t ++ k) ≡ got t k
unfolding read_term show_term spelled_term expect
term_full t zero k h e l = absurd (omega arith)
term_full (number []) (suc n) k h e l = absurd (both_ways true (sym h) refl)
term_full (number (b ∷ u)) (suc n) k h e l =
    cond-false (eqb b 40) _ _ (word_no_paren b (digit_in b (and_parts (is_digit b) _ h).0)) ∙ plain_number (b ∷ u) k h e
term_full (word []) (suc n) k h e l = absurd (both_ways true (sym h) refl)
term_full (word (b ∷ u)) (suc n) k h e l =
    cond-false (eqb b 40) _ _ (word_no_paren b (letter_in b (and_parts (is_letter b) _ (and_parts (is_word (b ∷ u)) _ h).0).0)) ∙ plain_word (b ∷ u) k h e
term_full (two s t u) (suc n) k h e l =
    (let p = and_parts (spelled_term t) (spelled_term u) h in
    let i = length-append (show_term t) (32 ∷ sign_byte s ∷ 32 ∷ (show_term u ++ (41 ∷ k))) in
    let j : length (show_term t ++ (32 ∷ sign_byte s ∷ 32 ∷ (show_term u ++ (41 ∷ k)))) < n = omega (arith, ap length (show_two s t u k)) in
    ap (read_term (suc n)) (show_two s t u k) ∙ read_on _ (term_full t n (32 ∷ sign_byte s ∷ 32 ∷ (show_term u ++ (41 ∷ k))) p.0 refl j)
    ∙ read_on _ (sign_full s (32 ∷ (show_term u ++ (41 ∷ k)))) ∙ read_on _ (term_full u n (41 ∷ k) p.1 refl (omega arith)))

pub expr_full : (t : Term) (k : List ℕ) → spelled_term t ≡ true → Ends k → read_expr (show_term t ++ k) ≡ got t k
expr_full t k h e = term_full t (suc (length (show_term t ++ k))) k h e (omega arith)

pub last_full : (t : Term) (k : List ℕ) → spelled_term t ≡ true → read_last (show_term t ++ (10 ∷ k)) ≡ got t k
unfolding expect
last_full t k h = read_on _ (expr_full t (10 ∷ k) h refl)

-- Behind a name at the front of a line.
assign_full : (go : List ℕ → Got Block) (w : List ℕ) (t : Term) (k : List ℕ) → spelled_term t ≡ true →
    read_assign go w (32 ∷ 61 ∷ 32 ∷ (show_term t ++ (10 ∷ k))) ≡ before_block (assign w t) (go k)
unfolding expect show_term spelled_term
assign_full go w (number []) k h = absurd (both_ways true (sym h) refl)
assign_full go w (number (b ∷ u)) k h =
    cond-false (is_letter b) _ _ (digit_no_letter b (and_parts (is_digit b) _ h).0) ∙ read_on _ (last_full (number (b ∷ u)) k h)
assign_full go w (word []) k h = absurd (both_ways true (sym h) refl)
assign_full go w (word (b ∷ u)) k h =
    (let p = (and_parts (is_word (b ∷ u)) _ h).0 in
    cond-true (is_letter b) _ _ (and_parts (is_letter b) _ p).0 ∙ read_on _ (word_full (b ∷ u) (10 ∷ k) p refl)
    ∙ cond-false (same (b ∷ u) (codes "draw")) _ _ (operand_no_draw (b ∷ u) h) ∙ cond-true (is_operand (b ∷ u)) _ _ h)
assign_full go w (two s t u) k h = read_on _ (last_full (two s t u) k h)

draw_full : (go : List ℕ → Got Block) (w : List ℕ) (t : Term) (k : List ℕ) → spelled_term t ≡ true →
    read_assign go w (32 ∷ 61 ∷ 32 ∷ (codes "draw" ++ (32 ∷ (show_term t ++ (10 ∷ k))))) ≡ before_block (draw w t) (go k)
unfolding expect same all
draw_full go w t k h = read_on _ (word_full (codes "draw") (32 ∷ (show_term t ++ (10 ∷ k))) refl refl) ∙ read_on _ (last_full t k h)

-- How lines close is shown, and whether they may close so.
abbrev pub show_close : Close → List ℕ
show_close by_end = codes "end"
show_close by_else = codes "else"

abbrev pub may_close : Bool → Close → Bool
may_close els by_end = true
may_close els by_else = els

-- Each line as it is read, with r behind.
pub show_assign : (w : List ℕ) (t : Term) (ls : Lines) (r : List ℕ) →
    show_lines (assign w t ls) ++ r ≡ w ++ (32 ∷ 61 ∷ 32 ∷ (show_term t ++ (10 ∷ (show_lines ls ++ r))))
unfolding show_lines
show_assign w t ls r = simp append_assoc

pub show_draw : (w : List ℕ) (t : Term) (ls : Lines) (r : List ℕ) →
    show_lines (draw w t ls) ++ r ≡ w ++ (32 ∷ 61 ∷ 32 ∷ (codes "draw" ++ (32 ∷ (show_term t ++ (10 ∷ (show_lines ls ++ r))))))
unfolding show_lines
show_draw w t ls r = simp append_assoc

pub show_say : (t : Term) (ls : Lines) (r : List ℕ) → show_lines (say t ls) ++ r ≡ codes "say" ++ (32 ∷ (show_term t ++ (10 ∷ (show_lines ls ++ r))))
unfolding show_lines
show_say t ls r = simp append_assoc

pub show_send : (t u v : Term) (ls : Lines) (r : List ℕ) →
    show_lines (send t u v ls) ++ r
    ≡ codes "send" ++ (32 ∷ (show_term t ++ (codes " to " ++ (show_term u ++ (codes " after " ++ (show_term v ++ (10 ∷ (show_lines ls ++ r))))))))
unfolding show_lines
show_send t u v ls r = simp append_assoc

pub show_when : (t : Term) (b ls : Lines) (r : List ℕ) →
    show_lines (when t b ls) ++ r ≡ codes "if" ++ (32 ∷ (show_term t ++ (10 ∷ (show_lines b ++ (codes "end" ++ (10 ∷ (show_lines ls ++ r)))))))
unfolding show_lines
show_when t b ls r = simp append_assoc

pub show_choose : (t : Term) (b c ls : Lines) (r : List ℕ) →
    show_lines (choose t b c ls) ++ r
    ≡ codes "if" ++ (32 ∷ (show_term t ++ (10 ∷ (show_lines b ++ (codes "else" ++ (10 ∷ (show_lines c ++ (codes "end" ++ (10 ∷ (show_lines ls ++ r))))))))))
unfolding show_lines
show_choose t b c ls r = simp append_assoc

pub show_again : (t : Term) (b ls : Lines) (r : List ℕ) →
    show_lines (again t b ls) ++ r ≡ codes "again" ++ (32 ∷ (show_term t ++ (10 ∷ (show_lines b ++ (codes "end" ++ (10 ∷ (show_lines ls ++ r)))))))
unfolding show_lines
show_again t b ls r = simp append_assoc

-- Lines and how they close, with k behind.
abbrev pub shown : Lines → Close → List ℕ → List ℕ
shown ls c k = show_lines ls ++ (show_close c ++ (10 ∷ k))

abbrev Whole : Lines → Type 0
Whole ls = (n : ℕ) (els : Bool) (c : Close) (k : List ℕ) → may_close els c ≡ true → length (shown ls c k) < n →
    read_lines n els (shown ls c k) ≡ got (record { lines = ls; close = c }) k

-- A word at the front of lines.
front : (n : ℕ) (els : Bool) (w k : List ℕ) → is_word w ≡ true → Ends k → read_lines (suc n) els (w ++ k) ≡ read_by (read_lines n) els w k
unfolding read_lines
front n els w k h e = read_on (read_by (read_lines n) els) (word_full w k h e)

whole_none : Whole none
unfolding read_lines show_lines expect same all
whole_none zero els c k m l = absurd (omega arith)
whole_none (suc n) els by_end k m l = read_on (read_by (read_lines n) els) (word_full (codes "end") (10 ∷ k) refl refl)
whole_none (suc n) els by_else k m l = read_on (read_by (read_lines n) els) (word_full (codes "else") (10 ∷ k) refl refl) ∙ cond-true els _ _ m

whole_assign : (w : List ℕ) (t : Term) (ls : Lines) → is_name w ≡ true → spelled_term t ≡ true → Whole ls → Whole (assign w t ls)
whole_assign w t ls h g i zero els c k m l = absurd (omega arith)
whole_assign w t ls h g i (suc n) els c k m l =
    (let e = show_assign w t ls (show_close c ++ (10 ∷ k)) in
    let a = 10 ∷ shown ls c k in
    let j = 32 ∷ 61 ∷ 32 ∷ (show_term t ++ a) in
    ap (read_lines (suc n) els) e ∙ front n els w j (and_parts (is_word w) (not (among w reserved)) h).0 refl
    ∙ by_name w _ _ _ _ _ _ _ _ h ∙ assign_full (read_lines n els) w t (shown ls c k) g
    ∙ ap (before_block (assign w t)) (i n els c k m (omega (arith, ap length e, length-append w j, length-append (show_term t) a))))

whole_draw : (w : List ℕ) (t : Term) (ls : Lines) → is_name w ≡ true → spelled_term t ≡ true → Whole ls → Whole (draw w t ls)
whole_draw w t ls h g i zero els c k m l = absurd (omega arith)
whole_draw w t ls h g i (suc n) els c k m l =
    (let e = show_draw w t ls (show_close c ++ (10 ∷ k)) in
    let a = 10 ∷ shown ls c k in
    let j = 32 ∷ 61 ∷ 32 ∷ (codes "draw" ++ (32 ∷ (show_term t ++ a))) in
    ap (read_lines (suc n) els) e ∙ front n els w j (and_parts (is_word w) (not (among w reserved)) h).0 refl
    ∙ by_name w _ _ _ _ _ _ _ _ h ∙ draw_full (read_lines n els) w t (shown ls c k) g
    ∙ ap (before_block (draw w t)) (i n els c k m (omega (arith, ap length e, length-append w j, length-append (show_term t) a))))

whole_say : (t : Term) (ls : Lines) → spelled_term t ≡ true → Whole ls → Whole (say t ls)
unfolding expect same all
whole_say t ls g i zero els c k m l = absurd (omega arith)
whole_say t ls g i (suc n) els c k m l =
    (let e = show_say t ls (show_close c ++ (10 ∷ k)) in
    let a = 10 ∷ shown ls c k in
    ap (read_lines (suc n) els) e ∙ front n els (codes "say") (32 ∷ (show_term t ++ a)) refl refl ∙ read_on _ (last_full t (shown ls c k) g)
    ∙ ap (before_block (say t)) (i n els c k m (omega (arith, ap length e, length-append (show_term t) a))))

whole_send : (t u v : Term) (ls : Lines) → spelled_term t ≡ true → spelled_term u ≡ true → spelled_term v ≡ true → Whole ls → Whole (send t u v ls)
unfolding expect same all
whole_send t u v ls f g h i zero els c k m l = absurd (omega arith)
whole_send t u v ls f g h i (suc n) els c k m l =
    (let e = show_send t u v ls (show_close c ++ (10 ∷ k)) in
    let a = 10 ∷ shown ls c k in
    let b = codes " after " ++ (show_term v ++ a) in
    let d = codes " to " ++ (show_term u ++ b) in
    ap (read_lines (suc n) els) e ∙ front n els (codes "send") (32 ∷ (show_term t ++ d)) refl refl ∙ read_on _ (expr_full t d f refl)
    ∙ read_on _ (expr_full u b g refl) ∙ read_on _ (last_full v (shown ls c k) h)
    ∙ ap (before_block (send t u v))
    (i n els c k m (omega (arith, ap length e, length-append (show_term t) d, length-append (show_term u) b, length-append (show_term v) a))))

whole_when : (t : Term) (b ls : Lines) → spelled_term t ≡ true → Whole b → Whole ls → Whole (when t b ls)
unfolding expect same all
whole_when t b ls g j i zero els c k m l = absurd (omega arith)
whole_when t b ls g j i (suc n) els c k m l =
    (let e = show_when t b ls (show_close c ++ (10 ∷ k)) in
    let a = 10 ∷ shown ls c k in
    let d = 10 ∷ (show_lines b ++ (codes "end" ++ a)) in
    let p = length-append (show_term t) d in
    let q = length-append (show_lines b) (codes "end" ++ a) in
    ap (read_lines (suc n) els) e ∙ front n els (codes "if") (32 ∷ (show_term t ++ d)) refl refl
    ∙ read_on _ (last_full t (shown b by_end (shown ls c k)) g)
    ∙ read_on _ (j n true by_end (shown ls c k) refl (omega (arith, ap length e)))
    ∙ ap (before_block (when t b)) (i n els c k m (omega (arith, ap length e))))

whole_choose : (t : Term) (b d ls : Lines) → spelled_term t ≡ true → Whole b → Whole d → Whole ls → Whole (choose t b d ls)
unfolding expect same all
whole_choose t b d ls g j o i zero els c k m l = absurd (omega arith)
whole_choose t b d ls g j o i (suc n) els c k m l =
    (let e = show_choose t b d ls (show_close c ++ (10 ∷ k)) in
    let a = 10 ∷ shown ls c k in
    let x = 10 ∷ (show_lines d ++ (codes "end" ++ a)) in
    let y = 10 ∷ (show_lines b ++ (codes "else" ++ x)) in
    let p = length-append (show_term t) y in
    let q = length-append (show_lines b) (codes "else" ++ x) in
    let r = length-append (show_lines d) (codes "end" ++ a) in
    ap (read_lines (suc n) els) e ∙ front n els (codes "if") (32 ∷ (show_term t ++ y)) refl refl
    ∙ read_on _ (last_full t (shown b by_else (shown d by_end (shown ls c k))) g)
    ∙ read_on _ (j n true by_else (shown d by_end (shown ls c k)) refl (omega (arith, ap length e)))
    ∙ read_on _ (o n false by_end (shown ls c k) refl (omega (arith, ap length e)))
    ∙ ap (before_block (choose t b d)) (i n els c k m (omega (arith, ap length e))))

whole_again : (t : Term) (b ls : Lines) → spelled_term t ≡ true → Whole b → Whole ls → Whole (again t b ls)
unfolding expect same all
whole_again t b ls g j i zero els c k m l = absurd (omega arith)
whole_again t b ls g j i (suc n) els c k m l =
    (let e = show_again t b ls (show_close c ++ (10 ∷ k)) in
    let a = 10 ∷ shown ls c k in
    let d = 10 ∷ (show_lines b ++ (codes "end" ++ a)) in
    let p = length-append (show_term t) d in
    let q = length-append (show_lines b) (codes "end" ++ a) in
    ap (read_lines (suc n) els) e ∙ front n els (codes "again") (32 ∷ (show_term t ++ d)) refl refl
    ∙ read_on _ (last_full t (shown b by_end (shown ls c k)) g)
    ∙ read_on _ (j n false by_end (shown ls c k) refl (omega (arith, ap length e)))
    ∙ ap (before_block (again t b)) (i n els c k m (omega (arith, ap length e))))

pub lines_full : (ls : Lines) → spelled_lines ls ≡ true → Whole ls
unfolding spelled_lines
lines_full none h = whole_none
lines_full (assign w t ls) h =
    (let p = and_parts (is_name w) (spelled_term t && spelled_lines ls) h in
    let q = and_parts (spelled_term t) (spelled_lines ls) p.1 in whole_assign w t ls p.0 q.0 (lines_full ls q.1))
lines_full (draw w t ls) h =
    (let p = and_parts (is_name w) (spelled_term t && spelled_lines ls) h in
    let q = and_parts (spelled_term t) (spelled_lines ls) p.1 in whole_draw w t ls p.0 q.0 (lines_full ls q.1))
lines_full (say t ls) h = (let p = and_parts (spelled_term t) (spelled_lines ls) h in whole_say t ls p.0 (lines_full ls p.1))
lines_full (send t u v ls) h =
    (let p = and_parts (spelled_term t) (spelled_term u && (spelled_term v && spelled_lines ls)) h in
    let q = and_parts (spelled_term u) (spelled_term v && spelled_lines ls) p.1 in
    let r = and_parts (spelled_term v) (spelled_lines ls) q.1 in whole_send t u v ls p.0 q.0 r.0 (lines_full ls r.1))
lines_full (when t b ls) h =
    (let p = and_parts (spelled_term t) (spelled_lines b && spelled_lines ls) h in
    let q = and_parts (spelled_lines b) (spelled_lines ls) p.1 in whole_when t b ls p.0 (lines_full b q.0) (lines_full ls q.1))
lines_full (choose t b c ls) h =
    (let p = and_parts (spelled_term t) (spelled_lines b && (spelled_lines c && spelled_lines ls)) h in
    let q = and_parts (spelled_lines b) (spelled_lines c && spelled_lines ls) p.1 in
    let r = and_parts (spelled_lines c) (spelled_lines ls) q.1 in
    whole_choose t b c ls p.0 (lines_full b q.0) (lines_full c r.0) (lines_full ls r.1))
lines_full (again t b ls) h =
    (let p = and_parts (spelled_term t) (spelled_lines b && spelled_lines ls) h in
    let q = and_parts (spelled_lines b) (spelled_lines ls) p.1 in whole_again t b ls p.0 (lines_full b q.0) (lines_full ls q.1))

pub row_ends : (ws : List (List ℕ)) (k : List ℕ) → Ends (show_row ws ++ (10 ∷ k))
unfolding show_row
row_ends [] k = refl
row_ends (w ∷ ws) k = refl

-- A row of what is read one by one.
module _ (one : List ℕ → Got (List ℕ)) (ok : List ℕ → Bool) (f : (w k : List ℕ) → ok w ≡ true → Ends k → one (w ++ k) ≡ got w k) where
  next_full : (go : List ℕ → Got (List (List ℕ))) (w : List ℕ) (ws : List (List ℕ)) (k : List ℕ) → ok w ≡ true →
      go (show_row ws ++ (10 ∷ k)) ≡ got ws k → read_next one go (show_row (w ∷ ws) ++ (10 ∷ k)) ≡ got (w ∷ ws) k
  unfolding show_row
  next_full go w ws k o h =
      ap (λ z. and_then (one z) (λ w c. and_then (go c) (λ ws d. got (w ∷ ws) d))) (append_assoc w (show_row ws) (10 ∷ k))
      ∙ read_on _ (f w (show_row ws ++ (10 ∷ k)) o (row_ends ws k)) ∙ read_on _ h

  row_full : (ws : List (List ℕ)) (n : ℕ) (k : List ℕ) → every ok ws ≡ true → length (show_row ws ++ (10 ∷ k)) < n →
      read_row one n (show_row ws ++ (10 ∷ k)) ≡ got ws k
  unfolding read_row show_row every
  row_full ws zero k h l = absurd (omega arith)
  row_full [] (suc n) k h l = refl
  row_full (w ∷ ws) (suc n) k h l =
      (let p = and_parts (ok w) (every ok ws) h in
      let a = append_assoc w (show_row ws) (10 ∷ k) in
      let i = length-append w (show_row ws ++ (10 ∷ k)) in
      next_full (read_row one n) w ws k p.0 (row_full ws n k p.1 (omega (arith, ap length a))))

  upto_full : (ws : List (List ℕ)) (n : ℕ) (k : List ℕ) → every ok ws ≡ true → length ws ≤ n → read_upto one n (show_row ws ++ (10 ∷ k)) ≡ got ws k
  unfolding read_upto show_row every expect
  upto_full [] zero k h l = refl
  upto_full [] (suc n) k h l = refl
  upto_full (w ∷ ws) zero k h l = absurd (omega arith)
  upto_full (w ∷ ws) (suc n) k h l =
      (let p = and_parts (ok w) (every ok ws) h in next_full (read_upto one n) w ws k p.0 (upto_full ws n k p.1 (omega arith)))

note_full : (x : Note) (k : List ℕ) → spelled_note x ≡ true →
    read_note (x.time ++ (32 ∷ (x.to ++ (32 ∷ (x.number ++ (10 ∷ k)))))) ≡ got x k
unfolding expect
note_full x k h =
    (let p = and_parts (is_number x.time) (is_number x.to && is_number x.number) h in
    let q = and_parts (is_number x.to) (is_number x.number) p.1 in
    read_on _ (number_full x.time (32 ∷ (x.to ++ (32 ∷ (x.number ++ (10 ∷ k))))) p.0 refl)
    ∙ read_on _ (number_full x.to (32 ∷ (x.number ++ (10 ∷ k))) q.0 refl) ∙ read_on _ (number_full x.number (10 ∷ k) q.1 refl))

pub notes_full : (ns : List Note) (n : ℕ) → every spelled_note ns ≡ true → length (show_notes ns) < n → read_notes n (show_notes ns) ≡ got ns []
unfolding read_notes show_notes every expect
notes_full ns zero h l = absurd (omega arith)
notes_full [] (suc n) h l = refl
notes_full (x ∷ ns) (suc n) h l =
    (let p = and_parts (spelled_note x) (every spelled_note ns) h in
    let i = length-append x.time (32 ∷ (x.to ++ (32 ∷ (x.number ++ (10 ∷ show_notes ns))))) in
    let j = length-append x.to (32 ∷ (x.number ++ (10 ∷ show_notes ns))) in
    let k = length-append x.number (10 ∷ show_notes ns) in
    read_on _ (note_full x (show_notes ns) p.0) ∙ read_on _ (notes_full ns n p.1 (omega arith)))

thing_full : (x : Thing) (k : List ℕ) → spelled_thing x ≡ true → read_thing (x.kind ++ (show_row x.numbers ++ (10 ∷ k))) ≡ got x k
thing_full x k h =
    (let p = and_parts (is_name x.kind) (every is_number x.numbers) h in
    let r = show_row x.numbers ++ (10 ∷ k) in
    read_on _ (name_full x.kind r p.0 (row_ends x.numbers k))
    ∙ read_on _ (row_full read_number is_number number_full x.numbers (suc (length r)) k p.1 (omega arith)))

pub things_full : (ts : List Thing) (ns : List Note) (n : ℕ) → every spelled_thing ts ≡ true → every spelled_note ns ≡ true →
    length (show_things ts ++ show_notes ns) < n →
    read_things n (show_things ts ++ show_notes ns) ≡ got (record { kinds = []; things = ts; notes = ns }) []
unfolding read_things show_things show_notes every expect
things_full ts ns zero h g l = absurd (omega arith)
things_full [] ns (suc n) h g l = only_notes ns g l
  where
    only_notes : (ns : List Note) → every spelled_note ns ≡ true → length (show_notes ns) < suc n →
        read_things (suc n) (show_notes ns) ≡ got (record { kinds = []; things = []; notes = ns }) []
    only_notes [] g l = refl
    only_notes (x ∷ ns) g l = read_on _ (notes_full (x ∷ ns) (suc n) g l)
things_full (x ∷ ts) ns (suc n) h g l =
    (let p = and_parts (spelled_thing x) (every spelled_thing ts) h in
    let r = show_things ts ++ show_notes ns in
    let a : show_things (x ∷ ts) ++ show_notes ns ≡ codes "thing " ++ (x.kind ++ (show_row x.numbers ++ (10 ∷ r))) = simp append_assoc in
    let i = length-append x.kind (show_row x.numbers ++ (10 ∷ r)) in
    let j = length-append (show_row x.numbers) (10 ∷ r) in
    ap (read_things (suc n)) a ∙ read_on _ (thing_full x r p.0) ∙ read_on _ (things_full ts ns n p.1 g (omega (arith, ap length a))))

kind_full : (x : Kind) (k : List ℕ) → spelled_kind x ≡ true →
    read_kind (x.name ++ (show_row x.numbers ++ (10 ∷ (show_lines x.lines ++ (codes "end" ++ (10 ∷ k)))))) ≡ got x k
kind_full x k h =
    (let p = and_parts (is_name x.name) (every is_name x.numbers && (leb (length x.numbers) 64 && spelled_lines x.lines)) h in
    let q = and_parts (every is_name x.numbers) (leb (length x.numbers) 64 && spelled_lines x.lines) p.1 in
    let t = and_parts (leb (length x.numbers) 64) (spelled_lines x.lines) q.1 in
    let s = show_lines x.lines ++ (codes "end" ++ (10 ∷ k)) in
    let r = show_row x.numbers ++ (10 ∷ s) in
    read_on _ (name_full x.name r p.0 (row_ends x.numbers s))
    ∙ read_on _ (upto_full read_name is_name name_full x.numbers 64 s q.0 (leb-true (length x.numbers) 64 t.0))
    ∙ read_on _ (lines_full x.lines t.1 (suc (length s)) false by_end k refl (omega arith)))

pub kinds_full : (ks : List Kind) (ts : List Thing) (ns : List Note) (n : ℕ) → every spelled_kind ks ≡ true → every spelled_thing ts ≡ true →
    every spelled_note ns ≡ true → length (show_kinds ks ++ (show_things ts ++ show_notes ns)) < n →
    read_kinds n (show_kinds ks ++ (show_things ts ++ show_notes ns)) ≡ got (record { kinds = ks; things = ts; notes = ns }) []
unfolding read_kinds show_kinds show_things show_notes every expect
kinds_full ks ts ns zero h g f l = absurd (omega arith)
kinds_full [] ts ns (suc n) h g f l = no_kinds ts ns g f l
  where
    no_kinds : (ts : List Thing) (ns : List Note) → every spelled_thing ts ≡ true → every spelled_note ns ≡ true → length (show_things ts ++ show_notes ns) < suc n →
        read_kinds (suc n) (show_things ts ++ show_notes ns) ≡ got (record { kinds = []; things = ts; notes = ns }) []
    no_kinds [] [] g f l = refl
    no_kinds [] (y ∷ ns) g f l = things_full [] (y ∷ ns) (suc n) g f l
    no_kinds (x ∷ ts) ns g f l = things_full (x ∷ ts) ns (suc n) g f l
kinds_full (x ∷ ks) ts ns (suc n) h g f l =
    (let p = and_parts (spelled_kind x) (every spelled_kind ks) h in
    let r = show_kinds ks ++ (show_things ts ++ show_notes ns) in
    let s = show_lines x.lines ++ (codes "end" ++ (10 ∷ r)) in
    let a : show_kinds (x ∷ ks) ++ (show_things ts ++ show_notes ns) ≡ codes "kind " ++ (x.name ++ (show_row x.numbers ++ (10 ∷ s))) = simp append_assoc in
    let i = length-append x.name (show_row x.numbers ++ (10 ∷ s)) in
    let j = length-append (show_row x.numbers) (10 ∷ s) in
    let k = length-append (show_lines x.lines) (codes "end" ++ (10 ∷ r)) in
    ap (read_kinds (suc n)) a ∙ read_on _ (kind_full x r p.0) ∙ read_on _ (kinds_full ks ts ns n p.1 g f (omega (arith, ap length a))))

-- Every text is read.
pub text_full : (bs : List ℕ) (t : Text) → IsText bs t → parse bs ≡ got t []
unfolding parse show
text_full bs t h =
    (let p = and_parts (every spelled_kind t.kinds) (every spelled_thing t.things && every spelled_note t.notes) h.well_spelled in
    let q = and_parts (every spelled_thing t.things) (every spelled_note t.notes) p.1 in
    subst (λ z. parse z ≡ got t []) h.shows (kinds_full t.kinds t.things t.notes (suc (length (show t))) p.0 q.0 q.1 (omega arith)))
