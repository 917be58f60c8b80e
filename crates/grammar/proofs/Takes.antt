-- Expressions and lines that keep their rules are taken whole.
use Rattle.std.proofs.Common.{◌≡◌, ℕ, zero, suc, ◌+◌, ◌-◌, ◌<◌, ◌≤◌, max, Bool, true, false, cond, not, ◌&&◌, ◌||◌, eqb, List, [], ◌∷◌, ◌++◌, length, codes, sym, refl, ap, ◌∙◌, subst, append_assoc, arith, length-append}
use Rattle.std.proofs.lemmas.Bool.{both_ways, and_parts, and_from, cond-true, cond-false, not-true, not_from_false, ltb-true, ne_eqb}
use Rattle.grammar.specs.Syntax.{is_letter, is_digit, all, same, among, reserved, is_word, is_name, is_operand, is_number, sign_byte, Term, number, word, two, Lines, none, assign, draw, say, send, when, choose, again, show_term, show_lines, spelled_term, spelled_lines, every}
use Rattle.grammar.specs.Parse.{Got, got, expect, Close, by_end, by_else}
use Rattle.grammar.specs.Check.{Checked, taken, refused, then, formed, line_bytes, stand_ins, check_plain, check_term, check_last, Head, ends, elses, assigns, draws, says, sends, whens, agains, check_value, check_head, too_long, Block, before_block, check_behind, check_lines}
use Rattle.grammar.specs.Rules.{small, right_term, right_lines, depth, lines_of, short}
use Rattle.grammar.proofs.Words.{Ends, letter_in, digit_in, digit_no_letter, word_no_paren, word_full, checked_full, number_full, operand_no_draw, by_name}
use Rattle.grammar.proofs.Full.{sign_full, show_two, show_close, may_close, shown, show_assign, show_draw, show_say, show_send, show_when, show_choose, show_again}
use Rattle.grammar.proofs.Heads.{line_of, spelled_head, right_head}
use Rattle.grammar.proofs.Short.{short_enough}
use Rattle.grammar.proofs.Blocks.{every_parts, Kept}

-- What comes behind something that was taken, or got.
pub take_on : {A B : Type 0} {r : Checked A} {a : A} {c : List ℕ} (f : A → List ℕ → Checked B) → r ≡ taken a c → then r f ≡ f a c
take_on f h = ap (λ z. then z f) h

pub form_on : {A B : Type 0} {g : Got A} {a : A} {c : List ℕ} (f : A → List ℕ → Checked B) → g ≡ got a c → then (formed g) f ≡ f a c
form_on f h = ap (λ z. then (formed z) f) h

-- A rule that is kept, right behind what was got.
pub rule_on : {A : Type 0} {g : Got A} {a : A} {c : List ℕ} (p : A → Bool) (r : List ℕ → Checked A) → g ≡ got a c → p a ≡ true →
    then (formed g) (λ a c. cond (p a) (taken a c) (r c)) ≡ taken a c
rule_on {a = a} {c} p r h o = form_on _ h ∙ cond-true (p a) (taken a c) (r c) o

plain_word : (names : List (List ℕ)) (w k : List ℕ) → is_operand w ≡ true → (among w stand_ins || among w names) ≡ true → Ends k → check_plain names (w ++ k) ≡ taken (word w) k
plain_word names [] k h r e = absurd (both_ways true (sym h) refl)
plain_word names (b ∷ u) k h r e =
    (let p = (and_parts (is_word (b ∷ u)) _ h).0 in
    cond-true (is_letter b) _ _ (and_parts (is_letter b) _ p).0
    ∙ take_on (λ w c. taken (word w) c)
    (rule_on (λ w. among w stand_ins || among w names) (λ _. refused 2 ((b ∷ u) ++ k)) (checked_full is_operand (b ∷ u) k p h e) r))

plain_number : (names : List (List ℕ)) (w k : List ℕ) → is_number w ≡ true → small w ≡ true → Ends k → check_plain names (w ++ k) ≡ taken (number w) k
plain_number names [] k h r e = absurd (both_ways true (sym h) refl)
plain_number names (b ∷ u) k h r e =
    cond-false (is_letter b) _ _ (digit_no_letter b (and_parts (is_digit b) _ h).0)
    ∙ take_on (λ w c. taken (number w) c) (rule_on small (λ _. refused 3 ((b ∷ u) ++ k)) (number_full (b ∷ u) k h e) r)

pub term_taken : (names : List (List ℕ)) (t : Term) (n : ℕ) (k : List ℕ) → spelled_term t ≡ true → right_term names t ≡ true → Ends k → length (show_term t) ≤ n →
    check_term names n (show_term t ++ k) ≡ taken t k
unfolding check_term show_term spelled_term right_term expect
term_taken names (number []) n k h r e l = absurd (both_ways true (sym h) refl)
term_taken names (number (b ∷ u)) zero k h r e l = absurd (omega arith)
term_taken names (number (b ∷ u)) (suc n) k h r e l =
    cond-false (eqb b 40) _ _ (word_no_paren b (digit_in b (and_parts (is_digit b) _ h).0)) ∙ plain_number names (b ∷ u) k h r e
term_taken names (word []) n k h r e l = absurd (both_ways true (sym h) refl)
term_taken names (word (b ∷ u)) zero k h r e l = absurd (omega arith)
term_taken names (word (b ∷ u)) (suc n) k h r e l =
    cond-false (eqb b 40) _ _ (word_no_paren b (letter_in b (and_parts (is_letter b) _ (and_parts (is_word (b ∷ u)) _ h).0).0)) ∙ plain_word names (b ∷ u) k h r e
term_taken names (two s t u) zero k h r e l = absurd (omega arith)
term_taken names (two s t u) (suc n) k h r e l =
    (let p = and_parts (spelled_term t) (spelled_term u) h in
    let q = and_parts (right_term names t) (right_term names u) r in
    let a = 32 ∷ sign_byte s ∷ 32 ∷ (show_term u ++ (41 ∷ k)) in
    let i = length-append (show_term t) a in
    let j = length-append (show_term u) (41 ∷ k) in
    let v = length-append (show_term (two s t u)) k in
    ap (check_term names (suc n)) (show_two s t u k)
    ∙ take_on _ (term_taken names t n a p.0 q.0 refl (omega (arith, ap length (show_two s t u k))))
    ∙ form_on _ (sign_full s (32 ∷ (show_term u ++ (41 ∷ k))))
    ∙ take_on _ (term_taken names u n (41 ∷ k) p.1 q.1 refl (omega (arith, ap length (show_two s t u k)))))

last_taken : (names : List (List ℕ)) (t : Term) (k : List ℕ) → spelled_term t ≡ true → right_term names t ≡ true → length (show_term t) ≤ line_bytes →
    check_last names (show_term t ++ (10 ∷ k)) ≡ taken t k
unfolding expect
last_taken names t k h r l = take_on _ (term_taken names t line_bytes (10 ∷ k) h r refl l)

-- A line that begins with a name.
named : (names : List (List ℕ)) (deep : ℕ) (els : Bool) (w d : List ℕ) → is_name w ≡ true → among w names ≡ true →
    check_head names deep els (w ++ (codes " = " ++ d)) ≡ check_value names w d
unfolding expect
named names deep els w d h a =
    form_on _ (word_full w (codes " = " ++ d) (and_parts (is_word w) (not (among w reserved)) h).0 refl)
    ∙ by_name w _ _ _ _ _ _ _ _ h ∙ cond-true (among w names) _ _ a

value_taken : (names : List (List ℕ)) (w : List ℕ) (t : Term) (k : List ℕ) → spelled_term t ≡ true → right_term names t ≡ true → length (show_term t) ≤ line_bytes →
    check_value names w (show_term t ++ (10 ∷ k)) ≡ taken (assigns w t) k
unfolding show_term spelled_term
value_taken names w (number []) k h r l = absurd (both_ways true (sym h) refl)
value_taken names w (number (b ∷ u)) k h r l =
    cond-false (is_letter b) _ _ (digit_no_letter b (and_parts (is_digit b) _ h).0) ∙ take_on _ (last_taken names (number (b ∷ u)) k h r l)
value_taken names w (word []) k h r l = absurd (both_ways true (sym h) refl)
value_taken names w (word (b ∷ u)) k h r l =
    (let p = (and_parts (is_word (b ∷ u)) _ h).0 in
    cond-true (is_letter b) _ _ (and_parts (is_letter b) _ p).0 ∙ form_on _ (word_full (b ∷ u) (10 ∷ k) p refl)
    ∙ cond-false (same (b ∷ u) (codes "draw")) _ _ (operand_no_draw (b ∷ u) h) ∙ take_on _ (last_taken names (word (b ∷ u)) k h r l))
value_taken names w (two s t u) k h r l = take_on _ (last_taken names (two s t u) k h r l)

-- One line, short enough for its expressions.
head_taken : (names : List (List ℕ)) (deep : ℕ) (els : Bool) (h : Head) (k : List ℕ) → spelled_head h ≡ true → right_head names deep els h ≡ true →
    length (line_of h) < line_bytes → check_head names deep els (line_of h ++ (10 ∷ k)) ≡ taken h k
unfolding expect same all
head_taken names deep els ends k o r l = form_on _ (word_full (codes "end") (10 ∷ k) refl refl)
head_taken names deep els elses k o r l = form_on _ (word_full (codes "else") (10 ∷ k) refl refl) ∙ cond-true els _ _ r
head_taken names deep els (assigns w t) k o r l =
    (let p = and_parts (is_name w) (spelled_term t) o in
    let q = and_parts (among w names) (right_term names t) r in
    let e : line_of (assigns w t) ++ (10 ∷ k) ≡ w ++ (codes " = " ++ (show_term t ++ (10 ∷ k))) = simp append_assoc in
    ap (check_head names deep els) e ∙ named names deep els w (show_term t ++ (10 ∷ k)) p.0 q.0
    ∙ value_taken names w t k p.1 q.1 (omega (arith, length-append w (codes " = " ++ show_term t))))
head_taken names deep els (draws w t) k o r l =
    (let p = and_parts (is_name w) (spelled_term t) o in
    let q = and_parts (among w names) (right_term names t) r in
    let e : line_of (draws w t) ++ (10 ∷ k) ≡ w ++ (codes " = " ++ (codes "draw " ++ (show_term t ++ (10 ∷ k)))) = simp append_assoc in
    ap (check_head names deep els) e ∙ named names deep els w (codes "draw " ++ (show_term t ++ (10 ∷ k))) p.0 q.0
    ∙ form_on _ (word_full (codes "draw") (32 ∷ (show_term t ++ (10 ∷ k))) refl refl)
    ∙ take_on _ (last_taken names t k p.1 q.1 (omega (arith, length-append w (codes " = draw " ++ show_term t)))))
head_taken names deep els (says t) k o r l =
    form_on _ (word_full (codes "say") (32 ∷ (show_term t ++ (10 ∷ k))) refl refl) ∙ take_on _ (last_taken names t k o r (omega arith))
head_taken names deep els (sends t u v) k o r l =
    (let p = and_parts (spelled_term t) (spelled_term u && spelled_term v) o in
    let q = and_parts (spelled_term u) (spelled_term v) p.1 in
    let x = and_parts (right_term names t) (right_term names u && right_term names v) r in
    let y = and_parts (right_term names u) (right_term names v) x.1 in
    let a = codes " after " ++ (show_term v ++ (10 ∷ k)) in
    let b = codes " to " ++ (show_term u ++ a) in
    let e : line_of (sends t u v) ++ (10 ∷ k) ≡ codes "send " ++ (show_term t ++ b) = simp append_assoc in
    let i = length-append (show_term t) (codes " to " ++ (show_term u ++ (codes " after " ++ show_term v))) in
    let j = length-append (show_term u) (codes " after " ++ show_term v) in
    ap (check_head names deep els) e ∙ form_on _ (word_full (codes "send") (32 ∷ (show_term t ++ b)) refl refl)
    ∙ take_on _ (term_taken names t line_bytes b p.0 x.0 refl (omega arith)) ∙ take_on _ (term_taken names u line_bytes a q.0 y.0 refl (omega arith))
    ∙ take_on _ (last_taken names v k q.1 y.1 (omega arith)))
head_taken names deep els (whens t) k o r l =
    (let p = and_parts (not (eqb deep 0)) (right_term names t) r in
    form_on _ (word_full (codes "if") (32 ∷ (show_term t ++ (10 ∷ k))) refl refl) ∙ cond-false (eqb deep 0) _ _ (not-true (eqb deep 0) p.0)
    ∙ take_on _ (last_taken names t k o p.1 (omega arith)))
head_taken names deep els (agains t) k o r l =
    (let p = and_parts (not (eqb deep 0)) (right_term names t) r in
    form_on _ (word_full (codes "again") (32 ∷ (show_term t ++ (10 ∷ k))) refl refl) ∙ cond-false (eqb deep 0) _ _ (not-true (eqb deep 0) p.0)
    ∙ take_on _ (last_taken names t k o p.1 (omega arith)))

-- The line at the front of lines.
line_taken : (names : List (List ℕ)) (m left deep : ℕ) (els : Bool) (h : Head) (k : List ℕ) → 0 < left → spelled_head h ≡ true → right_head names deep els h ≡ true →
    short (line_of h) ≡ true → check_lines names (suc m) left deep els (line_of h ++ (10 ∷ k)) ≡ check_behind (check_lines names m) (left - 1) deep els h k
unfolding check_lines
line_taken names m left deep els h k l o r s =
    cond-false (eqb left 0) _ _ (ne_eqb left 0 (λ z. omega arith))
    ∙ take_on _ (cond-false (too_long (line_of h ++ (10 ∷ k))) _ _ (short_enough (line_of h) k s) ∙ head_taken names deep els h k o r (ltb-true (length (line_of h)) line_bytes s))

abbrev Takes : List (List ℕ) → Lines → Type 0
Takes names ls = (m left deep : ℕ) (els : Bool) (c : Close) (k : List ℕ) (after : ℕ) → left < m → may_close els c ≡ true → Kept names left deep ls after →
    check_lines names m left deep els (shown ls c k) ≡ taken (record { lines = ls; close = c; left = after }) k

none_takes : (names : List (List ℕ)) → Takes names none
unfolding show_lines lines_of
none_takes names zero left deep els c k after l o x = absurd (omega arith)
none_takes names (suc m) left deep els by_end k after l o x =
    line_taken names m left deep els ends k (omega arith) refl refl refl ∙ ap (λ z. taken (record { lines = none; close = by_end; left = z }) k) (omega arith)
none_takes names (suc m) left deep els by_else k after l o x =
    line_taken names m left deep els elses k (omega arith) refl o refl ∙ ap (λ z. taken (record { lines = none; close = by_else; left = z }) k) (omega arith)

-- A line with no lines in it.
plain_takes : (names : List (List ℕ)) (h : Head) (f : Lines → Lines) (ls : Lines) → ((r : List ℕ) → show_lines (f ls) ++ r ≡ line_of h ++ (10 ∷ (show_lines ls ++ r))) →
    lines_of (f ls) ≡ line_of h ∷ lines_of ls → depth (f ls) ≡ depth ls → spelled_head h ≡ true →
    (right_lines names (f ls) ≡ true → ((deep : ℕ) (els : Bool) → right_head names deep els h ≡ true) × (right_lines names ls ≡ true)) →
    ((go : ℕ → ℕ → Bool → List ℕ → Checked Block) (left deep : ℕ) (els : Bool) (c : List ℕ) → check_behind go left deep els h c ≡ before_block f (go left deep els c)) →
    Takes names ls → Takes names (f ls)
unfolding every
plain_takes names h f ls shows lines same_depth o right goes ih zero left deep els c k after l mc x = absurd (omega arith)
plain_takes names h f ls shows lines same_depth o right goes ih (suc m) left deep els c k after l mc x =
    (let r = right x.right in
    let s = and_parts (short (line_of h)) (every short (lines_of ls)) (subst (λ z. every short z ≡ true) lines x.shorts) in
    let n = ap length lines in
    let y : Kept names (left - 1) deep ls after = record { right = r.1; shallow = omega arith; shorts = s.1; counts = omega arith } in
    ap (check_lines names (suc m) left deep els) (shows (show_close c ++ (10 ∷ k)))
    ∙ line_taken names m left deep els h (shown ls c k) (omega arith) o (r.0 deep els) s.0 ∙ goes (check_lines names m) (left - 1) deep els (shown ls c k)
    ∙ ap (before_block f) (ih m (left - 1) deep els c k after (omega arith) mc y))

-- Lines may stand deeper.
opens : (deep n : ℕ) (b : Bool) → suc n ≤ deep → b ≡ true → (not (eqb deep 0) && b) ≡ true
opens deep n b l h = and_from (not (eqb deep 0)) b (not_from_false (eqb deep 0) (ne_eqb deep 0 (λ e. omega arith))) h

-- A branch with no else, or a repeat: h is its first line, and inner whether an else may stand in it.
nested_takes : (names : List (List ℕ)) (h : Head) (inner : Bool) (t : Term) (f : Lines → Lines → Lines) (b ls : Lines) →
    ((r : List ℕ) → show_lines (f b ls) ++ r ≡ line_of h ++ (10 ∷ (show_lines b ++ (codes "end" ++ (10 ∷ (show_lines ls ++ r)))))) →
    lines_of (f b ls) ≡ line_of h ∷ (lines_of b ++ (codes "end" ∷ lines_of ls)) → depth (f b ls) ≡ max (suc (depth b)) (depth ls) → spelled_head h ≡ true →
    right_lines names (f b ls) ≡ (right_term names t && (right_lines names b && right_lines names ls)) →
    ((deep : ℕ) (els : Bool) → right_head names deep els h ≡ (not (eqb deep 0) && right_term names t)) →
    ((go : ℕ → ℕ → Bool → List ℕ → Checked Block) (left deep : ℕ) (els : Bool) (c d : List ℕ) (l : ℕ) →
    go left (deep - 1) inner c ≡ taken (record { lines = b; close = by_end; left = l }) d → check_behind go left deep els h c ≡ before_block (f b) (go l deep els d)) →
    Takes names b → Takes names ls → Takes names (f b ls)
unfolding every
nested_takes names h inner t f b ls shows lines deepest o right first goes ib il zero left deep els c k after l mc x = absurd (omega arith)
nested_takes names h inner t f b ls shows lines deepest o right first goes ib il (suc m) left deep els c k after l mc x =
    (let p = and_parts (right_term names t) _ (sym right ∙ x.right) in
    let q = and_parts (right_lines names b) (right_lines names ls) p.1 in
    let s = and_parts (short (line_of h)) _ (subst (λ z. every short z ≡ true) lines x.shorts) in
    let u = every_parts short (lines_of b) (codes "end" ∷ lines_of ls) s.1 in
    let i = length-append (lines_of b) (codes "end" ∷ lines_of ls) in
    let j = ap length lines in
    let more = length (lines_of ls) + suc after in
    let y : Kept names (left - 1) (deep - 1) b more = record { right = q.0; shallow = omega arith; shorts = u.0; counts = omega arith } in
    let z : Kept names more deep ls after = record { right = q.1; shallow = omega arith; shorts = u.1; counts = refl } in
    ap (check_lines names (suc m) left deep els) (shows (show_close c ++ (10 ∷ k)))
    ∙ line_taken names m left deep els h (shown b by_end (shown ls c k)) (omega arith) o
    (first deep els ∙ opens deep (depth b) (right_term names t) (omega arith) p.0) s.0
    ∙ goes (check_lines names m) (left - 1) deep els (shown b by_end (shown ls c k)) (shown ls c k) more
    (ib m (left - 1) (deep - 1) inner by_end (shown ls c k) more (omega arith) refl y)
    ∙ ap (before_block (f b)) (il m more deep els c k after (omega arith) mc z))

choose_takes : (names : List (List ℕ)) (t : Term) (b d ls : Lines) → spelled_term t ≡ true → Takes names b → Takes names d → Takes names ls → Takes names (choose t b d ls)
unfolding right_lines depth lines_of every
choose_takes names t b d ls o ib id il zero left deep els c k after l mc x = absurd (omega arith)
choose_takes names t b d ls o ib id il (suc m) left deep els c k after l mc x =
    (let p = and_parts (right_term names t) _ x.right in
    let q = and_parts (right_lines names b) _ p.1 in
    let r = and_parts (right_lines names d) (right_lines names ls) q.1 in
    let s = and_parts (short (line_of (whens t))) _ x.shorts in
    let u = every_parts short (lines_of b) (codes "else" ∷ (lines_of d ++ (codes "end" ∷ lines_of ls))) s.1 in
    let v = every_parts short (lines_of d) (codes "end" ∷ lines_of ls) u.1 in
    let i = length-append (lines_of b) (codes "else" ∷ (lines_of d ++ (codes "end" ∷ lines_of ls))) in
    let j = length-append (lines_of d) (codes "end" ∷ lines_of ls) in
    let more = length (lines_of ls) + suc after in
    let most = length (lines_of d) + suc more in
    let y : Kept names (left - 1) (deep - 1) b most = record { right = q.0; shallow = omega arith; shorts = u.0; counts = omega arith } in
    let w : Kept names most (deep - 1) d more = record { right = r.0; shallow = omega arith; shorts = v.0; counts = refl } in
    let z : Kept names more deep ls after = record { right = r.1; shallow = omega arith; shorts = v.1; counts = refl } in
    ap (check_lines names (suc m) left deep els) (show_choose t b d ls (show_close c ++ (10 ∷ k)))
    ∙ line_taken names m left deep els (whens t) (shown b by_else (shown d by_end (shown ls c k))) (omega arith) o
    (opens deep (depth b) (right_term names t) (omega arith) p.0) s.0
    ∙ take_on _ (ib m (left - 1) (deep - 1) true by_else (shown d by_end (shown ls c k)) most (omega arith) refl y)
    ∙ take_on _ (id m most (deep - 1) false by_end (shown ls c k) more (omega arith) refl w)
    ∙ ap (before_block (choose t b d)) (il m more deep els c k after (omega arith) mc z))

pub lines_taken : (names : List (List ℕ)) (ls : Lines) → spelled_lines ls ≡ true → Takes names ls
unfolding spelled_lines right_lines depth lines_of
lines_taken names none h = none_takes names
lines_taken names (assign w t ls) h =
    (let p = and_parts (is_name w) (spelled_term t && spelled_lines ls) h in
    let q = and_parts (spelled_term t) (spelled_lines ls) p.1 in
    plain_takes names (assigns w t) (assign w t) ls (λ r. show_assign w t ls r ∙ simp append_assoc) refl refl (and_from (is_name w) _ p.0 q.0)
    (λ x. (let y = and_parts (among w names) _ x in let z = and_parts (right_term names t) (right_lines names ls) y.1 in
    ((λ deep els. and_from (among w names) _ y.0 z.0), z.1))) (λ go left deep els c. refl) (lines_taken names ls q.1))
lines_taken names (draw w t ls) h =
    (let p = and_parts (is_name w) (spelled_term t && spelled_lines ls) h in
    let q = and_parts (spelled_term t) (spelled_lines ls) p.1 in
    plain_takes names (draws w t) (draw w t) ls (λ r. show_draw w t ls r ∙ simp append_assoc) refl refl (and_from (is_name w) _ p.0 q.0)
    (λ x. (let y = and_parts (among w names) _ x in let z = and_parts (right_term names t) (right_lines names ls) y.1 in
    ((λ deep els. and_from (among w names) _ y.0 z.0), z.1))) (λ go left deep els c. refl) (lines_taken names ls q.1))
lines_taken names (say t ls) h =
    (let p = and_parts (spelled_term t) (spelled_lines ls) h in
    plain_takes names (says t) (say t) ls (λ r. show_say t ls r) refl refl p.0
    (λ x. (let y = and_parts (right_term names t) (right_lines names ls) x in ((λ deep els. y.0), y.1))) (λ go left deep els c. refl) (lines_taken names ls p.1))
lines_taken names (send t u v ls) h =
    (let p = and_parts (spelled_term t) (spelled_term u && (spelled_term v && spelled_lines ls)) h in
    let q = and_parts (spelled_term u) (spelled_term v && spelled_lines ls) p.1 in
    let s = and_parts (spelled_term v) (spelled_lines ls) q.1 in
    plain_takes names (sends t u v) (send t u v) ls (λ r. show_send t u v ls r ∙ simp append_assoc) refl refl
    (and_from (spelled_term t) _ p.0 (and_from (spelled_term u) _ q.0 s.0))
    (λ x. (let y = and_parts (right_term names t) _ x in
    let z = and_parts (right_term names u) _ y.1 in
    let a = and_parts (right_term names v) (right_lines names ls) z.1 in
    ((λ deep els. and_from (right_term names t) _ y.0 (and_from (right_term names u) _ z.0 a.0)), a.1))) (λ go left deep els c. refl)
    (lines_taken names ls s.1))
lines_taken names (when t b ls) h =
    (let p = and_parts (spelled_term t) (spelled_lines b && spelled_lines ls) h in
    let q = and_parts (spelled_lines b) (spelled_lines ls) p.1 in
    nested_takes names (whens t) true t (when t) b ls (show_when t b ls) refl refl p.0 refl (λ deep els. refl) (λ go left deep els c d l e. take_on _ e) (lines_taken names b q.0) (lines_taken names ls q.1))
lines_taken names (choose t b c ls) h =
    (let p = and_parts (spelled_term t) (spelled_lines b && (spelled_lines c && spelled_lines ls)) h in
    let q = and_parts (spelled_lines b) (spelled_lines c && spelled_lines ls) p.1 in
    let r = and_parts (spelled_lines c) (spelled_lines ls) q.1 in
    choose_takes names t b c ls p.0 (lines_taken names b q.0) (lines_taken names c r.0) (lines_taken names ls r.1))
lines_taken names (again t b ls) h =
    (let p = and_parts (spelled_term t) (spelled_lines b && spelled_lines ls) h in
    let q = and_parts (spelled_lines b) (spelled_lines ls) p.1 in
    nested_takes names (agains t) false t (again t) b ls (show_again t b ls) refl refl p.0 refl (λ deep els. refl) (λ go left deep els c d l e. take_on _ e) (lines_taken names b q.0) (lines_taken names ls q.1))
