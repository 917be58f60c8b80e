-- Lines that were read, one after the other: their bytes, and that they close what they open.
use Rattle.std.proofs.Common.{◌≡◌, ℕ, zero, suc, ◌<◌, Bool, true, false, cond, not, ◌||◌, eqb, leb, List, [], ◌∷◌, ◌++◌, length, get_or, codes, sym, refl, ap, ◌∙◌, subst, append_assoc, arith}
use Rattle.std.proofs.lemmas.Bool.{both_ways, and_parts, and_from, and_right, or_from, cond-false, eqb-true, not-true}
use Rattle.grammar.specs.Syntax.{is_letter, in_word, all, same, among, reserved, is_word, is_name, newline, Lines, none, assign, draw, say, send, when, choose, again, Kind, show_term, show_lines, show_kinds, every, spelled_term, spelled_lines, spelled_kind}
use Rattle.grammar.specs.Check.{assigns, draws, says, sends, whens, agains}
use Rattle.grammar.specs.Rules.{lines_of, kind_lines}
use Rattle.grammar.specs.Faults.{joined, one_line, begins, open_behind}
use Rattle.grammar.proofs.Words.{same_is, same_self, letter_in, not_at}
use Rattle.grammar.proofs.Heads.{line_of}
use Rattle.grammar.proofs.Short.{head_inside}
use Rattle.grammar.proofs.Blocks.{every_join}
use Rattle.grammar.proofs.Taken.{first_line, first_within}

pub joined_append : (u v : List (List ℕ)) → joined (u ++ v) ≡ joined u ++ joined v
unfolding joined
joined_append [] v = refl
joined_append (l ∷ u) v = ap (λ z. l ++ (newline ++ z)) (joined_append u v) ∙ sym (append_assoc l (newline ++ joined u) (joined v))

-- The bytes of lines and of kinds.
pub lines_joined : (ls : Lines) → show_lines ls ≡ joined (lines_of ls)
unfolding show_lines lines_of joined
lines_joined none = refl
lines_joined (assign w t ls) = rw (lines_joined ls) (sym (simp append_assoc))
lines_joined (draw w t ls) = rw (lines_joined ls) (sym (simp append_assoc))
lines_joined (say t ls) = rw (lines_joined ls)
lines_joined (send t u v ls) = rw (lines_joined ls) (sym (simp append_assoc))
lines_joined (when t b ls) = rw (lines_joined b, lines_joined ls) (sym (simp joined_append))
lines_joined (choose t b c ls) = rw (lines_joined b, lines_joined c, lines_joined ls) (sym (simp joined_append))
lines_joined (again t b ls) = rw (lines_joined b, lines_joined ls) (sym (simp joined_append))

pub kinds_joined : (ks : List Kind) → show_kinds ks ≡ joined (kind_lines ks)
unfolding show_kinds kind_lines joined
kinds_joined [] = refl
kinds_joined (k ∷ ks) = rw (lines_joined k.lines, kinds_joined ks) (sym (simp (joined_append, append_assoc)))

pub open_append : (u v : List (List ℕ)) (n : ℕ) → open_behind n (u ++ v) ≡ open_behind (open_behind n u) v
unfolding open_behind
open_append u v zero = refl
open_append [] v (suc n) = refl
open_append (l ∷ u) v (suc n) = open_append u v (cond (begins (codes "if ") l || begins (codes "again ") l) (suc (suc n)) (cond (same l (codes "end")) n (suc n)))

-- A word and a space begin a line whose first word is w just if they are w.
first_word : (u w k : List ℕ) → all in_word u ≡ true → all in_word w ≡ true → begins (u ++ 32 ∷ []) (w ++ (32 ∷ k)) ≡ true → w ≡ u
unfolding all same
first_word [] [] k a b h = refl
first_word [] (c ∷ w) k a b h =
    (let e = eqb-true c 32 (and_parts (eqb c 32) true h).0 in
    absurd (both_ways (in_word c) (ap in_word e) (and_parts (in_word c) (all in_word w) b).0))
first_word (c ∷ u) [] k a b h =
    (let e = eqb-true 32 c (and_parts (eqb 32 c) _ h).0 in
    absurd (both_ways (in_word c) (ap in_word (sym e)) (and_parts (in_word c) (all in_word u) a).0))
first_word (c ∷ u) (d ∷ w) k a b h =
    (let p = and_parts (eqb d c) _ h in
    let e = eqb-true d c p.0 in
    let i = first_word u w k (and_parts (in_word c) (all in_word u) a).1 (and_parts (in_word d) (all in_word w) b).1 p.1 in cc)

word_bytes : (w : List ℕ) → is_word w ≡ true → all in_word w ≡ true
unfolding all
word_bytes [] h = absurd (both_ways true (sym h) refl)
word_bytes (b ∷ w) h =
    (let p = and_parts (is_letter b) _ h in
    and_from (in_word b) _ (letter_in b p.0) (and_parts (all in_word w) _ p.1).0)

has_space : (w k : List ℕ) → all in_word (w ++ (32 ∷ k)) ≡ false
unfolding all
has_space [] k = refl
has_space (b ∷ w) k = and_right (in_word b) _ (has_space w k)

if_not : {t : Bool} → (t ≡ true → ⊥) → t ≡ false
if_not {t = true} f = absurd (f refl)
if_not {t = false} f = refl

-- A line that begins with a name and a space opens and closes nothing.
pub name_line : (n : ℕ) (w k : List ℕ) (ls : List (List ℕ)) → is_name w ≡ true → open_behind (suc n) ((w ++ (32 ∷ k)) ∷ ls) ≡ open_behind (suc n) ls
unfolding open_behind all
name_line n w k ls h =
    ap (λ z. open_behind z ls) (cond-false (begins (codes "if ") l || begins (codes "again ") l) _ _
    (or_from (begins (codes "if ") l) (begins (codes "again ") l) (no (codes "if") 5 refl refl (omega arith)) (no (codes "again") 8 refl refl (omega arith)))
    ∙ cond-false (same l (codes "end")) _ _ no_end)
  where
    l : List ℕ
    l = w ++ (32 ∷ k)

    no : (u : List ℕ) (i : ℕ) → get_or reserved i [] ≡ u → all in_word u ≡ true → i < length reserved → begins (u ++ 32 ∷ []) (w ++ (32 ∷ k)) ≡ false
    no u i e a q =
        (let p = and_parts (is_word w) (not (among w reserved)) h in
        if_not (λ t. both_ways (same w u) (subst (λ z. same w z ≡ false) e (not_at w reserved (not-true (among w reserved) p.1) i q))
        (subst (λ z. same z u ≡ true) (sym (first_word u w k a (word_bytes w p.0) t)) (same_self u))))

    no_end : same (w ++ (32 ∷ k)) (codes "end") ≡ false
    no_end = if_not (λ t. both_ways (all in_word (w ++ (32 ∷ k))) (has_space w k) (subst (λ z. all in_word z ≡ true) (sym (same_is (w ++ (32 ∷ k)) (codes "end") t)) refl))

-- Lines of a tree close what they open.
pub lines_open : (ls : Lines) → spelled_lines ls ≡ true → (rest : List (List ℕ)) (n : ℕ) → open_behind (suc n) (lines_of ls ++ rest) ≡ open_behind (suc n) rest
unfolding spelled_lines lines_of open_behind same
lines_open none h rest n = refl
lines_open (assign w t ls) h rest n =
    (let p = and_parts (is_name w) _ h in
    name_line n w (codes "= " ++ show_term t) (lines_of ls ++ rest) p.0 ∙ lines_open ls (and_parts (spelled_term t) _ p.1).1 rest n)
lines_open (draw w t ls) h rest n =
    (let p = and_parts (is_name w) _ h in
    name_line n w (codes "= draw " ++ show_term t) (lines_of ls ++ rest) p.0 ∙ lines_open ls (and_parts (spelled_term t) _ p.1).1 rest n)
lines_open (say t ls) h rest n = lines_open ls (and_parts (spelled_term t) _ h).1 rest n
lines_open (send t u v ls) h rest n =
    (let p = and_parts (spelled_term t) _ h in
    let q = and_parts (spelled_term u) _ p.1 in
    lines_open ls (and_parts (spelled_term v) _ q.1).1 rest n)
lines_open (when t b ls) h rest n =
    (let p = and_parts (spelled_term t) _ h in
    let q = and_parts (spelled_lines b) _ p.1 in
    ap (open_behind (suc (suc n))) (append_assoc (lines_of b) (codes "end" ∷ lines_of ls) rest)
    ∙ lines_open b q.0 (codes "end" ∷ (lines_of ls ++ rest)) (suc n) ∙ lines_open ls q.1 rest n)
lines_open (choose t b c ls) h rest n =
    (let p = and_parts (spelled_term t) _ h in
    let q = and_parts (spelled_lines b) _ p.1 in
    let r = and_parts (spelled_lines c) _ q.1 in
    ap (open_behind (suc (suc n))) (append_assoc (lines_of b) (codes "else" ∷ (lines_of c ++ (codes "end" ∷ lines_of ls))) rest)
    ∙ lines_open b q.0 (codes "else" ∷ ((lines_of c ++ (codes "end" ∷ lines_of ls)) ++ rest)) (suc n)
    ∙ ap (open_behind (suc (suc n))) (append_assoc (lines_of c) (codes "end" ∷ lines_of ls) rest)
    ∙ lines_open c r.0 (codes "end" ∷ (lines_of ls ++ rest)) (suc n) ∙ lines_open ls r.1 rest n)
lines_open (again t b ls) h rest n =
    (let p = and_parts (spelled_term t) _ h in
    let q = and_parts (spelled_lines b) _ p.1 in
    ap (open_behind (suc (suc n))) (append_assoc (lines_of b) (codes "end" ∷ lines_of ls) rest)
    ∙ lines_open b q.0 (codes "end" ∷ (lines_of ls ++ rest)) (suc n) ∙ lines_open ls q.1 rest n)

-- The lines of a tree hold no end of a line.
pub lines_within : (ls : Lines) → spelled_lines ls ≡ true → every one_line (lines_of ls) ≡ true
unfolding spelled_lines lines_of every all
lines_within none h = refl
lines_within (assign w t ls) h =
    (let p = and_parts (is_name w) _ h in
    let q = and_parts (spelled_term t) _ p.1 in
    and_from (one_line (line_of (assigns w t))) _ (head_inside (assigns w t) (and_from (is_name w) _ p.0 q.0)) (lines_within ls q.1))
lines_within (draw w t ls) h =
    (let p = and_parts (is_name w) _ h in
    let q = and_parts (spelled_term t) _ p.1 in
    and_from (one_line (line_of (draws w t))) _ (head_inside (draws w t) (and_from (is_name w) _ p.0 q.0)) (lines_within ls q.1))
lines_within (say t ls) h =
    (let p = and_parts (spelled_term t) _ h in and_from (one_line (line_of (says t))) _ (head_inside (says t) p.0) (lines_within ls p.1))
lines_within (send t u v ls) h =
    (let p = and_parts (spelled_term t) _ h in
    let q = and_parts (spelled_term u) _ p.1 in
    let r = and_parts (spelled_term v) _ q.1 in
    and_from (one_line (line_of (sends t u v))) _ (head_inside (sends t u v) (and_from (spelled_term t) _ p.0 (and_from (spelled_term u) _ q.0 r.0))) (lines_within ls r.1))
lines_within (when t b ls) h =
    (let p = and_parts (spelled_term t) _ h in
    let q = and_parts (spelled_lines b) _ p.1 in
    and_from (one_line (line_of (whens t))) _ (head_inside (whens t) p.0) (every_join one_line (lines_of b) (codes "end" ∷ lines_of ls) (lines_within b q.0) (lines_within ls q.1)))
lines_within (choose t b c ls) h =
    (let p = and_parts (spelled_term t) _ h in
    let q = and_parts (spelled_lines b) _ p.1 in
    let r = and_parts (spelled_lines c) _ q.1 in
    and_from (one_line (line_of (whens t))) _ (head_inside (whens t) p.0) (every_join one_line (lines_of b) (codes "else" ∷ (lines_of c ++ (codes "end" ∷ lines_of ls))) (lines_within b q.0)
    (every_join one_line (lines_of c) (codes "end" ∷ lines_of ls) (lines_within c r.0) (lines_within ls r.1))))
lines_within (again t b ls) h =
    (let p = and_parts (spelled_term t) _ h in
    let q = and_parts (spelled_lines b) _ p.1 in
    and_from (one_line (line_of (agains t))) _ (head_inside (agains t) p.0) (every_join one_line (lines_of b) (codes "end" ∷ lines_of ls) (lines_within b q.0) (lines_within ls q.1)))

pub kinds_within : (ks : List Kind) → every spelled_kind ks ≡ true → every one_line (kind_lines ks) ≡ true
unfolding kind_lines every all
kinds_within [] h = refl
kinds_within (k ∷ ks) h =
    (let p = and_parts (spelled_kind k) _ h in
    let q = and_parts (is_name k.name) _ p.0 in
    let r = and_parts (every is_name k.numbers) _ q.1 in
    let s = and_parts (leb (length k.numbers) 64) _ r.1 in
    and_from (one_line (first_line k.name k.numbers)) _ (first_within k.name k.numbers q.0 r.0)
    (every_join one_line (lines_of k.lines) (codes "end" ∷ kind_lines ks) (lines_within k.lines s.1) (kinds_within ks p.1)))
