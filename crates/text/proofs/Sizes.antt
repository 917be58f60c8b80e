-- How many words, names and places a text wants.
use Rattle.std.proofs.Common.{◌≡◌, ℕ, suc, ◌+◌, ◌*◌, ◌≤◌, true, eqb, leb, List, [], ◌∷◌, ◌++◌, map, length, get_or, drop, codes, sym, refl, ap, ◌∙◌, append_assoc, arith, length-append}
use Rattle.std.proofs.lemmas.Bool.{and_parts, and_from, leb-true, le-leb, eqb-true, cond_both}
use Rattle.std.proofs.lemmas.List.{drop_at}
use Rattle.meaning.specs.Model.{var, it, me, clock}
use Rattle.body.specs.Encode.{encode_expr, encode}
use Rattle.grammar.specs.Syntax as text
use Rattle.grammar.specs.Syntax.{is_name, every, among, Sign, plus, minus, times, over, remains, less, equal, sign_byte, Term, number, word, two, Lines, none, assign, draw, say, send, when, choose, again, Kind, Thing, show_term, show_lines, show_row, show_kinds, spelled_kind}
use Rattle.grammar.specs.Check.{decimal, known, count_of}
use Rattle.grammar.specs.Rules.{small, right_thing}
use Rattle.words.specs.Words.{pack}
use Rattle.text.specs.Named.{Sent, index_of, expr, body, counted}
use Rattle.text.specs.Slices.{row, kind_words, words, starts, name_rows, var_rows}
use Rattle.text.specs.Tables.{padded, firsts, fit_thing}
use Rattle.text.proofs.FillTerms.{encode_two, term_some, two_length}
use Rattle.text.proofs.Lists.{padded_row}
use Rattle.text.proofs.Wholes.{row_length}

-- No expression has more words than its bytes and one.
operand_short : (ns : List (List ℕ)) (w : List ℕ) → length (encode_expr (expr ns (word w))) ≤ 2
unfolding expr encode_expr
operand_short ns w =
    cond_both (text.same w (codes "it")) it _ (λ e. length (encode_expr e) ≤ 2) (λ _. omega arith)
    (λ _. cond_both (text.same w (codes "me")) me _ (λ e. length (encode_expr e) ≤ 2) (λ _. omega arith)
    (λ _. cond_both (text.same w (codes "now")) clock (var (index_of w ns)) (λ e. length (encode_expr e) ≤ 2) (λ _. omega arith) (λ _. omega arith)))

term_short : (ns : List (List ℕ)) (t : Term) → text.spelled_term t ≡ true → length (encode_expr (expr ns t)) ≤ length (show_term t) + 1
unfolding expr encode_expr text.spelled_term
term_short ns (number ds) h = let p = term_some (number ds) h in omega arith
term_short ns (word w) h = let p = term_some (word w) h in omega (arith, operand_short ns w)
term_short ns (two s t u) h =
    let p = and_parts (text.spelled_term t) (text.spelled_term u) h in
    let a = term_short ns t p.0 in
    let b = term_short ns u p.1 in
    omega (arith, ap length (encode_two s (expr ns t) (expr ns u)), length-append (encode_expr (expr ns t)) (encode_expr (expr ns u)), two_length s t u)

lines_short : (ns : List (List ℕ)) (ls : Lines) → text.spelled_lines ls ≡ true → length (encode (body ns ls)) ≤ length (show_lines ls) + 1
unfolding body encode show_lines text.spelled_lines
lines_short ns none h = omega arith
lines_short ns (assign w t ls) h =
    let p = and_parts (is_name w) _ h in
    let q = and_parts (text.spelled_term t) (text.spelled_lines ls) p.1 in
    let a = term_short ns t q.0 in
    let b = lines_short ns ls q.1 in
    omega (arith, length-append (encode_expr (expr ns t)) (encode (body ns ls)), length-append w (codes " = " ++ (show_term t ++ (10 ∷ show_lines ls))), length-append (show_term t) (10 ∷ show_lines ls))
lines_short ns (draw w t ls) h =
    let p = and_parts (is_name w) _ h in
    let q = and_parts (text.spelled_term t) (text.spelled_lines ls) p.1 in
    let a = term_short ns t q.0 in
    let b = lines_short ns ls q.1 in
    omega (arith, length-append (encode_expr (expr ns t)) (encode (body ns ls)), length-append w (codes " = draw " ++ (show_term t ++ (10 ∷ show_lines ls))), length-append (show_term t) (10 ∷ show_lines ls))
lines_short ns (say t ls) h =
    let q = and_parts (text.spelled_term t) (text.spelled_lines ls) h in
    let a = term_short ns t q.0 in
    let b = lines_short ns ls q.1 in
    omega (arith, length-append (encode_expr (expr ns t)) (encode (body ns ls)), length-append (show_term t) (10 ∷ show_lines ls))
lines_short ns (send t u v ls) h =
    let p = and_parts (text.spelled_term t) _ h in
    let q = and_parts (text.spelled_term u) _ p.1 in
    let r = and_parts (text.spelled_term v) (text.spelled_lines ls) q.1 in
    let a = term_short ns t p.0 in
    let b = term_short ns u q.0 in
    let c = term_short ns v r.0 in
    let d = lines_short ns ls r.1 in
    let T = encode_expr (expr ns t) in
    let U = encode_expr (expr ns u) in
    let V = encode_expr (expr ns v) in
    let i = length-append V U in
    let j = length-append (V ++ U) T in
    let k = length-append (V ++ U ++ T) (encode (body ns ls)) in
    let i' = length-append (show_term t) (codes " to " ++ (show_term u ++ (codes " after " ++ (show_term v ++ (10 ∷ show_lines ls))))) in
    let j' = length-append (show_term u) (codes " after " ++ (show_term v ++ (10 ∷ show_lines ls))) in
    omega (arith, length-append (show_term v) (10 ∷ show_lines ls))
lines_short ns (when t b ls) h =
    let p = and_parts (text.spelled_term t) _ h in
    let q = and_parts (text.spelled_lines b) (text.spelled_lines ls) p.1 in
    let a = term_short ns t p.0 in
    let c = lines_short ns b q.0 in
    let d = lines_short ns ls q.1 in
    let E = encode_expr (expr ns t) in
    let B = encode (body ns b) in
    let i = length-append E B in
    let j = length-append (E ++ B) (0 ∷ []) in
    let k = length-append (E ++ B ++ 0 ∷ []) (encode (body ns ls)) in
    let i' = length-append (show_term t) (10 ∷ (show_lines b ++ (codes "end" ++ (10 ∷ show_lines ls)))) in
    omega (arith, length-append (show_lines b) (codes "end" ++ (10 ∷ show_lines ls)))
lines_short ns (choose t b d ls) h =
    let p = and_parts (text.spelled_term t) _ h in
    let q = and_parts (text.spelled_lines b) _ p.1 in
    let r = and_parts (text.spelled_lines d) (text.spelled_lines ls) q.1 in
    let a = term_short ns t p.0 in
    let c = lines_short ns b q.0 in
    let e = lines_short ns d r.0 in
    let f = lines_short ns ls r.1 in
    let E = encode_expr (expr ns t) in
    let B = encode (body ns b) in
    let C = encode (body ns d) in
    let i = length-append E B in
    let j = length-append (E ++ B) C in
    let k = length-append (E ++ B ++ C) (encode (body ns ls)) in
    let i' = length-append (show_term t) (10 ∷ (show_lines b ++ (codes "else" ++ (10 ∷ (show_lines d ++ (codes "end" ++ (10 ∷ show_lines ls))))))) in
    let j' = length-append (show_lines b) (codes "else" ++ (10 ∷ (show_lines d ++ (codes "end" ++ (10 ∷ show_lines ls))))) in
    omega (arith, length-append (show_lines d) (codes "end" ++ (10 ∷ show_lines ls)))
lines_short ns (again t b ls) h =
    let p = and_parts (text.spelled_term t) _ h in
    let q = and_parts (text.spelled_lines b) (text.spelled_lines ls) p.1 in
    let a = term_short ns t p.0 in
    let c = lines_short ns b q.0 in
    let d = lines_short ns ls q.1 in
    let E = encode_expr (expr ns t) in
    let B = encode (body ns b) in
    let i = length-append E B in
    let k = length-append (E ++ B) (encode (body ns ls)) in
    let i' = length-append (show_term t) (10 ∷ (show_lines b ++ (codes "end" ++ (10 ∷ show_lines ls)))) in
    omega (arith, length-append (show_lines b) (codes "end" ++ (10 ∷ show_lines ls)))

-- The words of kinds are no more than their bytes, and neither are the kinds.
pub words_short : (ks : List Kind) → every spelled_kind ks ≡ true → (length (words ks) ≤ length (show_kinds ks)) × (length ks ≤ length (show_kinds ks))
unfolding words show_kinds every
words_short [] h = (omega arith, omega arith)
words_short (x ∷ ks) h =
    let p = and_parts (spelled_kind x) (every spelled_kind ks) h in
    let q = and_parts (leb (length x.numbers) 64) (text.spelled_lines x.lines) (and_parts (every is_name x.numbers) _ (and_parts (is_name x.name) _ p.0).1).1 in
    let a = lines_short x.numbers x.lines q.1 in
    let b = words_short ks p.1 in
    let c = length-append (kind_words x) (words ks) in
    let d = length-append x.name (show_row x.numbers ++ (10 ∷ (show_lines x.lines ++ (codes "end" ++ (10 ∷ show_kinds ks))))) in
    let e = length-append (show_row x.numbers) (10 ∷ (show_lines x.lines ++ (codes "end" ++ (10 ∷ show_kinds ks)))) in
    let f = length-append (show_lines x.lines) (codes "end" ++ (10 ∷ show_kinds ks)) in
    (omega arith, omega arith)

-- How long the filled parts are.
pub starts_length : (n : ℕ) (ks : List Kind) → length (starts n ks) ≡ length ks
unfolding starts
starts_length n [] = refl
starts_length n (x ∷ ks) = ap suc (starts_length (n + length (kind_words x)) ks)

pub names_length : (ks : List Kind) → length (name_rows ks) ≡ 65 * length ks
unfolding name_rows
names_length [] = refl
names_length (x ∷ ks) =
    let r = row_length 65 (map pack (x.name ∷ x.numbers)) in
    let a = names_length ks in
    omega (arith, length-append (row 65 (map pack (x.name ∷ x.numbers))) (name_rows ks))

pub vars_length : (xs : List Thing) → length (var_rows xs) ≡ 64 * length xs
unfolding var_rows
vars_length [] = refl
vars_length (x ∷ xs) =
    let r = row_length 64 (map (decimal 0) x.numbers) in
    let a = vars_length xs in
    omega (arith, length-append (row 64 (map (decimal 0) x.numbers)) (var_rows xs))

pub counted_length : (things n : ℕ) (ns : List Sent) → length (counted things n ns) ≡ length ns
unfolding counted
counted_length things n [] = refl
counted_length things n (x ∷ ns) = ap suc (counted_length things (suc n) ns)

-- The names of kinds, in front of their rows.
row_first : (x : ℕ) (xs ys : List ℕ) → get_or (row 65 (x ∷ xs) ++ ys) 0 0 ≡ x
unfolding padded
row_first x xs ys = ap (λ z. get_or (z ++ ys) 0 0) (sym (padded_row 65 (x ∷ xs)))

pub firsts_are : (ks : List Kind) (rest : List ℕ) → firsts (length ks) (name_rows ks ++ rest) ≡ map pack (map (λ k. k.name) ks)
unfolding firsts name_rows
firsts_are [] rest = refl
firsts_are (x ∷ ks) rest =
    let r = row 65 (map pack (x.name ∷ x.numbers)) in
    let a = append_assoc r (name_rows ks) rest in
    ap (λ z. get_or z 0 0 ∷ firsts (length ks) (drop 65 z)) a
    ∙ ap (λ z. z ∷ firsts (length ks) (drop 65 (r ++ (name_rows ks ++ rest)))) (row_first (pack x.name) (map pack x.numbers) (name_rows ks ++ rest))
    ∙ ap (λ z. pack x.name ∷ firsts (length ks) z) (drop_at r (name_rows ks ++ rest) 65 (row_length 65 (map pack (x.name ∷ x.numbers))))
    ∙ ap (λ z. pack x.name ∷ z) (firsts_are ks rest)

pub names_good : (ks : List Kind) → every spelled_kind ks ≡ true → every is_name (map (λ k. k.name) ks) ≡ true
unfolding every
names_good [] h = refl
names_good (x ∷ ks) h =
    let p = and_parts (spelled_kind x) (every spelled_kind ks) h in
    and_from (is_name x.name) _ (and_parts (is_name x.name) _ p.0).0 (names_good ks p.1)

-- A thing has at most 64 numbers, as its kind has.
count_small : (w : List ℕ) (ks : List Kind) → every spelled_kind ks ≡ true → count_of w (map known ks) ≤ 64
unfolding count_of every
count_small w [] h = omega arith
count_small w (x ∷ ks) h =
    let p = and_parts (spelled_kind x) (every spelled_kind ks) h in
    let q = and_parts (leb (length x.numbers) 64) (text.spelled_lines x.lines) (and_parts (every is_name x.numbers) _ (and_parts (is_name x.name) _ p.0).1).1 in
    let a = count_small w ks p.1 in
    cond_both (text.same w x.name) (length x.numbers) (count_of w (map known ks)) (λ n. n ≤ 64) (λ _. leb-true (length x.numbers) 64 q.0) (λ _. a)

pub things_fit : (ks : List Kind) (xs : List Thing) → every spelled_kind ks ≡ true → every (right_thing (map known ks)) xs ≡ true → every fit_thing xs ≡ true
unfolding every
things_fit ks [] h g = refl
things_fit ks (x ∷ xs) h g =
    let p = and_parts (right_thing (map known ks) x) (every (right_thing (map known ks)) xs) g in
    let q = and_parts (eqb (length x.numbers) (count_of x.kind (map known ks))) (every small x.numbers) (and_parts (among x.kind (map (λ k. k.name) (map known ks))) _ p.0).1 in
    let e = eqb-true (length x.numbers) (count_of x.kind (map known ks)) q.0 in
    let c = count_small x.kind ks h in
    and_from (fit_thing x) (every fit_thing xs) (and_from (leb (length x.numbers) 64) (every small x.numbers) (le-leb (length x.numbers) 64 (omega arith)) q.1) (things_fit ks xs h p.1)
