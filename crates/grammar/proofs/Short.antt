-- Lines hold no byte that ends a line, so whether a line is too long is seen from its own bytes.
use Rattle.std.proofs.Common.{◌≡◌, ℕ, zero, suc, ◌<◌, ◌≤◌, Bool, true, false, not, ◌&&◌, eqb, ltb, List, [], ◌∷◌, ◌++◌, length, take, codes, sym, refl, ⊎_elim, arith, length-append}
use Rattle.std.proofs.lemmas.Bool.{both_ways, and_parts, and_from, and_right, lt-ltb, ltb-true, cases_lt}
use Rattle.std.proofs.lemmas.Bool.Decides.{nat_tests}
use Rattle.grammar.specs.Syntax.{is_letter, is_digit, in_word, all, is_word, is_name, is_number, Sign, plus, minus, times, over, remains, less, equal, sign_byte, Term, number, word, two, show_term, show_row, spelled_term, every}
use Rattle.grammar.specs.Check.{line_bytes, too_long, Head, ends, elses, assigns, draws, says, sends, whens, agains}
use Rattle.grammar.specs.Rules.{short}
use Rattle.grammar.proofs.Words.{letter_in, digit_in}
use Rattle.grammar.proofs.Heads.{line_of, spelled_head}

-- No end of a line.
abbrev pub inside : ℕ → Bool
inside b = not (eqb b 10)

pub all_join : (p : ℕ → Bool) (u v : List ℕ) → all p u ≡ true → all p v ≡ true → all p (u ++ v) ≡ true
unfolding all
all_join p [] v h g = g
all_join p (b ∷ u) v h g = (let q = and_parts (p b) (all p u) h in and_from (p b) _ q.0 (all_join p u v q.1 g))

all_wider : (p q : ℕ → Bool) → ((b : ℕ) → p b ≡ true → q b ≡ true) → (u : List ℕ) → all p u ≡ true → all q u ≡ true
unfolding all
all_wider p q f [] h = refl
all_wider p q f (b ∷ u) h = (let r = and_parts (p b) (all p u) h in and_from (q b) _ (f b r.0) (all_wider p q f u r.1))

word_byte : (b : ℕ) → in_word b ≡ true → inside b ≡ true
word_byte b h = grind (arith, nat_tests)

pub word_inside : (w : List ℕ) → is_word w ≡ true → all inside w ≡ true
unfolding all
word_inside [] h = absurd (both_ways true (sym h) refl)
word_inside (b ∷ u) h =
    (let p = and_parts (is_letter b) _ h in
    and_from (inside b) _ (word_byte b (letter_in b p.0)) (all_wider in_word inside word_byte u (and_parts (all in_word u) _ p.1).0))

pub name_inside : (w : List ℕ) → is_name w ≡ true → all inside w ≡ true
name_inside w h = word_inside w (and_parts (is_word w) _ h).0

number_inside : (w : List ℕ) → is_number w ≡ true → all inside w ≡ true
unfolding all
number_inside [] h = absurd (both_ways true (sym h) refl)
number_inside (b ∷ u) h =
    (let p = and_parts (is_digit b) _ h in
    and_from (inside b) _ (word_byte b (digit_in b p.0))
    (all_wider is_digit inside (λ c g. word_byte c (digit_in c g)) u (and_parts (all is_digit u) _ p.1).0))

pub sign_inside : (s : Sign) → inside (sign_byte s) ≡ true
sign_inside plus = refl
sign_inside minus = refl
sign_inside times = refl
sign_inside over = refl
sign_inside remains = refl
sign_inside less = refl
sign_inside equal = refl

pub term_inside : (t : Term) → spelled_term t ≡ true → all inside (show_term t) ≡ true
unfolding all show_term spelled_term
term_inside (number w) h = number_inside w h
term_inside (word w) h = word_inside w (and_parts (is_word w) _ h).0
term_inside (two s t u) h =
    (let p = and_parts (spelled_term t) (spelled_term u) h in
    all_join inside (show_term t) _ (term_inside t p.0) (and_from (inside (sign_byte s)) _ (sign_inside s)
    (all_join inside (show_term u) (codes ")") (term_inside u p.1) refl)))

pub row_inside : (ws : List (List ℕ)) → every is_name ws ≡ true → all inside (show_row ws) ≡ true
unfolding all show_row every
row_inside [] h = refl
row_inside (w ∷ ws) h = (let p = and_parts (is_name w) (every is_name ws) h in all_join inside w (show_row ws) (name_inside w p.0) (row_inside ws p.1))

pub line_inside : (w v : List ℕ) → is_name w ≡ true → all inside v ≡ true → all inside (w ++ v) ≡ true
line_inside w v h g = all_join inside w v (name_inside w h) g

pub head_inside : (h : Head) → spelled_head h ≡ true → all inside (line_of h) ≡ true
unfolding all
head_inside ends o = refl
head_inside elses o = refl
head_inside (assigns w t) o =
    (let p = and_parts (is_name w) (spelled_term t) o in line_inside w (codes " = " ++ show_term t) p.0 (term_inside t p.1))
head_inside (draws w t) o =
    (let p = and_parts (is_name w) (spelled_term t) o in line_inside w (codes " = draw " ++ show_term t) p.0 (term_inside t p.1))
head_inside (says t) o = term_inside t o
head_inside (sends t u v) o =
    (let p = and_parts (spelled_term t) (spelled_term u && spelled_term v) o in
    let q = and_parts (spelled_term u) (spelled_term v) p.1 in
    all_join inside (show_term t) _ (term_inside t p.0) (all_join inside (show_term u) _ (term_inside u q.0) (term_inside v q.1)))
head_inside (whens t) o = term_inside t o
head_inside (agains t) o = term_inside t o

-- The first n bytes hold the end of a line that has fewer, and not that of one with more.
ends_soon : (n : ℕ) (l k : List ℕ) → length l < n → all inside (take n (l ++ (10 ∷ k))) ≡ false
unfolding all
ends_soon zero l k h = absurd (omega arith)
ends_soon (suc n) [] k h = refl
ends_soon (suc n) (b ∷ l) k h = and_right (inside b) _ (ends_soon n l k (omega arith))

pub ends_late : (n : ℕ) (l k : List ℕ) → all inside l ≡ true → n ≤ length l → all inside (take n (l ++ k)) ≡ true
unfolding all
ends_late zero l k o h = refl
ends_late (suc n) [] k o h = absurd (omega arith)
ends_late (suc n) (b ∷ l) k o h = (let p = and_parts (inside b) (all inside l) o in and_from (inside b) _ p.0 (ends_late n l k p.1 (omega arith)))

pub short_enough : (l k : List ℕ) → short l ≡ true → too_long (l ++ (10 ∷ k)) ≡ false
short_enough l k h = and_right (ltb line_bytes (length (l ++ (10 ∷ k)))) _ (ends_soon line_bytes l k (ltb-true (length l) line_bytes h))

pub short_since : (l k : List ℕ) → all inside l ≡ true → too_long (l ++ (10 ∷ k)) ≡ false → short l ≡ true
short_since l k o h =
    ⊎_elim (λ s. lt-ltb (length l) line_bytes s)
    (λ s. absurd (both_ways (too_long (l ++ (10 ∷ k))) h (and_from (ltb line_bytes (length (l ++ (10 ∷ k)))) _
    (lt-ltb line_bytes (length (l ++ (10 ∷ k))) (omega (arith, length-append l (10 ∷ k)))) (ends_late line_bytes l (10 ∷ k) o s))))
    (cases_lt (length l) line_bytes)
