-- Words and numbers are read to their ends.
use Rattle.std.proofs.Common.{◌≡◌, ℕ, zero, suc, Bool, true, false, cond, not, ◌||◌, eqb, List, [], ◌∷◌, ◌++◌, sym, refl, ap, ◌∙◌, ⊎_elim, append_assoc, arith}
use Rattle.std.proofs.lemmas.Bool.{both_ways, and_parts, and_from, or_cases, cond_both}
use Rattle.grammar.specs.Syntax.{is_letter, is_digit, in_word, among, reserved, is_word, is_name, is_operand, newline}
use Rattle.grammar.specs.Parse.{Got, got, bad, more_word, read_word, checked, more_digits, after_zero, read_number}
use Rattle.grammar.specs.Check.{stand_ins}
use Rattle.grammar.specs.Faults.{WordEnds, NumberEnds, WordBegins, joined}

-- What was got has such bytes behind.
abbrev Stands : {A : Type 0} → (List ℕ → Type 0) → Got A → Type 0
Stands P (got a c) = P c
Stands P (bad c) = Unit {0}

stands : {A : Type 0} (P : List ℕ → Type 0) (g : Got A) {a : A} {c : List ℕ} → Stands P g → g ≡ got a c → P c
stands P (got b d) {a} {c} h e = (let q : d ≡ c = cc in rw q at h)
stands P (bad d) h e = (let z : ◌≡◌ {A = ℕ} 0 1 = cc in absurd (omega arith))

more_ends : (n : ℕ) (w bs : List ℕ) → Stands WordEnds (more_word n w bs)
unfolding more_word
more_ends n w [] = tt
more_ends zero w (b ∷ bs) = cond_both (in_word b) (bad (b ∷ bs)) (got w (b ∷ bs)) (Stands WordEnds) (λ _. tt) (λ f. f)
more_ends (suc n) w (b ∷ bs) = cond_both (in_word b) (more_word n (w ++ b ∷ []) bs) (got w (b ∷ bs)) (Stands WordEnds) (λ _. more_ends n (w ++ b ∷ []) bs) (λ f. f)

first_ends : (bs : List ℕ) → Stands WordEnds (read_word bs)
unfolding read_word
first_ends [] = tt
first_ends (b ∷ bs) = cond_both (is_letter b) (more_word 7 (b ∷ []) bs) (bad (b ∷ bs)) (Stands WordEnds) (λ _. more_ends 7 (b ∷ []) bs) (λ _. tt)

pub word_ends : (bs w c : List ℕ) → read_word bs ≡ got w c → WordEnds c
word_ends bs w c e = stands WordEnds (read_word bs) (first_ends bs) e

-- A word that passed a test.
pub checked_ends : (p : List ℕ → Bool) (bs w c : List ℕ) → checked p (read_word bs) ≡ got w c → WordEnds c
checked_ends p bs w c e = stands WordEnds (checked p (read_word bs)) (go (read_word bs) (first_ends bs)) e
  where
    go : (g : Got (List ℕ)) → Stands WordEnds g → Stands WordEnds (checked p g)
    go (got w c) h = cond_both (p w) (got w c) (bad c) (Stands WordEnds) (λ _. h) (λ _. tt)
    go (bad c) h = tt

digits_end : (ds bs : List ℕ) → Stands NumberEnds (more_digits ds bs)
unfolding more_digits
digits_end ds [] = tt
digits_end ds (b ∷ bs) = cond_both (is_digit b) (more_digits (ds ++ b ∷ []) bs) (got ds (b ∷ bs)) (Stands NumberEnds) (λ _. digits_end (ds ++ b ∷ []) bs) (λ f. f)

zero_ends : (bs : List ℕ) → Stands NumberEnds (after_zero bs)
unfolding after_zero
zero_ends [] = tt
zero_ends (b ∷ bs) = cond_both (is_digit b) (bad (b ∷ bs)) (got (48 ∷ []) (b ∷ bs)) (Stands NumberEnds) (λ _. tt) (λ f. f)

all_digits : (bs : List ℕ) → Stands NumberEnds (read_number bs)
unfolding read_number
all_digits [] = tt
all_digits (b ∷ bs) =
    cond_both (eqb b 48) (after_zero bs) (cond (is_digit b) (more_digits (b ∷ []) bs) (bad (b ∷ bs))) (Stands NumberEnds) (λ _. zero_ends bs)
    (λ _. cond_both (is_digit b) (more_digits (b ∷ []) bs) (bad (b ∷ bs)) (Stands NumberEnds) (λ _. digits_end (b ∷ []) bs) (λ _. tt))

pub number_ends : (bs ds c : List ℕ) → read_number bs ≡ got ds c → NumberEnds c
number_ends bs ds c e = stands NumberEnds (read_number bs) (all_digits bs) e

-- A word that may stand for a number, and is not it, me or now, is a name.
pub operand_name : (w : List ℕ) → is_operand w ≡ true → among w stand_ins ≡ false → is_name w ≡ true
operand_name w h f =
    (let p = and_parts (is_word w) (not (among w reserved) || among w stand_ins) h in
    and_from (is_word w) _ p.0 (⊎_elim (λ n. n) (λ t. absurd (both_ways (among w stand_ins) f t)) (or_cases (not (among w reserved)) (among w stand_ins) p.1)))

-- Where a word or a number may begin.
pub begins_behind : (u v : List ℕ) → WordBegins v → WordBegins (u ++ v)
begins_behind u v x = (u ++ x.0, x.1, ap (λ z. u ++ z) x.2 ∙ sym (append_assoc u x.0 (x.1 ∷ [])), x.3)

pub line_begins : (ls : List (List ℕ)) → WordBegins (newline ++ joined ls)
unfolding joined
line_begins [] = ([], 10, refl, refl)
line_begins (l ∷ ls) = begins_behind (10 ∷ l) (newline ++ joined ls) (line_begins ls)
