-- Words and numbers in front, and the places of names.
use Rattle.std.proofs.Common.{◌≡◌, ℕ, suc, Bool, true, false, not, cond, eqb, ltb, List, ◌∷◌, length, Some, None, one-add, sym, refl, ap, ◌∙◌, subst, arith}
use Rattle.std.specs.Prelude.{Ok, Err, Result, MatchResult, unwrap_or}
use Rattle.std.specs.Borrow.{Bor}
use Rattle.std.specs.List.{position, position_or_len}
use Rattle.std.proofs.lemmas.Bool.{cond-true, and_parts}
use Rattle.std.proofs.lemmas.Bool.Decides.{nat_tests}
use Rattle.std.proofs.lemmas.List.Sums.{prefix_len-le-length}
use Rattle.std.proofs.lemmas.List.Recursion.{is_position_or_len}
use Rattle.grammar.specs.Syntax.{is_number}
use Rattle.grammar.specs.Rules.{small}
use Rattle.grammar.specs.Parse.{got, bad, read_word, read_number, read_name}
use Rattle.grammar.specs.Check.{decimal, too_large}
use Rattle.grammar.proofs.Words.{word_full, name_full, number_full}
use Rattle.words.specs.declared.Word.{Word}
use Rattle.words.specs.Words.{pack, word_of}
use Rattle.words.specs.Reads.{read, map_got, small_number}
use Rattle.text.specs.Parts.{place_of, WordAt, NameAt, NumberAt}

got_parts : {A : Type 0} (a b : A) (c d : List ℕ) → got a c ≡ got b d → (a ≡ b) × (c ≡ d)
got_parts a b c d h = (cc, cc)

not_bad : {A : Type 0} (a : A) (c d : List ℕ) → bad d ≡ got a c → ⊥
not_bad a c d h = let z : ◌≡◌ {A = ℕ} 0 1 = cc in omega arith

module _ (bs bs' : List ℕ) where
  word_is : (v : Word) → map_got word_of (read_word bs) ≡ got v bs' → WordAt bs v bs'
  word_is v q w k b e h n =
      got_parts v (word_of w) bs' (b ∷ k) (sym q ∙ ap (λ x. map_got word_of (read_word x)) e ∙ ap (map_got word_of) (word_full w (b ∷ k) h n))

  word_not : (v : Word) (r : List ℕ) → map_got word_of (read_word bs) ≡ bad r → WordAt bs v bs'
  word_not v r q w k b e h n =
      absurd (not_bad (word_of w) (b ∷ k) r (sym q ∙ ap (λ x. map_got word_of (read_word x)) e ∙ ap (map_got word_of) (word_full w (b ∷ k) h n)))

  name_is : (p : ℕ) → map_got pack (read_name bs) ≡ got p bs' → NameAt bs p bs'
  name_is p q w k b e h n =
      got_parts p (pack w) bs' (b ∷ k) (sym q ∙ ap (λ x. map_got pack (read_name x)) e ∙ ap (map_got pack) (name_full w (b ∷ k) h n))

  name_not : (p : ℕ) (r : List ℕ) → map_got pack (read_name bs) ≡ bad r → NameAt bs p bs'
  name_not p r q w k b e h n =
      absurd (not_bad (pack w) (b ∷ k) r (sym q ∙ ap (λ x. map_got pack (read_name x)) e ∙ ap (map_got pack) (name_full w (b ∷ k) h n)))

  pub number_is : (m : ℕ) (ds : List ℕ) → read_number bs ≡ got ds bs' → m ≡ unwrap_or (small_number ds) 0 → NumberAt bs m bs'
  number_is m ds q u es k b e hs n =
      let s = (and_parts (is_number es) (small es) hs).1 in
      let h = (and_parts (is_number es) (small es) hs).0 in
      let g = got_parts ds es bs' (b ∷ k) (sym q ∙ ap read_number e ∙ number_full es (b ∷ k) h n) in (
        u ∙ ap (λ x. unwrap_or (small_number x) 0) g.0 ∙ ap (λ x. unwrap_or x 0) (cond-true (ltb (decimal 0 es) too_large) (Some (decimal 0 es)) None s),
        g.1,
      )

  pub number_not : (m : ℕ) (r : List ℕ) → read_number bs ≡ bad r → NumberAt bs m bs'
  number_not m r q es k b e h n =
      absurd (not_bad es (b ∷ k) r (sym q ∙ ap read_number e ∙ number_full es (b ∷ k) (and_parts (is_number es) (small es) h).0 n))

-- Where nothing was read it may be anything.
pub word_or : (bs : List ℕ) (g : Result (Word × Bor (List ℕ)) (Bor (List ℕ))) (r : Word × Bor (List ℕ)) (P : Bor (List ℕ) → Type 0) → map_got word_of (read_word bs) ≡ read g →
    MatchResult g (λ x. r ≡ x) P → WordAt bs r.0 r.1.now
word_or bs (Ok x) r P q m = subst (λ y. WordAt bs y.0 y.1.now) (sym m) (word_is bs x.1.now x.0 q)
word_or bs (Err e) r P q m = word_not bs r.1.now r.0 e.now q

pub name_or : (bs : List ℕ) (g : Result (ℕ × Bor (List ℕ)) (Bor (List ℕ))) (r : ℕ × Bor (List ℕ)) (P : Bor (List ℕ) → Type 0) → map_got pack (read_name bs) ≡ read g →
    MatchResult g (λ x. r ≡ x) P → NameAt bs r.0 r.1.now
name_or bs (Ok x) r P q m = subst (λ y. NameAt bs y.0 y.1.now) (sym m) (name_is bs x.1.now x.0 q)
name_or bs (Err e) r P q m = name_not bs r.1.now r.0 e.now q

-- The place of a packed word is the first that is it.
eqb_swap : (a b : ℕ) → eqb a b ≡ eqb b a
eqb_swap a b = grind (arith, nat_tests)

place_is : (p : ℕ) (qs : List ℕ) → place_of p qs ≡ position_or_len (λ q. eqb q p) qs
unfolding place_of
place_is p qs =
    is_position_or_len (place_of p) (λ q. eqb q p) refl
    (λ x xs. ap (λ b. cond b 0 (suc (place_of p xs))) (eqb_swap p x) ∙ ap (cond (eqb x p) 0) (sym (one-add (place_of p xs)))) qs

pub place_or : (p : ℕ) (qs : List ℕ) → unwrap_or (position (λ q. eqb q p) qs) (length qs) ≡ place_of p qs
place_or p qs = by (ltb (position_or_len (λ q. eqb q p) qs) (length qs)) refl ∙ sym (place_is p qs)
  where
    by : (b : Bool) → ltb (position_or_len (λ q. eqb q p) qs) (length qs) ≡ b → unwrap_or (cond b (Some (position_or_len (λ q. eqb q p) qs)) None) (length qs) ≡ position_or_len (λ q. eqb q p) qs
    by true e = refl
    by false e = let l = prefix_len-le-length (λ q. not (eqb q p)) qs in grind (arith, nat_tests)
