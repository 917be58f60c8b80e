-- Digits as numbers.
use Rattle.std.proofs.Common.{◌≡◌, ℕ, ◌+◌, ◌-◌, ◌*◌, ◌<◌, ◌≤◌, ltb, List, [], ◌∷◌, length, get_or, drop, Some, None, sym, ap, ◌∙◌, arith, le-ltb, lt-ltb}
use Rattle.std.proofs.lemmas.List.{drop_more, drop_all}
use Rattle.std.proofs.lemmas.Bool.{cond-true, cond-false}
use Rattle.grammar.specs.Check.{decimal, too_large}
use Rattle.words.specs.Reads.{small_number}

-- More digits do not make it less.
pub decimal_grows : (a : ℕ) (ds : List ℕ) → a ≤ decimal a ds
unfolding decimal
decimal_grows a [] = omega arith
decimal_grows a (d ∷ ds) = omega (arith, decimal_grows (a * 10 + (d - 48)) ds)

-- One digit more.
pub decimal_more : (a : ℕ) (ds : List ℕ) (i : ℕ) → i < length ds → decimal a (drop i ds) ≡ decimal (a * 10 + (get_or ds i 0 - 48)) (drop (i + 1) ds)
unfolding decimal
decimal_more a ds i h = ap (decimal a) (drop_more ds i 0 h)

pub decimal_none : (a : ℕ) (ds : List ℕ) (i : ℕ) → length ds ≤ i → decimal a (drop i ds) ≡ a
unfolding decimal
decimal_none a ds i h = ap (decimal a) (drop_all i ds h)

pub too_much : (ds : List ℕ) → too_large ≤ decimal 0 ds → None ≡ small_number ds
too_much ds h = sym (cond-false (ltb (decimal 0 ds) too_large) (Some (decimal 0 ds)) None (le-ltb _ _ h))

pub not_too_much : (ds : List ℕ) (n : ℕ) → n ≡ decimal 0 ds → n < too_large → Some n ≡ small_number ds
not_too_much ds n e h =
    ap (λ m. Some m) e ∙ sym (cond-true (ltb (decimal 0 ds) too_large) (Some (decimal 0 ds)) None (lt-ltb _ _ (let z : decimal 0 ds < too_large = omega arith in z)))
