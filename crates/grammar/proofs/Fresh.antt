-- Names that come one after the other, each new, are distinct.
use Rattle.std.proofs.Common.{◌≡◌, ℕ, Bool, true, false, not, ◌&&◌, ◌||◌, eqb, List, [], ◌∷◌, ◌++◌, refl, ap, ◌∙◌, arith}
use Rattle.std.proofs.lemmas.Bool.Decides.{nat_tests}
use Rattle.grammar.specs.Syntax.{same, among, every}
use Rattle.grammar.specs.Rules.{distinct}

-- Each is new behind those seen.
unfoldable pub fresh : List (List ℕ) → List (List ℕ) → Bool
fresh seen [] = true
fresh seen (w ∷ ws) = not (among w seen) && fresh (seen ++ w ∷ []) ws

eqb_swap : (a b : ℕ) → eqb a b ≡ eqb b a
eqb_swap a b = grind (arith, nat_tests)

same_swap : (w v : List ℕ) → same w v ≡ same v w
unfolding same
same_swap [] [] = refl
same_swap [] (c ∷ v) = refl
same_swap (b ∷ w) [] = refl
same_swap (b ∷ w) (c ∷ v) = (let p = eqb_swap b c in let q = same_swap w v in cc)

among_push : (v : List ℕ) (seen : List (List ℕ)) (w : List ℕ) → among v (seen ++ w ∷ []) ≡ (among v seen || same w v)
unfolding among
among_push v [] w = or_none (same v w) ∙ same_swap v w
  where
    or_none : (x : Bool) → (x || false) ≡ x
    or_none true = refl
    or_none false = refl
among_push v (u ∷ seen) w = ap (λ z. same v u || z) (among_push v seen w) ∙ or_assoc (same v u) (among v seen) (same w v)
  where
    or_assoc : (x y z : Bool) → (x || (y || z)) ≡ ((x || y) || z)
    or_assoc true y z = refl
    or_assoc false y z = refl

-- None of those seen.
abbrev new : List (List ℕ) → List ℕ → Bool
new seen w = not (among w seen)

every_new : (seen : List (List ℕ)) (w : List ℕ) (ws : List (List ℕ)) → every (new (seen ++ w ∷ [])) ws ≡ (every (new seen) ws && not (among w ws))
unfolding every among
every_new seen w [] = refl
every_new seen w (v ∷ ws) =
    (let p = among_push v seen w in let q = every_new seen w ws in let r = same_swap w v in
    ap (λ z. not z && every (new (seen ++ w ∷ [])) ws) p ∙ ap (λ z. not (among v seen || same w v) && z) q
    ∙ mixed (among v seen) (same w v) (every (new seen) ws) (among w ws))
  where
    mixed : (a b c d : Bool) → (not (a || b) && (c && not d)) ≡ ((not a && c) && not (b || d))
    mixed true b c d = refl
    mixed false true true d = refl
    mixed false true false d = refl
    mixed false false c d = refl

fresh_parts : (seen ws : List (List ℕ)) → fresh seen ws ≡ (every (new seen) ws && distinct ws)
unfolding fresh every distinct
fresh_parts seen [] = refl
fresh_parts seen (w ∷ ws) =
    ap (λ z. new seen w && z) (fresh_parts (seen ++ w ∷ []) ws ∙ ap (λ z. z && distinct ws) (every_new seen w ws))
    ∙ mixed (new seen w) (every (new seen) ws) (not (among w ws)) (distinct ws)
  where
    mixed : (a b c d : Bool) → (a && ((b && c) && d)) ≡ ((a && b) && (c && d))
    mixed false b c d = refl
    mixed true false c d = refl
    mixed true true c d = refl

pub fresh_distinct : (ws : List (List ℕ)) → fresh [] ws ≡ distinct ws
unfolding every among
fresh_distinct ws = fresh_parts [] ws ∙ ap (λ z. z && distinct ws) (all_new ws)
  where
    all_new : (ws : List (List ℕ)) → every (new []) ws ≡ true
    all_new [] = refl
    all_new (w ∷ ws) = all_new ws
