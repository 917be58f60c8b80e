-- A text without each else that has no lines: its lines are some of those that were, in their order.
use Rattle.std.proofs.Common.{◌≡◌, ℕ, suc, ◌+◌, ◌≤◌, Bool, true, List, [], ◌∷◌, ◌++◌, map, length, sym, refl, subst, ⊎_elim, arith, length-append}
use Rattle.std.proofs.lemmas.Bool.{and_parts, and_from}
use Rattle.grammar.specs.Syntax as text
use Rattle.grammar.specs.Syntax.{every, Lines, Kind, show_lines, show_kinds}
use Rattle.grammar.specs.Rules.{lines_of, kind_lines}
use Rattle.text.proofs.LawLines.{branched_is, tidy}

-- The first list is the second with some left out.
data SomeOf : List (List ℕ) → List (List ℕ) → Type 0 where
  end : SomeOf [] []
  keep : {l : List ℕ} {xs ys : List (List ℕ)} → SomeOf xs ys → SomeOf (l ∷ xs) (l ∷ ys)
  skip : {l : List ℕ} {xs ys : List (List ℕ)} → SomeOf xs ys → SomeOf xs (l ∷ ys)

some_join : {xs ys us vs : List (List ℕ)} → SomeOf xs ys → SomeOf us vs → SomeOf (xs ++ us) (ys ++ vs)
some_join end k = k
some_join (keep h) k = keep (some_join h k)
some_join (skip h) k = skip (some_join h k)

some_after : (zs : List (List ℕ)) {xs ys : List (List ℕ)} → SomeOf xs ys → SomeOf xs (zs ++ ys)
some_after [] h = h
some_after (z ∷ zs) h = skip (some_after zs h)

-- There are no more of them, each passes what each did, and they have no more bytes with their ends.
some_length : {xs ys : List (List ℕ)} → SomeOf xs ys → length xs ≤ length ys
some_length end = omega arith
some_length (keep h) = omega (arith, some_length h)
some_length (skip h) = omega (arith, some_length h)

some_every : (p : List ℕ → Bool) {xs ys : List (List ℕ)} → SomeOf xs ys → every p ys ≡ true → every p xs ≡ true
unfolding every
some_every p end e = refl
some_every p (keep {l} {xs} {ys} h) e = (let q = and_parts (p l) (every p ys) e in and_from (p l) (every p xs) q.0 (some_every p h q.1))
some_every p (skip {l} {xs} {ys} h) e = some_every p h (and_parts (p l) (every p ys) e).1

abbrev bytes : List (List ℕ) → ℕ
bytes [] = 0
bytes (l ∷ ls) = suc (length l + bytes ls)

some_bytes : {xs ys : List (List ℕ)} → SomeOf xs ys → bytes xs ≤ bytes ys
some_bytes end = omega arith
some_bytes (keep h) = omega (arith, some_bytes h)
some_bytes (skip h) = omega (arith, some_bytes h)

bytes_join : (xs ys : List (List ℕ)) → bytes (xs ++ ys) ≡ bytes xs + bytes ys
bytes_join [] ys = omega arith
bytes_join (x ∷ xs) ys = omega (arith, bytes_join xs ys)

-- What is shown has as many bytes as its lines with their ends.
lines_bytes : (ls : Lines) → length (show_lines ls) ≡ bytes (lines_of ls)
unfolding show_lines lines_of
lines_bytes text.none = refl
lines_bytes (text.assign w t ls) = simp length-append (omega (arith, lines_bytes ls))
lines_bytes (text.draw w t ls) = simp length-append (omega (arith, lines_bytes ls))
lines_bytes (text.say t ls) = simp length-append (omega (arith, lines_bytes ls))
lines_bytes (text.send t u v ls) = simp length-append (omega (arith, lines_bytes ls))
lines_bytes (text.when t b ls) = simp (length-append, bytes_join) (omega (arith, lines_bytes b, lines_bytes ls))
lines_bytes (text.choose t b c ls) = simp (length-append, bytes_join) (omega (arith, lines_bytes b, lines_bytes c, lines_bytes ls))
lines_bytes (text.again t b ls) = simp (length-append, bytes_join) (omega (arith, lines_bytes b, lines_bytes ls))

kinds_bytes : (ks : List Kind) → length (show_kinds ks) ≡ bytes (kind_lines ks)
unfolding show_kinds kind_lines
kinds_bytes [] = refl
kinds_bytes (k ∷ ks) = simp (length-append, bytes_join) (omega (arith, lines_bytes k.lines, kinds_bytes ks))

tidy_some : (ls : Lines) → SomeOf (lines_of (tidy ls)) (lines_of ls)
unfolding tidy lines_of
tidy_some text.none = end
tidy_some (text.assign w t ls) = keep (tidy_some ls)
tidy_some (text.draw w t ls) = keep (tidy_some ls)
tidy_some (text.say t ls) = keep (tidy_some ls)
tidy_some (text.send t u v ls) = keep (tidy_some ls)
tidy_some (text.when t b ls) = keep (some_join (tidy_some b) (keep (tidy_some ls)))
tidy_some (text.choose t b c ls) =
    (let p = tidy_some b in
    let q = tidy_some ls in
    ⊎_elim
    (λ e. subst (λ z. SomeOf (lines_of z) (lines_of (text.choose t b c ls))) (sym e.1) (keep (some_join p (skip (some_after (lines_of c) (keep q))))))
    (λ e. subst (λ z. SomeOf (lines_of z) (lines_of (text.choose t b c ls))) (sym e) (keep (some_join p (keep (some_join (tidy_some c) (keep q))))))
    (branched_is t (tidy b) (tidy c) (tidy ls)))
tidy_some (text.again t b ls) = keep (some_join (tidy_some b) (keep (tidy_some ls)))

abbrev pub tidy_kind : Kind → Kind
tidy_kind k = record { name = k.name; numbers = k.numbers; lines = tidy k.lines }

kinds_some : (ks : List Kind) → SomeOf (kind_lines (map tidy_kind ks)) (kind_lines ks)
unfolding kind_lines
kinds_some [] = end
kinds_some (k ∷ ks) = keep (some_join (tidy_some k.lines) (keep (kinds_some ks)))

pub tidy_fewer : (ks : List Kind) → length (kind_lines (map tidy_kind ks)) ≤ length (kind_lines ks)
tidy_fewer ks = some_length (kinds_some ks)

pub tidy_every : (p : List ℕ → Bool) (ks : List Kind) → every p (kind_lines ks) ≡ true → every p (kind_lines (map tidy_kind ks)) ≡ true
tidy_every p ks h = some_every p (kinds_some ks) h

pub tidy_bytes : (ks : List Kind) → length (show_kinds (map tidy_kind ks)) ≤ length (show_kinds ks)
tidy_bytes ks = omega (arith, some_bytes (kinds_some ks), kinds_bytes ks, kinds_bytes (map tidy_kind ks))
