-- What is written of kinds, things and messages, one after the other.
use Rattle.std.proofs.Common.{◌≡◌, ℕ, zero, suc, ◌+◌, ◌*◌, ◌<◌, ◌≤◌, min, Bool, true, false, not, cond, eqb, ltb, List, [], ◌∷◌, ◌++◌, map, length, get_or, take, drop, Some, None, codes, one-add, sym, refl, ap, ◌∙◌, arith}
use Rattle.std.specs.List.{position, position_or_len}
use Rattle.std.proofs.lemmas.Bool.Decides.{nat_tests}
use Rattle.std.proofs.lemmas.List.{append_assoc, drop_more, drop_all, take_all, get_or-drop}
use Rattle.std.proofs.lemmas.Bool.{cond-false, cond_below, le-ltb}
use Rattle.body.specs.declared.Process.{Process}
use Rattle.meaning.specs.declared.Message.{Message}
use Rattle.sequential.specs.Memory.{body_from}
use Rattle.grammar.specs.Syntax.{Kind, Thing, Note, newline, show_lines, show_row, show_kinds, show_things, show_notes}
use Rattle.words.specs.Words.{unpack}
use Rattle.text.specs.Named.{digits, lines, kind_text, thing_text, note_text}
use Rattle.text.specs.Slices.{names_of, held_kinds, held_things, held_note}
use Rattle.text.specs.Written.{held_kind, kind_name, thing_of, kinds_bytes, things_bytes, notes_bytes, lines_bytes}
use Rattle.text.proofs.Words.{unpack_zero}

-- Each after a space.
pub row_more : {X : Type 0} (f : X → List ℕ) (xs : List X) (i : ℕ) (x : X) → i < length xs → x ≡ get_or xs i x →
    show_row (map f (drop i xs)) ≡ (codes " " ++ f x) ++ show_row (map f (drop (i + 1) xs))
unfolding show_row
row_more f xs i x h e =
    ap (λ ys. show_row (map f ys)) (drop_more xs i x h) ∙ ap (λ y. (codes " " ++ f y) ++ show_row (map f (drop (i + 1) xs))) (sym e)

pub row_none : {X : Type 0} (f : X → List ℕ) (xs : List X) (i : ℕ) → length xs ≤ i → show_row (map f (drop i xs)) ≡ []
unfolding show_row
row_none f xs i h = ap (λ ys. show_row (map f ys)) (drop_all i xs h)

-- One before the others.
notes_cons : (n : Note) (ns : List Note) → show_notes (n ∷ ns) ≡ show_notes (n ∷ []) ++ show_notes ns
unfolding show_notes
notes_cons n ns = simp append_assoc

things_cons : (t : Thing) (ts : List Thing) → show_things (t ∷ ts) ≡ show_things (t ∷ []) ++ show_things ts
unfolding show_things
things_cons t ts = simp append_assoc

kinds_cons : (k : Kind) (ks : List Kind) → show_kinds (k ∷ ks) ≡ show_kinds (k ∷ []) ++ show_kinds ks
unfolding show_kinds
kinds_cons k ks = simp append_assoc

pub notes_more : (ms : List Message) (i : ℕ) (m : Message) → i < length ms →
    notes_bytes (drop i ms) ≡ show_notes (note_text (held_note (get_or ms i m)) ∷ []) ++ notes_bytes (drop (i + 1) ms)
notes_more ms i m h =
    ap notes_bytes (drop_more ms i m h) ∙ notes_cons (note_text (held_note (get_or ms i m))) (map note_text (map held_note (drop (i + 1) ms)))

pub notes_none : (ms : List Message) (i : ℕ) → length ms ≤ i → notes_bytes (drop i ms) ≡ []
unfolding show_notes
notes_none ms i h = ap notes_bytes (drop_all i ms h)

things_more : (kinds names : List ℕ) (ps : List Process) (vars : List ℕ) (i : ℕ) (p : Process) → i < length ps →
    things_bytes kinds names (drop i ps) vars
    ≡ show_things (thing_of (kind_name kinds names (get_or ps i p).kind) (take (min (get_or ps i p).width 64) vars) ∷ []) ++ things_bytes kinds names (drop (i + 1) ps) (drop 64 vars)
unfolding held_things
things_more kinds names ps vars i p h =
    ap (λ x. things_bytes kinds names x vars) (drop_more ps i p h)
    ∙ things_cons (thing_of (kind_name kinds names (get_or ps i p).kind) (take (min (get_or ps i p).width 64) vars))
    (map (λ x. thing_of (kind_name kinds names x.kind) x.numbers) (held_things (drop (i + 1) ps) (drop 64 vars)))

-- A turn of the loop: what it wrote, and the rows behind.
pub things_turn : (kinds names : List ℕ) (ps : List Process) (vars rest row : List ℕ) (i : ℕ) (p : Process) (name : ℕ) → i < length ps →
    name ≡ kind_name kinds names (get_or ps i p).kind → row ≡ take (min (get_or ps i p).width 64) vars → rest ≡ drop 64 vars →
    things_bytes kinds names (drop i ps) vars ≡ show_things (thing_of name row ∷ []) ++ things_bytes kinds names (drop (i + 1) ps) rest
things_turn kinds names ps vars rest row i p name h e f g =
    things_more kinds names ps vars i p h
    ∙ ap (λ x. show_things (thing_of x (take (min (get_or ps i p).width 64) vars) ∷ []) ++ things_bytes kinds names (drop (i + 1) ps) (drop 64 vars)) (sym e)
    ∙ ap (λ x. show_things (thing_of name x ∷ []) ++ things_bytes kinds names (drop (i + 1) ps) (drop 64 vars)) (sym f)
    ∙ ap (λ x. show_things (thing_of name row ∷ []) ++ things_bytes kinds names (drop (i + 1) ps) x) (sym g)

pub things_none : (kinds names : List ℕ) (ps : List Process) (vars : List ℕ) (i : ℕ) → length ps ≤ i → things_bytes kinds names (drop i ps) vars ≡ []
unfolding show_things held_things
things_none kinds names ps vars i h = ap (λ x. things_bytes kinds names x vars) (drop_all i ps h)

kinds_more : (code kinds names : List ℕ) (i : ℕ) → i < length kinds →
    kinds_bytes code (drop i kinds) names ≡ show_kinds (kind_text (held_kind code (get_or kinds i 0) names) ∷ []) ++ kinds_bytes code (drop (i + 1) kinds) (drop 65 names)
unfolding held_kinds
kinds_more code kinds names i h =
    ap (λ x. kinds_bytes code x names) (drop_more kinds i 0 h)
    ∙ kinds_cons (kind_text (held_kind code (get_or kinds i 0) names)) (map kind_text (held_kinds code (drop (i + 1) kinds) (drop 65 names)))

-- A turn of the loop: what it wrote, and the rows behind.
pub kinds_turn : (code kinds names rest : List ℕ) (i : ℕ) → i < length kinds → rest ≡ drop 65 names →
    kinds_bytes code (drop i kinds) names ≡ show_kinds (kind_text (held_kind code (get_or kinds i 0) names) ∷ []) ++ kinds_bytes code (drop (i + 1) kinds) rest
kinds_turn code kinds names rest i h e =
    kinds_more code kinds names i h
    ∙ ap (λ x. show_kinds (kind_text (held_kind code (get_or kinds i 0) names) ∷ []) ++ kinds_bytes code (drop (i + 1) kinds) x) (sym e)

pub kinds_none : (code kinds names : List ℕ) (i : ℕ) → length kinds ≤ i → kinds_bytes code (drop i kinds) names ≡ []
unfolding show_kinds held_kinds
kinds_none code kinds names i h = ap (λ x. kinds_bytes code x names) (drop_all i kinds h)

ltb_suc : (a b : ℕ) → ltb a b ≡ ltb (suc a) (suc b)
ltb_suc a b = grind (arith, nat_tests)

abbrev named_thing : List ℕ → List (List ℕ) → Thing
named_thing w ns = record { kind = w; numbers = ns }

-- The name of a kind by its place.
kind_by : (code kinds names : List ℕ) (k : ℕ) → get_or (map (λ x. x.name) (held_kinds code kinds names)) k [] ≡ cond (ltb k (length kinds)) (unpack (get_or names (65 * k) 0)) []
unfolding held_kinds
kind_by code [] names k = sym (cond-false (ltb k 0) (unpack (get_or names (65 * k) 0)) [] (le-ltb k 0 (omega arith)))
kind_by code (s ∷ ss) names zero = cond_below 0 (length (s ∷ ss)) _ _ (omega arith)
kind_by code (s ∷ ss) names (suc k) =
    let e : 65 + 65 * k ≡ 65 * suc k = omega arith in
    kind_by code ss (drop 65 names) k
    ∙ ap (λ x. cond (ltb k (length ss)) (unpack x) []) (get_or-drop 65 names (65 * k) 0 ∙ ap (λ j. get_or names j 0) e)
    ∙ ap (λ b. cond b (unpack (get_or names (65 * suc k) 0)) []) (ltb_suc k (length ss))

unpack_cond : (b : Bool) (p : ℕ) → unpack (cond b p 0) ≡ cond b (unpack p) []
unpack_cond true p = refl
unpack_cond false p = unpack_zero 8

map_same : {A B : Type 0} (f g : A → B) (xs : List A) → ((x : A) → f x ≡ g x) → map f xs ≡ map g xs
map_same f g [] h = refl
map_same f g (x ∷ xs) h = ap (λ y. y ∷ map f xs) (h x) ∙ ap (λ ys. g x ∷ ys) (map_same f g xs h)

pub things_are : (code kinds names : List ℕ) (ps : List Process) (vars : List ℕ) →
    things_bytes kinds names ps vars ≡ show_things (map (thing_text (held_kinds code kinds names)) (held_things ps vars))
things_are code kinds names ps vars =
    ap show_things (map_same (λ x. thing_of (kind_name kinds names x.kind) x.numbers) (thing_text (held_kinds code kinds names)) (held_things ps vars)
    (λ x. ap (λ w. named_thing w (map digits x.numbers)) (unpack_cond (ltb x.kind (length kinds)) (get_or names (65 * x.kind) 0) ∙ sym (kind_by code kinds names x.kind))))

-- A kind, with its names as they are known.
pub kind_is : (code : List ℕ) (s : ℕ) (names known own : List ℕ) (p : ℕ) → map unpack known ≡ names_of (take 64 (drop 1 names)) → own ≡ drop s code → p ≡ get_or names 0 0 →
    codes "kind " ++ (unpack p ++ (show_row (map unpack known) ++ (newline ++ (lines_bytes known (length own) own ++ codes "end\n"))))
    ≡ show_kinds (kind_text (held_kind code s names) ∷ [])
unfolding show_kinds
kind_is code s names known own p e f g =
    ap (λ x. codes "kind " ++ (unpack x ++ (show_row (map unpack known) ++ (newline ++ (lines_bytes known (length own) own ++ codes "end\n"))))) g
    ∙ ap (λ x. codes "kind " ++ (unpack (get_or names 0 0) ++ (show_row (map unpack known) ++ (newline ++ (lines_bytes known (length x) x ++ codes "end\n"))))) f
    ∙ ap (λ x. codes "kind " ++ (unpack (get_or names 0 0) ++ (show_row x ++ (newline ++ (show_lines (lines x (body_from code s)) ++ codes "end\n"))))) e

by_first : (p : ℕ) (xs : List ℕ) (b : Bool) → map unpack (take (position_or_len (λ x. eqb x 0) xs) xs) ≡ names_of xs →
    map unpack (take (cond (not b) (1 + position_or_len (λ x. eqb x 0) xs) 0) (p ∷ xs)) ≡ cond b [] (unpack p ∷ names_of xs)
by_first p xs true e = refl
by_first p xs false e = rw one-add (ap (λ ys. unpack p ∷ ys) e)

-- The names up to the first 0 are as many as stand before it.
names_known : (xs : List ℕ) → map unpack (take (position_or_len (λ x. eqb x 0) xs) xs) ≡ names_of xs
unfolding names_of
names_known [] = refl
names_known (p ∷ xs) = by_first p xs (eqb p 0) (names_known xs)

pub found : (b : Bool) (n k : ℕ) → cond b (Some n) None ≡ Some k → n ≡ k
found true n k e = cc
found false n k e = absurd (let z : ◌≡◌ {A = ℕ} 0 1 = cc in omega arith)

pub known_some : (xs : List ℕ) (k : ℕ) → position (λ x. eqb x 0) xs ≡ Some k → map unpack (take k xs) ≡ names_of xs
known_some xs k e = ap (λ n. map unpack (take n xs)) (sym (found (ltb (position_or_len (λ x. eqb x 0) xs) (length xs)) _ k e)) ∙ names_known xs

pub not_found : (b : Bool) (n : ℕ) → cond b (Some n) None ≡ None → b ≡ false
not_found true n e = absurd (let z : ◌≡◌ {A = ℕ} 0 1 = cc in omega arith)
not_found false n e = refl

pub known_none : (xs : List ℕ) → position (λ x. eqb x 0) xs ≡ None → map unpack xs ≡ names_of xs
known_none xs e =
    let h = not_found (ltb (position_or_len (λ x. eqb x 0) xs) (length xs)) _ e in
    ap (map unpack) (sym (take_all (position_or_len (λ x. eqb x 0) xs) xs (grind (arith, nat_tests)))) ∙ names_known xs
