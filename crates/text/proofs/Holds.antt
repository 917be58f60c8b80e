-- What filled slices hold.
use Rattle.std.proofs.Common.{◌≡◌, ℕ, zero, suc, ◌+◌, ◌*◌, ◌/◌, ◌%◌, ◌<◌, ◌≤◌, min, true, false, eqb, leb, ◌⊎◌, List, [], ◌∷◌, ◌++◌, map, length, get_or, take, drop, sym, refl, ap, ◌∙◌, inl, inr, append_assoc, arith, length-append}
use Rattle.std.proofs.lemmas.Bool.{both_ways, and_parts, leb-true, ne_eqb, or_cases, cond-false}
use Rattle.std.proofs.lemmas.List.{drop_at, take_at, take-append-le, drop-drop, length-map}
use Rattle.body.specs.Code.{body_of}
use Rattle.body.proofs.Encode.{decodes}
use Rattle.sequential.specs.Memory.{body_from}
use Rattle.grammar.specs.Syntax.{all, in_word, is_letter, is_digit, is_name, every, Kind, Thing, spelled_kind, spelled_lines}
use Rattle.grammar.specs.Check.{decimal}
use Rattle.grammar.specs.Rules.{small}
use Rattle.words.specs.Words.{pack, unpack, unpack_upto}
use Rattle.words.proofs.Packs.{word_bytes}
use Rattle.text.specs.Named.{Sent, body, named_kind, made, sent, counted}
use Rattle.text.specs.Slices.{row, over, kind_words, words, starts, name_rows, process_of, var_rows, names_of, held_kinds, held_things, held_note}
use Rattle.text.specs.Tables.{padded, fit_thing}
use Rattle.text.specs.Promise.{FilledHolds}
use Rattle.text.proofs.Firsts.{name_word}
use Rattle.text.proofs.Lists.{padded_row, padded_length, padded_front}
use Rattle.text.proofs.Wholes.{row_length}
use Rattle.text.proofs.Sizes.{starts_length, counted_length, things_fit}

-- A byte of a word has a place among 256, and isn't 0.
byte_range : (b : ℕ) → in_word b ≡ true → (0 < b) × (b < 256)
byte_range b h = go (or_cases (is_letter b) (is_digit b) h)
  where
    go : (is_letter b ≡ true) ⊎ (is_digit b ≡ true) → (0 < b) × (b < 256)
    go (inl l) = let p = and_parts (leb 97 b) (leb b 122) l in (omega (arith, leb-true 97 b p.0), omega (arith, leb-true b 122 p.1))
    go (inr l) = let p = and_parts (leb 48 b) (leb b 57) l in (omega (arith, leb-true 48 b p.0), omega (arith, leb-true b 57 p.1))

low_byte : (b p : ℕ) → b < 256 → (b + 256 * p) % 256 ≡ b
low_byte b p h = omega arith

high_bytes : (b p : ℕ) → b < 256 → (b + 256 * p) / 256 ≡ p
high_bytes b p h = omega arith

-- A packed word stands for that word.
unpacked : (n : ℕ) (w : List ℕ) → all in_word w ≡ true → length w ≤ n → unpack_upto n (pack w) ≡ w
unfolding unpack_upto pack all
unpacked zero [] h l = refl
unpacked (suc n) [] h l = refl
unpacked zero (b ∷ w) h l = absurd (omega arith)
unpacked (suc n) (b ∷ w) h l =
    let p = and_parts (in_word b) (all in_word w) h in
    let r = byte_range b p.0 in
    cond-false (eqb (b + 256 * pack w) 0) [] (((b + 256 * pack w) % 256) ∷ unpack_upto n ((b + 256 * pack w) / 256)) (ne_eqb (b + 256 * pack w) 0 (λ e. omega arith))
    ∙ ap (λ x. x ∷ unpack_upto n ((b + 256 * pack w) / 256)) (low_byte b (pack w) r.1)
    ∙ ap (λ x. b ∷ unpack_upto n x) (high_bytes b (pack w) r.1) ∙ ap (λ x. b ∷ x) (unpacked n w p.1 (omega arith))

name_unpacked : (w : List ℕ) → is_name w ≡ true → unpack (pack w) ≡ w
name_unpacked w h = let p = word_bytes w (name_word w h) in unpacked 8 w p.0 p.1

name_packed : (w : List ℕ) → is_name w ≡ true → eqb (pack w) 0 ≡ false
unfolding pack all
name_packed [] h = absurd (both_ways true (sym h) refl)
name_packed (b ∷ w) h =
    let p = and_parts (in_word b) (all in_word w) (word_bytes (b ∷ w) (name_word (b ∷ w) h)).0 in
    let r = byte_range b p.0 in
    ne_eqb (b + 256 * pack w) 0 (λ e. omega arith)

-- The names of a row.
names_held : (n : ℕ) (ws : List (List ℕ)) → every is_name ws ≡ true → length ws ≤ n → names_of (padded 0 n (map pack ws)) ≡ ws
unfolding names_of padded every
names_held zero [] h l = refl
names_held (suc n) [] h l = refl
names_held zero (w ∷ ws) h l = absurd (omega arith)
names_held (suc n) (w ∷ ws) h l =
    let p = and_parts (is_name w) (every is_name ws) h in
    cond-false (eqb (pack w) 0) [] (unpack (pack w) ∷ names_of (padded 0 n (map pack ws))) (name_packed w p.0)
    ∙ ap (λ x. x ∷ names_of (padded 0 n (map pack ws))) (name_unpacked w p.0) ∙ ap (λ x. w ∷ x) (names_held n ws p.1 (omega arith))

row_names : (p : ℕ) (ws : List (List ℕ)) (rest : List ℕ) → every is_name ws ≡ true → length ws ≤ 64 → names_of (take 64 (drop 1 (row 65 (p ∷ map pack ws) ++ rest))) ≡ ws
unfolding padded
row_names p ws rest h l =
    ap (λ x. names_of (take 64 (drop 1 (x ++ rest)))) (sym (padded_row 65 (p ∷ map pack ws)))
    ∙ ap names_of (take_at (padded 0 64 (map pack ws)) rest 64 (padded_length 64 (map pack ws))) ∙ names_held 64 ws h l

row_name : (p : ℕ) (ps rest : List ℕ) → get_or (row 65 (p ∷ ps) ++ rest) 0 0 ≡ p
unfolding padded
row_name p ps rest = ap (λ z. get_or (z ++ rest) 0 0) (sym (padded_row 65 (p ∷ ps)))

-- The lines of a kind, from where its words begin.
body_held : (x : Kind) (code rest : List ℕ) (at : ℕ) → drop at code ≡ kind_words x ++ rest → body_from code at ≡ body x.numbers x.lines
body_held x code rest at e =
    ap (λ z. body_of (length z) z) e ∙ decodes (body x.numbers x.lines) rest (length (kind_words x ++ rest)) (omega (arith, length-append (kind_words x) rest))

kinds_held : (code : List ℕ) (at : ℕ) (ks : List Kind) (rest names more : List ℕ) → drop at code ≡ words ks ++ rest → names ≡ name_rows ks ++ more → every spelled_kind ks ≡ true →
    held_kinds code (starts at ks) names ≡ map named_kind ks
unfolding held_kinds starts words name_rows every
kinds_held code at [] rest names more e n h = refl
kinds_held code at (x ∷ ks) rest names more e n h =
    let s = and_parts (spelled_kind x) (every spelled_kind ks) h in
    let s1 = and_parts (is_name x.name) _ s.0 in
    let s2 = and_parts (every is_name x.numbers) _ s1.1 in
    let s3 = and_parts (leb (length x.numbers) 64) (spelled_lines x.lines) s2.1 in
    let r = row 65 (map pack (x.name ∷ x.numbers)) in
    let n' = n ∙ append_assoc r (name_rows ks) more in
    let e' = e ∙ append_assoc (kind_words x) (words ks) rest in
    let a = ap (λ z. unpack (get_or z 0 0)) n' ∙ ap unpack (row_name (pack x.name) (map pack x.numbers) (name_rows ks ++ more)) ∙ name_unpacked x.name s1.0 in
    let b =
    ap (λ z. names_of (take 64 (drop 1 z))) n'
    ∙ row_names (pack x.name) x.numbers (name_rows ks ++ more) s2.0 (leb-true (length x.numbers) 64 s3.0) in
    let c = body_held x code (words ks ++ rest) at e' in
    let d =
    kinds_held code (at + length (kind_words x)) ks rest (drop 65 names) more
    (sym (drop-drop (length (kind_words x)) at code) ∙ ap (drop (length (kind_words x))) e' ∙ drop_at (kind_words x) (words ks ++ rest) (length (kind_words x)) refl)
    (ap (drop 65) n' ∙ drop_at r (name_rows ks ++ more) 65 (row_length 65 (map pack (x.name ∷ x.numbers)))) s.1 in
    λ i. record { name = a i; numbers = b i; body = c i } ∷ d i

-- The numbers of a thing, from its row.
row_numbers : (xs rest : List ℕ) (width : ℕ) → length xs ≤ 64 → width ≡ length xs → take (min width 64) (row 64 xs ++ rest) ≡ xs
row_numbers xs rest width h e =
    let m : min width 64 ≡ length xs = omega arith in
    ap (λ n. take n (row 64 xs ++ rest)) m ∙ take-append-le (length xs) (row 64 xs) rest (omega (arith, row_length 64 xs))
    ∙ ap (take (length xs)) (sym (padded_row 64 xs)) ∙ padded_front 64 xs h

things_held : (ks : List Kind) (xs : List Thing) (vars rest : List ℕ) → vars ≡ var_rows xs ++ rest → every fit_thing xs ≡ true → held_things (map (process_of ks) xs) vars ≡ map (made ks) xs
unfolding held_things var_rows every
things_held ks [] vars rest e h = refl
things_held ks (x ∷ xs) vars rest e h =
    let s = and_parts (fit_thing x) (every fit_thing xs) h in
    let f = and_parts (leb (length x.numbers) 64) (every small x.numbers) s.0 in
    let few = leb-true (length x.numbers) 64 f.0 in
    let r = row 64 (map (decimal 0) x.numbers) in
    let l = length-map x.numbers (decimal 0) in
    let e' = e ∙ append_assoc r (var_rows xs) rest in
    let a =
    ap (λ z. take (min (length x.numbers) 64) z) e' ∙ row_numbers (map (decimal 0) x.numbers) (var_rows xs ++ rest) (length x.numbers) (omega arith) (sym l) in
    let b = things_held ks xs (drop 64 vars) rest (ap (drop 64) e' ∙ drop_at r (var_rows xs ++ rest) 64 (row_length 64 (map (decimal 0) x.numbers))) s.1 in
    λ i. record { kind = (made ks x).kind; numbers = a i } ∷ b i

notes_held : (things k : ℕ) (ns : List Sent) → map held_note (counted things k ns) ≡ ns
unfolding counted
notes_held things k [] = refl
notes_held things k (n ∷ ns) = ap (λ x. n ∷ x) (notes_held things (suc k) ns)

pub filled_holds : FilledHolds
filled_holds t s sp keeps room =
    let s1 = and_parts (every spelled_kind t.kinds) _ sp in
    let st = starts 0 t.kinds in
    let ps = map (process_of t.kinds) t.things in
    let ms = counted (length t.things) 0 (map sent t.notes) in
    let a =
    ap (λ z. held_kinds (over (words t.kinds) s.code) z (over (name_rows t.kinds) s.names)) (take_at st (drop (length st) s.kinds) (length t.kinds) (starts_length 0 t.kinds))
    ∙ kinds_held (over (words t.kinds) s.code) 0 t.kinds (drop (length (words t.kinds)) s.code) (over (name_rows t.kinds) s.names) (drop (length (name_rows t.kinds)) s.names) refl refl s1.0 in
    let b =
    ap (λ z. held_things z (over (var_rows t.things) s.vars)) (take_at ps (drop (length ps) s.processes) (length t.things) (length-map t.things (process_of t.kinds)))
    ∙ things_held t.kinds t.things (over (var_rows t.things) s.vars) (drop (length (var_rows t.things)) s.vars) refl (things_fit t.kinds t.things s1.0 keeps.things_right) in
    let c =
    ap (map held_note) (take_at ms (drop (length ms) s.messages) (length t.notes) (counted_length (length t.things) 0 (map sent t.notes) ∙ length-map t.notes sent))
    ∙ notes_held (length t.things) 0 (map sent t.notes) in
    λ i. record { kinds = a i; things = b i; notes = c i }
