-- A text is one model at most, and a model in bounds has a text.
use Rattle.std.proofs.Common.{◌≡◌, ℕ, ◌<◌, ◌≤◌, true, eqb, ltb, leb, List, [], map, length, get_or, sym, refl, ap, ◌∙◌, subst, arith}
use mathlib.Core.List.{map-map}
use lib.ListN.{length-map}
use Rattle.std.proofs.lemmas.Bool.{and_parts, and_from, ltb-true, lt-ltb, eqb-true, eq-eqb}
use Rattle.grammar.specs.Syntax as text
use Rattle.grammar.specs.Syntax.{is_name, is_number, among, every, spelled_kind, spelled_thing, spelled_note}
use Rattle.grammar.specs.Check.{decimal, too_large, most_names, most_deep, most_things, known, count_of}
use Rattle.grammar.specs.Rules.{Keeps, distinct, small, right_lines, depth, right_kind, right_thing, right_note}
use Rattle.grammar.proofs.Texts.{one_tree}
use Rattle.text.specs.Named.{NamedKind, Made, Sent, Named, named, text_of, lines, digits, named_kind, made, sent, kind_text, thing_text, note_text}
use Rattle.text.specs.Bounds.{OneModel, HasText, bounded_body, body_depth, bounded_kind, bounded_thing, bounded_note}
use Rattle.text.proofs.Canonical.{decimal_digits, number_digits}
use Rattle.text.proofs.LawNames.{among_at, index_at, every_at, every_map, map_back, count_is, from_two, from_three}
use Rattle.text.proofs.LawLines.{LinesOf, lines_has, body_depth_is}

pub one_model : OneModel
one_model bs m n h k = sym h.3 ∙ ap named (one_tree bs h.0 k.0 h.1 k.1) ∙ k.3

-- What is kept of a kind in bounds.
record KindIn (k : NamedKind) : Type 0 where
  name : is_name k.name ≡ true
  numbers : every is_name k.numbers ≡ true
  once : distinct k.numbers ≡ true
  few : leb (length k.numbers) most_names ≡ true
  written : LinesOf k.numbers k.body (lines k.numbers k.body)
  deep : leb (depth (lines k.numbers k.body)) most_deep ≡ true

kind_in : (k : NamedKind) → bounded_kind k ≡ true → KindIn k
kind_in k h =
    (let p = and_parts (is_name k.name) _ h in
    let q = and_parts (every is_name k.numbers) _ p.1 in
    let r = and_parts (distinct k.numbers) _ q.1 in
    let s = and_parts (leb (length k.numbers) most_names) _ r.1 in
    let t = and_parts (bounded_body (length k.numbers) k.body) (leb (body_depth k.body) most_deep) s.1 in
    let ls = lines_has k.numbers q.0 r.0 k.body t.0 in
    record {
      name = p.0;
      numbers = q.0;
      once = r.0;
      few = s.0;
      written = ls;
      deep = subst (λ d. leb d most_deep ≡ true) (ap body_depth (sym ls.says) ∙ body_depth_is k.numbers (lines k.numbers k.body)) t.1;
    })

kind_spelled : (k : NamedKind) → bounded_kind k ≡ true → spelled_kind (kind_text k) ≡ true
kind_spelled k h =
    (let i = kind_in k h in
    and_from (is_name k.name) _ i.name (and_from (every is_name k.numbers) _ i.numbers
    (and_from (leb (length k.numbers) 64) _ i.few i.written.spelled)))

kind_right : (k : NamedKind) → bounded_kind k ≡ true → right_kind (kind_text k) ≡ true
kind_right k h =
    (let i = kind_in k h in
    and_from (distinct k.numbers) _ i.once (and_from (right_lines k.numbers (lines k.numbers k.body)) _ i.written.right i.deep))

kind_back : (k : NamedKind) → bounded_kind k ≡ true → named_kind (kind_text k) ≡ k
kind_back k h =
    (let i = kind_in k h in
    ap (λ b. let x : NamedKind = record { name = k.name; numbers = k.numbers; body = b } in x) i.written.says)

-- Numbers below 2^32.
numbers_spelled : (xs : List ℕ) → every (λ a. ltb a too_large) xs ≡ true → every is_number (map digits xs) ≡ true
numbers_spelled xs h = every_map (λ a. ltb a too_large) is_number digits xs (λ a l. number_digits a (ltb-true a too_large l)) h

small_digits : (a : ℕ) → ltb a too_large ≡ true → small (digits a) ≡ true
small_digits a h = (let e = decimal_digits a (ltb-true a too_large h) in subst (λ n. ltb n too_large ≡ true) (sym e) h)

numbers_small : (xs : List ℕ) → every (λ a. ltb a too_large) xs ≡ true → every small (map digits xs) ≡ true
numbers_small xs h = every_map (λ a. ltb a too_large) small digits xs small_digits h

numbers_back : (xs : List ℕ) → every (λ a. ltb a too_large) xs ≡ true → map (decimal 0) (map digits xs) ≡ xs
numbers_back xs h = map_back (λ a. ltb a too_large) (decimal 0) digits xs (λ a l. decimal_digits a (ltb-true a too_large l)) h

-- The kinds that are written have the names and the counts that they had.
names_same : (ks : List NamedKind) → map (λ k. k.name) (map kind_text ks) ≡ map (λ k. k.name) ks
names_same ks = map-map (λ k. k.name) kind_text ks

known_names : (ks : List NamedKind) → map (λ k. k.name) (map known (map kind_text ks)) ≡ map (λ k. k.name) ks
known_names ks = map-map (λ k. k.name) known (map kind_text ks) ∙ names_same ks

known_counts : (ks : List NamedKind) → map (λ k. k.count) (map known (map kind_text ks)) ≡ map (λ k. length k.numbers) ks
known_counts ks = map-map (λ k. k.count) known (map kind_text ks) ∙ map-map (λ k. length k.numbers) kind_text ks

-- The things of kinds in bounds.
module _ (ks : List NamedKind) (bounded : every bounded_kind ks ≡ true) (once : distinct (map (λ k. k.name) ks) ≡ true) where
  record ThingIn (x : Made) : Type 0 where
    place : x.kind < length (map (λ k. k.name) ks)
    count : length x.numbers ≡ get_or (map (λ k. length k.numbers) ks) x.kind 0
    numbers : every (λ a. ltb a too_large) x.numbers ≡ true

  thing_in : (x : Made) → bounded_thing ks x ≡ true → ThingIn x
  thing_in x h =
      (let p = and_parts (ltb x.kind (length ks)) _ h in
      let q = and_parts (eqb (length x.numbers) (get_or (map (λ k. length k.numbers) ks) x.kind 0)) (every (λ a. ltb a too_large) x.numbers) p.1 in
      let l = ltb-true x.kind (length ks) p.0 in
      record {
        place = simp length-map l;
        count = eqb-true (length x.numbers) (get_or (map (λ k. length k.numbers) ks) x.kind 0) q.0;
        numbers = q.1;
      })

  thing_spelled : (x : Made) → bounded_thing ks x ≡ true → spelled_thing (thing_text ks x) ≡ true
  thing_spelled x h =
      (let i = thing_in x h in
      and_from (is_name (get_or (map (λ k. k.name) ks) x.kind [])) _
      (every_at is_name (map (λ k. k.name) ks) [] x.kind (every_map bounded_kind is_name (λ k. k.name) ks (λ k b. (kind_in k b).name) bounded) i.place)
      (numbers_spelled x.numbers i.numbers))

  thing_right : (x : Made) → bounded_thing ks x ≡ true → right_thing (map known (map kind_text ks)) (thing_text ks x) ≡ true
  thing_right x h =
      (let i = thing_in x h in
      let w = get_or (map (λ k. k.name) ks) x.kind [] in
      let a = subst (λ ns. among w ns ≡ true) (sym (known_names ks)) (among_at (map (λ k. k.name) ks) x.kind i.place) in
      let c = count_is w (map known (map kind_text ks)) a in
      let d = index_at (map (λ k. k.name) ks) x.kind once i.place in
      let e = known_names ks in
      let f = known_counts ks in
      let g = i.count in
      let l = length-map x.numbers digits in
      and_from (among w (map (λ k. k.name) (map known (map kind_text ks)))) _ a
      (and_from (eqb (length (map digits x.numbers)) (count_of w (map known (map kind_text ks)))) _
      (eq-eqb (length (map digits x.numbers)) (count_of w (map known (map kind_text ks))) cc) (numbers_small x.numbers i.numbers)))

  thing_back : (x : Made) → bounded_thing ks x ≡ true → made (map kind_text ks) (thing_text ks x) ≡ x
  thing_back x h =
      (let i = thing_in x h in
      let e = names_same ks in
      let d = index_at (map (λ k. k.name) ks) x.kind once i.place in
      from_two (λ k xs. let y : Made = record { kind = k; numbers = xs } in y) (cc) (numbers_back x.numbers i.numbers))

-- Messages to so many things.
record NoteIn (things : ℕ) (n : Sent) : Type 0 where
  time : ltb n.time too_large ≡ true
  to : ltb n.to too_large ≡ true
  number : ltb n.number too_large ≡ true
  target : n.to < things

module _ (things : ℕ) (few : things ≤ most_things) where
  note_in : (n : Sent) → bounded_note things n ≡ true → NoteIn things n
  note_in n h =
      (let p = and_parts (ltb n.time too_large) _ h in
      let q = and_parts (ltb n.to things) (ltb n.number too_large) p.1 in
      let l = ltb-true n.to things q.0 in
      record { time = p.0; to = lt-ltb n.to too_large (omega arith); number = q.1; target = l })

  note_spelled : (n : Sent) → bounded_note things n ≡ true → spelled_note (note_text n) ≡ true
  note_spelled n h =
      (let i = note_in n h in
      and_from (is_number (digits n.time)) _ (number_digits n.time (ltb-true n.time too_large i.time))
      (and_from (is_number (digits n.to)) _ (number_digits n.to (ltb-true n.to too_large i.to))
      (number_digits n.number (ltb-true n.number too_large i.number))))

  note_right : (n : Sent) → bounded_note things n ≡ true → right_note things (note_text n) ≡ true
  note_right n h =
      (let i = note_in n h in
      and_from (small (digits n.time)) _ (small_digits n.time i.time)
      (and_from (ltb (decimal 0 (digits n.to)) things) _
      (subst (λ k. ltb k things ≡ true) (sym (decimal_digits n.to (ltb-true n.to too_large i.to))) (lt-ltb n.to things i.target))
      (small_digits n.number i.number)))

  note_back : (n : Sent) → bounded_note things n ≡ true → sent (note_text n) ≡ n
  note_back n h =
      (let i = note_in n h in
      from_three (λ a b c. let y : Sent = record { time = a; to = b; number = c } in y) (decimal_digits n.time (ltb-true n.time too_large i.time))
      (decimal_digits n.to (ltb-true n.to too_large i.to)) (decimal_digits n.number (ltb-true n.number too_large i.number)))

pub has_text : HasText
has_text m i = (text_of m, record { shows = refl; well_spelled = spelled }, keeps, back)
  where
    spelled : text.spelled (text_of m) ≡ true
    spelled =
        and_from (every spelled_kind (map kind_text m.kinds)) _ (every_map bounded_kind spelled_kind kind_text m.kinds kind_spelled i.kinds_bounded)
        (and_from (every spelled_thing (map (thing_text m.kinds) m.things)) _
        (every_map (bounded_thing m.kinds) spelled_thing (thing_text m.kinds) m.things (thing_spelled m.kinds i.kinds_bounded i.kinds_once) i.things_bounded)
        (every_map (bounded_note (length m.things)) spelled_note note_text m.notes (note_spelled (length m.things) i.few_things) i.notes_bounded))

    keeps : Keeps (text_of m)
    keeps =
        record {
          kinds_once = subst (λ ns. distinct ns ≡ true) (sym (names_same m.kinds)) i.kinds_once;
          kinds_right = every_map bounded_kind right_kind kind_text m.kinds kind_right i.kinds_bounded;
          things_right =
              every_map (bounded_thing m.kinds) (right_thing (map known (map kind_text m.kinds))) (thing_text m.kinds) m.things
              (thing_right m.kinds i.kinds_bounded i.kinds_once) i.things_bounded;
          notes_right =
              subst (λ n. every (right_note n) (map note_text m.notes) ≡ true) (sym (length-map m.things (thing_text m.kinds)))
              (every_map (bounded_note (length m.things)) (right_note (length m.things)) note_text m.notes (note_right (length m.things) i.few_things)
              i.notes_bounded);
          few_lines = i.few_lines;
          short_lines = i.short_lines;
          few_things = simp length-map i.few_things;
          few_notes = simp length-map i.few_notes;
          few_bytes = i.few_bytes;
        }

    back : named (text_of m) ≡ m
    back =
        from_three (λ a b c. let y : Named = record { kinds = a; things = b; notes = c } in y)
        (map_back bounded_kind named_kind kind_text m.kinds kind_back i.kinds_bounded)
        (map_back (bounded_thing m.kinds) (made (map kind_text m.kinds)) (thing_text m.kinds) m.things
        (thing_back m.kinds i.kinds_bounded i.kinds_once) i.things_bounded)
        (map_back (bounded_note (length m.things)) sent note_text m.notes (note_back (length m.things) i.few_things) i.notes_bounded)
