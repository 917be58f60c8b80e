-- What a text says is in bounds, and is written as the text was but for each else with no lines.
use Rattle.std.proofs.Common.{◌≡◌, ℕ, ◌≤◌, Bool, true, ◌&&◌, eqb, ltb, leb, List, map, length, get_or, sym, ap, ◌∙◌, subst, arith, length-append}
use mathlib.Core.List.{map-map}
use lib.ListN.{length-map}
use Rattle.std.proofs.lemmas.Bool.{and_parts, and_from, ltb-true, lt-ltb, eqb-true, eq-eqb}
use Rattle.grammar.specs.Syntax.{Kind, Thing, Note, Text, IsText, is_name, is_number, among, every, spelled_lines, spelled_kind, spelled_thing, spelled_note, show_kinds, show_things, show_notes, show}
use Rattle.grammar.specs.Check.{decimal, too_large, most_deep, most_lines, most_things, known, count_of}
use Rattle.grammar.specs.Rules.{Keeps, distinct, small, right_lines, depth, kind_lines, short, right_kind, right_thing, right_note}
use Rattle.text.specs.Named.{named, text_of, index_of, body, digits, named_kind, made, sent, kind_text, thing_text, note_text}
use Rattle.text.specs.Bounds.{SaidBounded, WrittenAnew, InBounds, bounded_body, bounded_kind, bounded_thing, bounded_note}
use Rattle.text.proofs.Canonical.{digits_decimal}
use Rattle.text.proofs.LawNames.{index_in, at_index, every_map, every_both, map_same, map_back, count_is, from_two, from_three}
use Rattle.text.proofs.LawLines.{lines_said, body_depth_is}
use Rattle.text.proofs.LawFewer.{tidy_kind, tidy_fewer, tidy_every, tidy_bytes}
use Rattle.text.proofs.LawTexts.{has_text}

-- A kind that passes both tests, of its spelling and of its rules; and so of digits, things and messages.
abbrev good_kind : Kind → Bool
good_kind k = spelled_kind k && right_kind k

record KindSaid (k : Kind) : Type 0 where
  bounded : bounded_kind (named_kind k) ≡ true
  written : kind_text (named_kind k) ≡ tidy_kind k

kind_said : (k : Kind) → good_kind k ≡ true → KindSaid k
kind_said k h =
    (let g = and_parts (spelled_kind k) (right_kind k) h in
    let p = and_parts (is_name k.name) _ g.0 in
    let q = and_parts (every is_name k.numbers) _ p.1 in
    let r = and_parts (leb (length k.numbers) 64) (spelled_lines k.lines) q.1 in
    let s = and_parts (distinct k.numbers) _ g.1 in
    let t = and_parts (right_lines k.numbers k.lines) (leb (depth k.lines) most_deep) s.1 in
    let x = lines_said k.numbers k.lines r.1 t.0 in
    record {
      bounded = and_from (is_name k.name) _ p.0 (and_from (every is_name k.numbers) _ q.0 (and_from (distinct k.numbers) _ s.0
          (and_from (leb (length k.numbers) 64) _ r.0 (and_from (bounded_body (length k.numbers) (body k.numbers k.lines)) _ x.bounded
          (subst (λ d. leb d most_deep ≡ true) (sym (body_depth_is k.numbers k.lines)) t.1)))));
      written = ap (λ ls. let y : Kind = record { name = k.name; numbers = k.numbers; lines = ls } in y) x.written;
    })

-- The kinds that are said have the names and the counts that they had.
names_same : (ks : List Kind) → map (λ k. k.name) (map named_kind ks) ≡ map (λ k. k.name) ks
names_same ks = map-map (λ k. k.name) named_kind ks

known_names : (ks : List Kind) → map (λ k. k.name) (map known ks) ≡ map (λ k. k.name) ks
known_names ks = map-map (λ k. k.name) known ks

known_counts : (ks : List Kind) → map (λ k. k.count) (map known ks) ≡ map (λ k. length k.numbers) (map named_kind ks)
known_counts ks = map-map (λ k. k.count) known ks ∙ sym (map-map (λ k. length k.numbers) named_kind ks)

abbrev good_number : List ℕ → Bool
good_number ds = is_number ds && small ds

number_back : (ds : List ℕ) → good_number ds ≡ true → digits (decimal 0 ds) ≡ ds
number_back ds h = (let p = and_parts (is_number ds) (small ds) h in digits_decimal ds p.0 (ltb-true (decimal 0 ds) too_large p.1))

abbrev good_thing : List Kind → Thing → Bool
good_thing ks x = spelled_thing x && right_thing (map known ks) x

module _ (ks : List Kind) where
  record ThingSaid (x : Thing) : Type 0 where
    bounded : bounded_thing (map named_kind ks) (made ks x) ≡ true
    written : thing_text (map named_kind ks) (made ks x) ≡ x

  thing_said : (x : Thing) → good_thing ks x ≡ true → ThingSaid x
  thing_said x h =
      (let g = and_parts (spelled_thing x) (right_thing (map known ks) x) h in
      let p = and_parts (is_name x.kind) (every is_number x.numbers) g.0 in
      let q = and_parts (among x.kind (map (λ k. k.name) (map known ks))) _ g.1 in
      let r = and_parts (eqb (length x.numbers) (count_of x.kind (map known ks))) (every small x.numbers) q.1 in
      let a = subst (λ ns. among x.kind ns ≡ true) (known_names ks) q.0 in
      let i = index_of x.kind (map (λ k. k.name) ks) in
      let c = count_is x.kind (map known ks) q.0 in
      let d = eqb-true (length x.numbers) (count_of x.kind (map known ks)) r.0 in
      let e = known_names ks in
      let f = known_counts ks in
      let j = names_same ks in
      let l = length-map x.numbers (decimal 0) in
      let o = at_index x.kind (map (λ k. k.name) ks) a in
      record {
        bounded = and_from (ltb i (length (map named_kind ks))) _
            (lt-ltb i (length (map named_kind ks)) (simp length-map (simp length-map at (index_in x.kind (map (λ k. k.name) ks) a))))
            (and_from (eqb (length (map (decimal 0) x.numbers)) (get_or (map (λ k. length k.numbers) (map named_kind ks)) i 0)) _
            (eq-eqb (length (map (decimal 0) x.numbers)) (get_or (map (λ k. length k.numbers) (map named_kind ks)) i 0) cc)
            (every_map small (λ n. ltb n too_large) (decimal 0) x.numbers (λ ds s. s) r.1));
        written = from_two (λ w xs. let y : Thing = record { kind = w; numbers = xs } in y) (cc)
            (map_back good_number digits (decimal 0) x.numbers number_back (every_both is_number small x.numbers p.1 r.1));
      })

abbrev good_note : ℕ → Note → Bool
good_note things n = spelled_note n && right_note things n

note_back : (things : ℕ) → things ≤ most_things → (n : Note) → good_note things n ≡ true → note_text (sent n) ≡ n
note_back things few n h =
    (let g = and_parts (spelled_note n) (right_note things n) h in
    let p = and_parts (is_number n.time) _ g.0 in
    let q = and_parts (is_number n.to) (is_number n.number) p.1 in
    let r = and_parts (small n.time) _ g.1 in
    let s = and_parts (ltb (decimal 0 n.to) things) (small n.number) r.1 in
    let l = ltb-true (decimal 0 n.to) things s.0 in
    from_three (λ a b c. let y : Note = record { time = a; to = b; number = c } in y)
    (digits_decimal n.time p.0 (ltb-true (decimal 0 n.time) too_large r.0)) (digits_decimal n.to q.0 (omega arith))
    (digits_decimal n.number q.1 (ltb-true (decimal 0 n.number) too_large s.1)))

-- A text that is taken.
module _ (t : Text) (bs : List ℕ) (is : IsText bs t) (keeps : Keeps t) where
  good_kinds : every good_kind t.kinds ≡ true
  good_kinds = every_both spelled_kind right_kind t.kinds (and_parts (every spelled_kind t.kinds) _ is.well_spelled).0 keeps.kinds_right

  behind_kinds : (every spelled_thing t.things ≡ true) × (every spelled_note t.notes ≡ true)
  behind_kinds =
      and_parts (every spelled_thing t.things) (every spelled_note t.notes) (and_parts (every spelled_kind t.kinds) _ is.well_spelled).1

  good_things : every (good_thing t.kinds) t.things ≡ true
  good_things = every_both spelled_thing (right_thing (map known t.kinds)) t.things behind_kinds.0 keeps.things_right

  good_notes : every (good_note (length t.things)) t.notes ≡ true
  good_notes = every_both spelled_note (right_note (length t.things)) t.notes behind_kinds.1 keeps.notes_right

  written_kinds : (text_of (named t)).kinds ≡ map tidy_kind t.kinds
  written_kinds =
      map-map kind_text named_kind t.kinds
      ∙ map_same good_kind (λ k. kind_text (named_kind k)) tidy_kind t.kinds (λ k h. (kind_said k h).written) good_kinds

  written_things : (text_of (named t)).things ≡ t.things
  written_things =
      map_back (good_thing t.kinds) (thing_text (map named_kind t.kinds)) (made t.kinds) t.things (λ x h. (thing_said t.kinds x h).written) good_things

  written_notes : (text_of (named t)).notes ≡ t.notes
  written_notes =
      map_back (good_note (length t.things)) note_text sent t.notes (note_back (length t.things) keeps.few_things) good_notes

  no_longer : length (show (text_of (named t))) ≤ length (show t)
  unfolding show
  no_longer =
      (let a = ap show_kinds written_kinds in
      let b = ap show_things written_things in
      let c = ap show_notes written_notes in
      let d = tidy_bytes t.kinds in
      simp (length-append, a, b, c) (omega arith))

  in_bounds : InBounds (named t)
  in_bounds =
      record {
        kinds_once = subst (λ ns. distinct ns ≡ true) (sym (names_same t.kinds)) keeps.kinds_once;
        kinds_bounded = every_map good_kind bounded_kind named_kind t.kinds (λ k h. (kind_said k h).bounded) good_kinds;
        things_bounded = every_map (good_thing t.kinds) (bounded_thing (map named_kind t.kinds)) (made t.kinds) t.things
            (λ x h. (thing_said t.kinds x h).bounded) good_things;
        notes_bounded = subst (λ n. every (bounded_note n) (map sent t.notes) ≡ true) (sym (length-map t.things (made t.kinds)))
            (every_map (right_note (length t.things)) (bounded_note (length t.things)) sent t.notes (λ n h. h) keeps.notes_right);
        few_lines = subst (λ ks. length (kind_lines ks) ≤ most_lines) (sym written_kinds) (let k = keeps.few_lines in omega (arith, tidy_fewer t.kinds));
        short_lines = subst (λ ks. every short (kind_lines ks) ≡ true) (sym written_kinds) (tidy_every short t.kinds keeps.short_lines);
        few_things = simp length-map keeps.few_things;
        few_notes = simp length-map keeps.few_notes;
        few_bytes = (let k = keeps.few_bytes in omega (arith, no_longer));
      }

pub said_bounded : SaidBounded
said_bounded bs m (t, is, keeps, e) = subst InBounds e (in_bounds t bs is keeps)

pub written_anew : WrittenAnew
written_anew bs m (t, is, keeps, e) = (
  has_text m (said_bounded bs m (t, is, keeps, e)),
  subst (λ n. length (show (text_of n)) ≤ length bs) e
      (subst (λ cs. length (show (text_of (named t))) ≤ length cs) is.shows (no_longer t bs is keeps)),
)
