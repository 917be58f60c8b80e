-- What is checked of kinds and whole texts follows what is read, and a text that is taken keeps its rules.
use Rattle.std.proofs.Common.{◌≡◌, ℕ, zero, suc, ◌+◌, ◌-◌, ◌<◌, ◌≤◌, true, false, not, eqb, ltb, List, [], ◌∷◌, ◌++◌, map, length, codes, sym, refl, ap, ◌∙◌, subst, append_assoc, append-nil, arith, length-append}
use mathlib.Core.List.{map-append}
use Rattle.std.proofs.lemmas.Bool.{and_from, and_parts, cond_both, eqb-false, le-leb, ltb-false}
use Rattle.grammar.specs.Syntax.{all, among, is_name, Kind, Text, show_row, show, every, IsText}
use Rattle.grammar.specs.Parse.{Got, got, and_then, expect, read_name, read_lines, read_kind, read_kinds, parse}
use Rattle.grammar.specs.Check.{taken, refused, line_bytes, text_bytes, most_deep, most_lines, most_things, most_notes, too_long, Known, known, First, check_first, Counted, check_kind, check_kinds, check}
use Rattle.grammar.specs.Rules.{distinct, right_lines, depth, lines_of, kind_lines, short, right_kind, right_thing, right_note, Keeps}
use Rattle.grammar.specs.Promise.{Stops, RefusedForm}
use Rattle.grammar.proofs.Leaves.{expects, names}
use Rattle.grammar.proofs.Trees.{lines_reads}
use Rattle.grammar.proofs.Parts.{upto_reads, show_line, kinds_reads}
use Rattle.grammar.proofs.Texts.{read_shown, stops_first}
use Rattle.grammar.proofs.Follow.{Follows, took, off, front_read, by_test, next, on, weaker, then_as, then_by, leaf, unless_over}
use Rattle.grammar.proofs.Short.{inside, line_inside, row_inside, short_since}
use Rattle.grammar.proofs.Blocks.{lines_follow, every_join}
use Rattle.grammar.proofs.Fresh.{fresh, fresh_distinct}
use Rattle.grammar.proofs.Rows.{new_follows, names_follow, grouped, ThingsKept, things_follow}

abbrev pub names_of : List Known → List (List ℕ)
names_of ks = map (λ k. k.name) ks

-- The first line of a kind, without its end.
abbrev pub first_line : List ℕ → List (List ℕ) → List ℕ
first_line w ws = codes "kind " ++ (w ++ show_row ws)

pub record FirstKept (ks : List Known) (bs : List ℕ) (h : First) (c : List ℕ) : Type 0 where
  pub splits : bs ≡ first_line h.name h.numbers ++ (10 ∷ c)
  pub name : is_name h.name ≡ true
  pub numbers : every is_name h.numbers ≡ true
  pub new : not (among h.name (names_of ks)) ≡ true
  pub once : fresh [] h.numbers ≡ true

-- The kind that begins so, as it is read.
abbrev pub behind : First → List ℕ → Got Kind
behind h e = and_then (read_lines (suc (length e)) false e) (λ b f. got (record { name = h.name; numbers = h.numbers; lines = b.lines }) f)

pub first_follows : (ks : List Known) (bs : List ℕ) →
    Follows behind (FirstKept ks bs) (check_first ks bs) (and_then (expect (codes "kind ") bs) (λ _ c. read_kind c))
first_follows ks bs =
    leaf _ (λ n. expects (codes "kind ")) (λ _ c x. then_by _ (λ n. names) (new_follows (names_of ks) c) (λ w d y p.
    then_by _ (λ n. upto_reads read_name is_name (λ n. names) 64 n) (names_follow [] 64 d) (λ ws e z q.
    took refl (record {
      splits = cc (shows w ws e, x.splits, y.splits, z.splits);
      name = y.fine;
      numbers = (and_parts (every is_name ws) _ z.fine).0;
      new = p;
      once = q;
    }))))
  where
    shows : (w : List ℕ) (ws : List (List ℕ)) (e : List ℕ) → codes "kind " ++ (w ++ (show_line ws ++ e)) ≡ first_line w ws ++ (10 ∷ e)
    shows w ws e = simp append_assoc

pub first_within : (w : List ℕ) (ws : List (List ℕ)) → is_name w ≡ true → every is_name ws ≡ true → all inside (first_line w ws) ≡ true
unfolding all
first_within w ws h g = line_inside w (show_row ws) h (row_inside ws g)

pub record KindKept (ks : List Known) (left : ℕ) (bs : List ℕ) (k : Counted) (c : List ℕ) : Type 0 where
  pub new : not (among k.kind.name (names_of ks)) ≡ true
  pub right : right_kind k.kind ≡ true
  pub first : short (first_line k.kind.name k.kind.numbers) ≡ true
  pub shorts : every short (lines_of k.kind.lines) ≡ true
  pub counts : suc (length (lines_of k.kind.lines) + suc k.left) ≡ left
  pub less : length c < length bs

pub kind_follows : (ks : List Known) (left : ℕ) (bs : List ℕ) →
    Follows (λ k c. got k.kind c) (KindKept ks left bs) (check_kind ks left bs) (and_then (expect (codes "kind ") bs) (λ _ c. read_kind c))
kind_follows ks left bs =
    cond_both (eqb left 0) (refused 4 bs) _ (λ r. Follows (λ k c. got k.kind c) (KindKept ks left bs) r (and_then (expect (codes "kind ") bs) (λ _ c. read_kind c)))
    (λ _. off (λ z. absurd (omega arith)))
    (λ f. (let some = eqb-false left 0 f in
    on (unless_over {P = λ h c. FirstKept ks bs h c × (short (first_line h.name h.numbers) ≡ true)} line_bytes bs (too_long bs)
    (λ h c _ f x. (x, short_since (first_line h.name h.numbers) c (first_within h.name h.numbers x.name x.numbers) (subst (λ z. too_long z ≡ false) x.splits f))) (first_follows ks bs))
    (λ h c x. then_as _ (lines_reads (suc (length c)) false) (omega arith) (lines_follow h.numbers (suc most_lines) (suc (length c)) (left - 1) most_deep false c (omega arith)) (λ b d y k.
    took refl (record {
      new = x.0.new;
      right = and_from (distinct h.numbers) _ (sym (fresh_distinct h.numbers) ∙ x.0.once)
          (and_from (right_lines h.numbers b.lines) _ k.right (le-leb (depth b.lines) most_deep k.shallow));
      first = x.1;
      shorts = k.shorts;
      counts = omega (arith, k.counts);
      less = omega (arith, ap length x.0.splits, length-append (first_line h.name h.numbers) (10 ∷ c));
    })))))

-- A text of kinds behind ks, where so many lines may come.
pub record TextKept (ks : List Known) (left : ℕ) (t : Text) (c : List ℕ) : Type 0 where
  pub once : fresh (names_of ks) (map (λ k. k.name) t.kinds) ≡ true
  pub kinds_right : every right_kind t.kinds ≡ true
  pub things_right : every (right_thing (ks ++ map known t.kinds)) t.things ≡ true
  pub notes_right : every (right_note (length t.things)) t.notes ≡ true
  pub few_lines : length (kind_lines t.kinds) ≤ left
  pub short_lines : every short (kind_lines t.kinds) ≡ true
  pub few_things : length t.things ≤ most_things
  pub few_notes : length t.notes ≤ most_notes
  pub all_read : c ≡ []

no_kinds : (ks : List Known) (left : ℕ) (t : Text) (c : List ℕ) → ThingsKept ks 0 most_things t c → TextKept ks left t c
unfolding every fresh kind_lines
no_kinds ks left t c x =
    record {
      once = subst (λ z. fresh (names_of ks) (map (λ k. k.name) z) ≡ true) (sym x.no_kinds) refl;
      kinds_right = subst (λ z. every right_kind z ≡ true) (sym x.no_kinds) refl;
      things_right = subst (λ z. every (right_thing z) t.things ≡ true) (sym (append-nil ks) ∙ ap (λ z. ks ++ map known z) (sym x.no_kinds)) x.right;
      notes_right = subst (λ z. every (right_note z) t.notes ≡ true) (omega arith) x.notes_right;
      few_lines = subst (λ z. length (kind_lines z) ≤ left) (sym x.no_kinds) (omega arith);
      short_lines = subst (λ z. every short (kind_lines z) ≡ true) (sym x.no_kinds) refl;
      few_things = x.few;
      few_notes = x.few_notes;
      all_read = x.all_read;
    }

kinds_follow : (m n : ℕ) (ks : List Known) (left : ℕ) (bs : List ℕ) → length bs < n → Follows got (TextKept ks left) (check_kinds m ks left bs) (read_kinds n bs)
unfolding check_kinds read_kinds every fresh kind_lines
kinds_follow zero n ks left bs l = off (λ z. absurd (omega arith))
kinds_follow (suc m) zero ks left bs l = absurd (omega arith)
kinds_follow (suc m) (suc n) ks left [] l =
    took refl (record {
      once = refl;
      kinds_right = refl;
      things_right = refl;
      notes_right = refl;
      few_lines = omega arith;
      short_lines = refl;
      few_things = omega arith;
      few_notes = omega arith;
      all_read = refl;
    })
kinds_follow (suc m) (suc n) ks left (b ∷ bs) l =
    by_test (eqb b 107)
    (λ _. grouped (expect (codes "kind ") (b ∷ bs)) (λ _ c. read_kind c) _ (next _ (kind_follows ks left (b ∷ bs)) (λ k c _ x.
    next _ (kinds_follow m n (ks ++ known k.kind ∷ []) k.left c (omega arith)) (λ t d _ y. took refl (record {
      once = and_from (not (among k.kind.name (names_of ks))) _ x.new
          (subst (λ z. fresh z (map (λ k. k.name) t.kinds) ≡ true) (map-append (λ (k : Known). k.name) ks (known k.kind ∷ [])) y.once);
      kinds_right = and_from (right_kind k.kind) _ x.right y.kinds_right;
      things_right = subst (λ z. every (right_thing z) t.things ≡ true) (append_assoc ks (known k.kind ∷ []) (map known t.kinds)) y.things_right;
      notes_right = y.notes_right;
      few_lines = omega (arith, length-append (lines_of k.kind.lines) (codes "end" ∷ kind_lines t.kinds));
      short_lines = and_from (short (first_line k.kind.name k.kind.numbers)) _ x.first
          (every_join short (lines_of k.kind.lines) (codes "end" ∷ kind_lines t.kinds) x.shorts y.short_lines);
      few_things = y.few_things;
      few_notes = y.few_notes;
      all_read = y.all_read;
    })))))
    (λ _. weaker (no_kinds ks left) (things_follow ks 0 most_things (suc n) (b ∷ bs) l))

-- A whole text.
text_follows : (bs : List ℕ) → Follows got (λ t c. Keeps t × (c ≡ [])) (check bs) (parse bs)
unfolding check parse
text_follows bs =
    unless_over text_bytes bs (ltb text_bytes (length bs)) (λ t c e f x. (kept t c (front_read (kinds_reads (suc (length bs))) more e).size f x, x.all_read))
    (kinds_follow (suc most_lines) (suc (length bs)) [] most_lines bs more)
  where
    more : length bs < suc (length bs)
    more = omega arith

    kept : (t : Text) (c : List ℕ) → length bs ≡ length (show t) + length c → ltb text_bytes (length bs) ≡ false → TextKept [] most_lines t c → Keeps t
    kept t c s f x =
        record {
          kinds_once = sym (fresh_distinct (map (λ k. k.name) t.kinds)) ∙ x.once;
          kinds_right = x.kinds_right;
          things_right = x.things_right;
          notes_right = x.notes_right;
          few_lines = x.few_lines;
          short_lines = x.short_lines;
          few_things = x.few_things;
          few_notes = x.few_notes;
          few_bytes = (let z = ltb-false text_bytes (length bs) f in omega arith);
        }

pub taken_keeps : (bs rest : List ℕ) (t : Text) → check bs ≡ taken t rest → (rest ≡ []) × IsText bs t × Keeps t
taken_keeps bs rest t h = go (subst (λ r. Follows got (λ t c. Keeps t × (c ≡ [])) r (parse bs)) h (text_follows bs))
  where
    go : Follows got (λ t c. Keeps t × (c ≡ [])) (taken t rest) (parse bs) → (rest ≡ []) × IsText bs t × Keeps t
    go (took e q) = (q.1, (read_shown bs t).0 (e ∙ ap (got t) q.1), q.0)

pub refused_form : RefusedForm
refused_form bs rest h = go (subst (λ r. Follows got (λ t c. Keeps t × (c ≡ [])) r (parse bs)) h (text_follows bs))
  where
    go : Follows got (λ t c. Keeps t × (c ≡ [])) (refused 1 rest) (parse bs) → (front : List ℕ) × (bs ≡ front ++ rest) × Stops front rest
    go (off e) =
        (let x = stops_first bs rest (e refl) in
        (x.0, x.1, record { goes_on = x.2; no_further = x.3; no_text = subst (λ z. (t : Text) → IsText z t → ⊥) x.1 x.4 }))
