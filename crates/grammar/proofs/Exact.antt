-- A text that keeps its rules is taken.
use Rattle.std.proofs.Common.{◌≡◌, ℕ, zero, suc, ◌+◌, ◌-◌, ◌<◌, ◌≤◌, true, false, not, ◌&&◌, eqb, ltb, leb, List, [], ◌∷◌, ◌++◌, map, length, Some, None, codes, sym, refl, ap, ◌∙◌, subst, append_assoc, append-nil, arith, length-append}
use mathlib.Core.List.{map-append}
use Rattle.std.proofs.lemmas.Bool.{and_parts, cond-true, cond-false, not-true, ne_eqb, leb-true, le-ltb}
use Rattle.grammar.specs.Syntax.{among, is_name, is_number, Kind, Thing, Note, Text, show_lines, show_row, show_kinds, show_things, show_notes, show, every, spelled_lines, spelled_kind, spelled_thing, spelled_note, IsText}
use Rattle.grammar.specs.Parse.{expect, read_number, by_end}
use Rattle.grammar.specs.Check.{taken, refused, then, decimal, text_bytes, most_deep, most_lines, most_things, most_notes, too_long, check_new, check_names, Known, known, check_first, check_kind, check_one, check_row, count_of, check_thing, check_note, check_notes, check_things, check_kinds, check}
use Rattle.grammar.specs.Rules.{distinct, small, right_lines, depth, lines_of, kind_lines, short, right_kind, right_thing, right_note, Keeps}
use Rattle.grammar.specs.Promise.{TakenExactly}
use Rattle.grammar.proofs.Words.{Ends, name_full, number_full}
use Rattle.grammar.proofs.Full.{row_ends}
use Rattle.grammar.proofs.Short.{short_enough}
use Rattle.grammar.proofs.Blocks.{every_parts, Kept}
use Rattle.grammar.proofs.Fresh.{fresh, fresh_distinct}
use Rattle.grammar.proofs.Taken.{names_of, first_line, TextKept, taken_keeps}
use Rattle.grammar.proofs.Takes.{take_on, form_on, rule_on, lines_taken}

-- New names.
new_taken : (seen : List (List ℕ)) (w k : List ℕ) → is_name w ≡ true → not (among w seen) ≡ true → Ends k → check_new seen (w ++ k) ≡ taken w k
new_taken seen w k h n e = form_on _ (name_full w k h e) ∙ cond-false (among w seen) _ _ (not-true (among w seen) n)

names_taken : (ws seen : List (List ℕ)) (n : ℕ) (k : List ℕ) → every is_name ws ≡ true → fresh seen ws ≡ true → length ws ≤ n →
    check_names seen n (show_row ws ++ (10 ∷ k)) ≡ taken ws k
unfolding check_names show_row every fresh expect
names_taken [] seen zero k h f l = refl
names_taken [] seen (suc n) k h f l = refl
names_taken (w ∷ ws) seen zero k h f l = absurd (omega arith)
names_taken (w ∷ ws) seen (suc n) k h f l =
    (let p = and_parts (is_name w) (every is_name ws) h in
    let q = and_parts (not (among w seen)) _ f in
    ap (λ z. then (check_new seen z) (λ w c. then (check_names (seen ++ w ∷ []) n c) (λ ws d. taken (w ∷ ws) d))) (append_assoc w (show_row ws) (10 ∷ k))
    ∙ take_on _ (new_taken seen w (show_row ws ++ (10 ∷ k)) p.0 q.0 (row_ends ws k))
    ∙ take_on _ (names_taken ws (seen ++ w ∷ []) n k p.1 q.1 (omega arith)))

-- Numbers of a thing.
row_taken : (ws : List (List ℕ)) (n : ℕ) (k : List ℕ) → every is_number ws ≡ true → every small ws ≡ true → length (show_row ws ++ (10 ∷ k)) < n →
    check_row n None (show_row ws ++ (10 ∷ k)) ≡ taken (record { numbers = ws; large = None }) k
unfolding check_row show_row every
row_taken ws zero k h s l = absurd (omega arith)
row_taken [] (suc n) k h s l = refl
row_taken (w ∷ ws) (suc n) k h s l =
    (let p = and_parts (is_number w) (every is_number ws) h in
    let q = and_parts (small w) (every small ws) s in
    let r = show_row ws ++ (10 ∷ k) in
    let a = append_assoc w (show_row ws) (10 ∷ k) in
    let i = length-append w r in
    ap (λ z. check_one (check_row n) None z (read_number z)) a ∙ ap (check_one (check_row n) None (w ++ r)) (number_full w r p.0 (row_ends ws k))
    ∙ ap (λ z. then (check_row n z r) (λ r d. taken (record { numbers = w ∷ r.numbers; large = r.large }) d)) (cond-true (small w) None (Some (w ++ r)) q.0)
    ∙ take_on _ (row_taken ws n k p.1 q.1 (omega (arith, ap length a))))

thing_taken : (ks : List Known) (x : Thing) (k : List ℕ) → spelled_thing x ≡ true → right_thing ks x ≡ true →
    check_thing ks (codes "thing " ++ (x.kind ++ (show_row x.numbers ++ (10 ∷ k)))) ≡ taken x k
unfolding expect
thing_taken ks x k h r =
    (let p = and_parts (is_name x.kind) (every is_number x.numbers) h in
    let q = and_parts (among x.kind (names_of ks)) _ r in
    let s = and_parts (eqb (length x.numbers) (count_of x.kind ks)) _ q.1 in
    let d = show_row x.numbers ++ (10 ∷ k) in
    form_on _ (name_full x.kind d p.0 (row_ends x.numbers k)) ∙ cond-true (among x.kind (names_of ks)) _ _ q.0
    ∙ take_on _ (row_taken x.numbers (suc (length d)) k p.1 s.1 (omega arith)) ∙ cond-true (eqb (length x.numbers) (count_of x.kind ks)) _ _ s.0)

note_taken : (things : ℕ) (x : Note) (k : List ℕ) → spelled_note x ≡ true → right_note things x ≡ true →
    check_note things (codes "message " ++ (x.time ++ (32 ∷ (x.to ++ (32 ∷ (x.number ++ (10 ∷ k))))))) ≡ taken x k
unfolding expect
note_taken things x k h r =
    (let p = and_parts (is_number x.time) (is_number x.to && is_number x.number) h in
    let q = and_parts (is_number x.to) (is_number x.number) p.1 in
    let s = and_parts (small x.time) _ r in
    let t = and_parts (ltb (decimal 0 x.to) things) _ s.1 in
    let c = 10 ∷ k in
    let b = 32 ∷ (x.number ++ c) in
    let a = 32 ∷ (x.to ++ b) in
    take_on _ (rule_on small (λ _. refused 3 (x.time ++ a)) (number_full x.time a p.0 refl) s.0)
    ∙ take_on _ (rule_on (λ ds. ltb (decimal 0 ds) things) (λ _. refused 3 (x.to ++ b)) (number_full x.to b q.0 refl) t.0)
    ∙ take_on _ (rule_on small (λ _. refused 3 (x.number ++ c)) (number_full x.number c q.1 refl) t.1))

notes_taken : (ns : List Note) (things m : ℕ) → every spelled_note ns ≡ true → every (right_note things) ns ≡ true → length ns ≤ m →
    check_notes things m (show_notes ns) ≡ taken ns []
unfolding check_notes show_notes every
notes_taken [] things m h r l = refl
notes_taken (x ∷ ns) things zero h r l = absurd (omega arith)
notes_taken (x ∷ ns) things (suc m) h r l =
    (let p = and_parts (spelled_note x) (every spelled_note ns) h in
    let q = and_parts (right_note things x) _ r in
    take_on _ (note_taken things x (show_notes ns) p.0 q.0) ∙ take_on _ (notes_taken ns things m p.1 q.1 (omega arith)))

things_taken : (ts : List Thing) (ns : List Note) (ks : List Known) (things m : ℕ) → every spelled_thing ts ≡ true → every spelled_note ns ≡ true →
    every (right_thing ks) ts ≡ true → every (right_note (things + length ts)) ns ≡ true → length ts ≤ m → length ns ≤ most_notes →
    check_things ks things m (show_things ts ++ show_notes ns) ≡ taken (record { kinds = []; things = ts; notes = ns }) []
unfolding check_things show_things show_notes every
things_taken [] [] ks things m h g r s l n = refl
things_taken [] (x ∷ ns) ks things m h g r s l n =
    by m (take_on _ (notes_taken (x ∷ ns) things most_notes g (subst (λ z. every (right_note z) (x ∷ ns) ≡ true) (omega arith) s) n))
  where
    by : (m : ℕ) → then {B = Text} (check_notes things most_notes (show_notes (x ∷ ns))) (λ ns c. taken (record { kinds = []; things = []; notes = ns }) c)
        ≡ taken (record { kinds = []; things = []; notes = x ∷ ns }) [] →
        check_things ks things m (show_notes (x ∷ ns)) ≡ taken (record { kinds = []; things = []; notes = x ∷ ns }) []
    by zero h = h
    by (suc m) h = h
things_taken (x ∷ ts) ns ks things zero h g r s l n = absurd (omega arith)
things_taken (x ∷ ts) ns ks things (suc m) h g r s l n =
    (let p = and_parts (spelled_thing x) (every spelled_thing ts) h in
    let q = and_parts (right_thing ks x) _ r in
    let k = show_things ts ++ show_notes ns in
    let a : show_things (x ∷ ts) ++ show_notes ns ≡ codes "thing " ++ (x.kind ++ (show_row x.numbers ++ (10 ∷ k))) = simp append_assoc in
    ap (check_things ks things (suc m)) a ∙ take_on _ (thing_taken ks x k p.0 q.0)
    ∙ take_on _ (things_taken ts ns ks (suc things) m p.1 g q.1 (subst (λ z. every (right_note z) ns ≡ true) (omega arith) s) (omega arith) n))

-- A kind, and so many lines behind it.
kind_taken : (ks : List Known) (left after : ℕ) (x : Kind) (k : List ℕ) → spelled_kind x ≡ true → right_kind x ≡ true → not (among x.name (names_of ks)) ≡ true →
    short (first_line x.name x.numbers) ≡ true → every short (lines_of x.lines) ≡ true → suc (length (lines_of x.lines) + suc after) ≡ left → left ≤ most_lines →
    check_kind ks left (first_line x.name x.numbers ++ (10 ∷ (show_lines x.lines ++ (codes "end" ++ (10 ∷ k))))) ≡ taken (record { kind = x; left = after }) k
unfolding expect
kind_taken ks left after x k h r new f s c l =
    (let p = and_parts (is_name x.name) _ h in
    let q = and_parts (every is_name x.numbers) _ p.1 in
    let t = and_parts (leb (length x.numbers) 64) (spelled_lines x.lines) q.1 in
    let u = and_parts (distinct x.numbers) _ r in
    let v = and_parts (right_lines x.numbers x.lines) _ u.1 in
    let d = show_lines x.lines ++ (codes "end" ++ (10 ∷ k)) in
    let w = show_row x.numbers ++ (10 ∷ d) in
    let a : first_line x.name x.numbers ++ (10 ∷ d) ≡ codes "kind " ++ (x.name ++ w) = simp append_assoc in
    let y : Kept x.numbers (left - 1) most_deep x.lines after =
    record { right = v.0; shallow = leb-true (depth x.lines) most_deep v.1; shorts = s; counts = omega arith } in
    let z : check_first ks (first_line x.name x.numbers ++ (10 ∷ d)) ≡ taken (record { name = x.name; numbers = x.numbers }) d =
    ap (check_first ks) a ∙ take_on _ (new_taken (names_of ks) x.name w p.0 new (row_ends x.numbers d))
    ∙ take_on _ (names_taken x.numbers [] 64 d q.0 (fresh_distinct x.numbers ∙ u.0) (leb-true (length x.numbers) 64 t.0)) in
    cond-false (eqb left 0) _ _ (ne_eqb left 0 (λ e. omega arith))
    ∙ take_on _ (cond-false (too_long (first_line x.name x.numbers ++ (10 ∷ d))) _ _ (short_enough (first_line x.name x.numbers) d f) ∙ z)
    ∙ take_on _ (lines_taken x.numbers x.lines t.1 (suc most_lines) (left - 1) most_deep false by_end k after (omega arith) refl y))

-- Kinds behind ks.
kinds_taken : (xs : List Kind) (ts : List Thing) (ns : List Note) (m : ℕ) (ks : List Known) (left : ℕ) → every spelled_kind xs ≡ true → every spelled_thing ts ≡ true →
    every spelled_note ns ≡ true → TextKept ks left (record { kinds = xs; things = ts; notes = ns }) [] → left ≤ most_lines → left < m →
    check_kinds m ks left (show_kinds xs ++ (show_things ts ++ show_notes ns)) ≡ taken (record { kinds = xs; things = ts; notes = ns }) []
unfolding check_kinds show_kinds show_things show_notes every fresh kind_lines
kinds_taken xs ts ns zero ks left h g f x l n = absurd (omega arith)
kinds_taken [] ts ns (suc m) ks left h g f x l n =
    by ts ns (things_taken ts ns ks 0 most_things g f (subst (λ z. every (right_thing z) ts ≡ true) (append-nil ks) x.things_right)
    (subst (λ z. every (right_note z) ns ≡ true) (omega arith) x.notes_right) x.few_things x.few_notes)
  where
    by : (ts : List Thing) (ns : List Note) → check_things ks 0 most_things (show_things ts ++ show_notes ns) ≡ taken (record { kinds = []; things = ts; notes = ns }) [] →
        check_kinds (suc m) ks left (show_things ts ++ show_notes ns) ≡ taken (record { kinds = []; things = ts; notes = ns }) []
    by [] [] h = refl
    by [] (y ∷ ns) h = h
    by (y ∷ ts) ns h = h
kinds_taken (k ∷ xs) ts ns (suc m) ks left h g f x l n =
    (let p = and_parts (spelled_kind k) (every spelled_kind xs) h in
    let q = and_parts (not (among k.name (names_of ks))) _ x.once in
    let r = and_parts (right_kind k) _ x.kinds_right in
    let s = and_parts (short (first_line k.name k.numbers)) _ x.short_lines in
    let t = every_parts short (lines_of k.lines) (codes "end" ∷ kind_lines xs) s.1 in
    let u = length-append (lines_of k.lines) (codes "end" ∷ kind_lines xs) in
    let c = x.few_lines in
    let after = left - suc (suc (length (lines_of k.lines))) in
    let d = show_kinds xs ++ (show_things ts ++ show_notes ns) in
    let a : show_kinds (k ∷ xs) ++ (show_things ts ++ show_notes ns)
    ≡ first_line k.name k.numbers ++ (10 ∷ (show_lines k.lines ++ (codes "end" ++ (10 ∷ d)))) = simp append_assoc in
    let y : TextKept (ks ++ known k ∷ []) after (record { kinds = xs; things = ts; notes = ns }) [] =
    record {
      once = subst (λ z. fresh z (map (λ k. k.name) xs) ≡ true) (sym (map-append (λ (k : Known). k.name) ks (known k ∷ []))) q.1;
      kinds_right = r.1;
      things_right = subst (λ z. every (right_thing z) ts ≡ true) (sym (append_assoc ks (known k ∷ []) (map known xs))) x.things_right;
      notes_right = x.notes_right;
      few_lines = omega arith;
      short_lines = t.1;
      few_things = x.few_things;
      few_notes = x.few_notes;
      all_read = refl;
    } in
    ap (check_kinds (suc m) ks left) a
    ∙ take_on _ (kind_taken ks left after k d p.0 r.0 q.0 s.0 t.0 (omega arith) l)
    ∙ take_on _ (kinds_taken xs ts ns m (ks ++ known k ∷ []) after p.1 g f y (omega arith) (omega arith)))

text_taken : (bs : List ℕ) (t : Text) → IsText bs t → Keeps t → check bs ≡ taken t []
unfolding check show
text_taken bs t i x =
    (let p = and_parts (every spelled_kind t.kinds) (every spelled_thing t.things && every spelled_note t.notes) i.well_spelled in
    let q = and_parts (every spelled_thing t.things) (every spelled_note t.notes) p.1 in
    let y : TextKept [] most_lines t [] =
    record {
      once = fresh_distinct (map (λ k. k.name) t.kinds) ∙ x.kinds_once;
      kinds_right = x.kinds_right;
      things_right = x.things_right;
      notes_right = x.notes_right;
      few_lines = x.few_lines;
      short_lines = x.short_lines;
      few_things = x.few_things;
      few_notes = x.few_notes;
      all_read = refl;
    } in
    subst (λ z. check z ≡ taken t []) i.shows
    (cond-false (ltb text_bytes (length (show t))) _ _ (le-ltb text_bytes (length (show t)) x.few_bytes)
    ∙ kinds_taken t.kinds t.things t.notes (suc most_lines) [] most_lines p.0 q.0 q.1 y (omega arith) (omega arith)))

pub taken_exactly : TakenExactly
taken_exactly bs rest t = (taken_keeps bs rest t, text_taken bs t)
