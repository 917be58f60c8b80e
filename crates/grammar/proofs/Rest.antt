-- The faults in things and messages.
use Rattle.std.proofs.Common.{◌≡◌, ℕ, zero, suc, ◌+◌, ◌<◌, Bool, true, false, cond, eqb, ltb, List, [], ◌∷◌, ◌++◌, map, length, Some, None, codes, Option, sym, refl, ap, ◌∙◌, subst, append_assoc, append-nil, arith, length-append}
use Rattle.std.proofs.lemmas.Bool.{and_parts, and_from, eqb-true, eqb-false, ltb-false}
use Rattle.grammar.specs.Syntax.{in_word, among, is_name, is_number, newline, Kind, Thing, Note, Text, show_row, show_kinds, show_things, show_notes, show, every, spelled_kind, spelled_thing, spelled_note, IsText}
use Rattle.grammar.specs.Parse.{Got, got, bad, read_number}
use Rattle.grammar.specs.Check.{Checked, taken, refused, then, too_large, decimal, most_things, most_notes, known, check_number, Row, broken, sooner, large_at, check_one, check_row, count_of, check_thing, check_target, check_note, check_notes, check_things}
use Rattle.grammar.specs.Rules.{small}
use Rattle.grammar.specs.Faults.{WordBegins, text, unknown_kind, number_large, wrong_count, no_thing, many_things, many_notes}
use Rattle.grammar.proofs.Leaves.{names, numbers}
use Rattle.grammar.proofs.Parts.{row_reads, show_thing, show_note, thing_reads, note_reads}
use Rattle.grammar.proofs.Follow.{front_read, ruled}
use Rattle.grammar.proofs.Blocks.{every_join}
use Rattle.grammar.proofs.Rows.{row_follows, thing_follows, note_follows}
use Rattle.grammar.proofs.Taken.{names_of}
use Rattle.grammar.proofs.Edges.{checked_ends, number_ends, begins_behind}
use Rattle.grammar.proofs.Faulty.{Faulty, fine, Faults, Found, by_either, no_fault, at_fault, afters, ended, by_faults, leaf_faults, bytes_faults, headed, excess_faults}

pub step : (whole u bs w c : List ℕ) → whole ≡ u ++ bs → bs ≡ w ++ c → whole ≡ (u ++ w) ++ c
step whole u bs w c e q = e ∙ ap (λ z. u ++ z) q ∙ sym (append_assoc u w c)

-- One thing more, and one message.
things_push : (ts : List Thing) (x : Thing) → show_things (ts ++ x ∷ []) ≡ show_things ts ++ (codes "thing " ++ show_thing x)
unfolding show_things show_thing
things_push [] x = simp append-nil
things_push (t ∷ ts) x = rw (things_push ts x) (sym (simp append_assoc))

notes_push : (ms : List Note) (x : Note) → show_notes (ms ++ x ∷ []) ≡ show_notes ms ++ (codes "message " ++ show_note x)
unfolding show_notes show_note
notes_push [] x = simp append-nil
notes_push (m ∷ ms) x = rw (notes_push ms x) (sym (simp append_assoc))

thing_more : (ks : List Kind) (ts : List Thing) (x : Thing) (u : List ℕ) → IsText u (text ks ts []) → spelled_thing x ≡ true →
    IsText (u ++ (codes "thing " ++ show_thing x)) (text ks (ts ++ x ∷ []) [])
unfolding show show_notes every
thing_more ks ts x u i o =
    (let p = and_parts (every spelled_kind ks) _ i.well_spelled in
    let q = and_parts (every spelled_thing ts) _ p.1 in
    record {
      shows = rw (things_push ts x) (subst (λ z. show_kinds ks ++ ((show_things ts ++ (codes "thing " ++ show_thing x)) ++ []) ≡ z ++ (codes "thing " ++ show_thing x)) i.shows (simp (append_assoc, append-nil)));
      well_spelled = and_from (every spelled_kind ks) _ p.0 (and_from (every spelled_thing (ts ++ x ∷ [])) _
          (every_join spelled_thing ts (x ∷ []) q.0 (and_from (spelled_thing x) true o refl)) refl);
    })

note_more : (ks : List Kind) (ts : List Thing) (ms : List Note) (x : Note) (u : List ℕ) → IsText u (text ks ts ms) → spelled_note x ≡ true →
    IsText (u ++ (codes "message " ++ show_note x)) (text ks ts (ms ++ x ∷ []))
unfolding show every
note_more ks ts ms x u i o =
    (let p = and_parts (every spelled_kind ks) _ i.well_spelled in
    let q = and_parts (every spelled_thing ts) _ p.1 in
    record {
      shows = rw (notes_push ms x) (subst (λ z. show_kinds ks ++ (show_things ts ++ (show_notes ms ++ (codes "message " ++ show_note x))) ≡ z ++ (codes "message " ++ show_note x)) i.shows (sym (simp append_assoc)));
      well_spelled = and_from (every spelled_kind ks) _ p.0 (and_from (every spelled_thing ts) _ q.0
          (every_join spelled_note ms (x ∷ []) q.1 (and_from (spelled_note x) true o refl)));
    })

pub names_known : (ks : List Kind) → names_of (map known ks) ≡ map (λ k. k.name) ks
names_known [] = refl
names_known (k ∷ ks) = ap (λ z. k.name ∷ z) (names_known ks)

module _ (whole : List ℕ) where
  abbrev F : ℕ → List ℕ → Type 0
  F = Found whole

  -- The number w is too large.
  large_found : (u bs w c : List ℕ) → whole ≡ u ++ bs → WordBegins u → bs ≡ w ++ c → is_number w ≡ true → read_number bs ≡ got w c → small w ≡ false → Found whole 3 bs
  large_found u bs w c e a q o r f =
      record { front = u; splits = e; what = number_large w c a q o (number_ends bs w c r) (ltb-false (decimal 0 w) too_large f) }

  number_faults : (u bs : List ℕ) → whole ≡ u ++ bs → WordBegins u → Faults F (check_number bs)
  number_faults u bs e a = leaf_faults (λ n. numbers) (λ w c r x. by_either (small w) (λ _. fine tt) (λ f. at_fault (large_found u bs w c e a x.splits x.fine r f)))

  -- A number, and what stands behind it.
  next_number : {A : Type 0} {k : List ℕ → List ℕ → Checked A} (u bs : List ℕ) → whole ≡ u ++ bs → WordBegins u →
      ((w c : List ℕ) → is_number w ≡ true → whole ≡ (u ++ w) ++ c → Faults F (k w c)) → Faults F (then (check_number bs) k)
  next_number u bs e a f = by_faults (λ n. numbers) (ruled 3 small bs (λ z. omega arith) (read_number bs)) (number_faults u bs e a) (λ w c x _. f w c x.fine (step whole u bs w c e x.splits))

  module _ (ks : List Kind) (ts : List Thing) where
    -- The number of a thing, behind a message's time t.
    target_faults : (ms : List Note) (u t bs : List ℕ) → IsText u (text ks ts ms) → is_number t ≡ true → whole ≡ (u ++ (codes "message " ++ (t ++ codes " "))) ++ bs →
        Faults F (check_target (length ts) bs)
    target_faults ms u t bs i o e =
        leaf_faults (λ n. numbers) (λ w c r x. by_either (ltb (decimal 0 w) (length ts)) (λ _. fine tt) (λ f.
        at_fault (record {
          front = u ++ (codes "message " ++ (t ++ codes " "));
          splits = e;
          what = no_thing ks ts ms u t w c i o refl x.splits x.fine (number_ends bs w c r) (ltb-false (decimal 0 w) (length ts) f);
        })))

    note_faults : (ms : List Note) (u bs : List ℕ) → IsText u (text ks ts ms) → whole ≡ u ++ bs → Faults F (check_note (length ts) bs)
    note_faults ms u bs i e =
        bytes_faults (codes "message ") bs (λ _ c q. next_number (u ++ codes "message ") c (step whole u bs (codes "message ") c e q) (begins_behind u (codes "message ") (codes "message", 32, refl, refl)) (λ t d o r.
        bytes_faults (codes " ") d (λ _ g s.
        (let z : whole ≡ (u ++ (codes "message " ++ (t ++ codes " "))) ++ g = r ∙ ap (λ z. ((u ++ codes "message ") ++ t) ++ z) s ∙ regroup t g in
        by_faults (λ n. numbers) (ruled 3 (λ ds. ltb (decimal 0 ds) (length ts)) g (λ z. omega arith) (read_number g)) (target_faults ms u t g i o z) (λ f h x _.
        bytes_faults (codes " ") h (λ _ j y.
        next_number _ j (step whole _ h (codes " ") j (step whole _ g f h z x.splits) y) (begins_behind _ (codes " ") ([], 32, refl, refl)) (λ k l _ _. bytes_faults newline l (λ _ _ _. fine tt))))))))
      where
        regroup : (t g : List ℕ) → ((u ++ codes "message ") ++ t) ++ (codes " " ++ g) ≡ (u ++ (codes "message " ++ (t ++ codes " "))) ++ g
        regroup t g = simp append_assoc

    notes_faults : (n : ℕ) (ms : List Note) (u bs : List ℕ) → IsText u (text ks ts ms) → whole ≡ u ++ bs → length ms + n ≡ most_notes → Faults F (check_notes (length ts) n bs)
    unfolding check_notes
    notes_faults n ms u [] i e l = fine tt
    notes_faults zero ms u (b ∷ bs) i e l =
        by_either (eqb b 109) (λ t. at_fault (record { front = u; splits = e; what = many_notes ks ts ms bs i (omega arith) (ap (λ z. z ∷ bs) (eqb-true b 109 t)) })) (λ _. no_fault)
    notes_faults (suc n) ms u (b ∷ bs) i e l =
        afters (note_follows (length ts) (b ∷ bs)) (note_faults ms u (b ∷ bs) i e) (λ x c g _ _.
        (let h = headed (codes "message ") (λ n. note_reads) (b ∷ bs) c x g in
        ended (notes_faults n (ms ++ x ∷ []) (u ++ (codes "message " ++ show_note x)) c (note_more ks ts ms x u i h.1)
        (step whole u (b ∷ bs) (codes "message " ++ show_note x) c e (h.0 ∙ sym (append_assoc (codes "message ") (show_note x) c))) (omega (arith, length-append ms (x ∷ [])))) (λ _ _ _. fine tt)))

  -- Where a row breaks off.
  broken_faults : {A : Type 0} {Q : A → List ℕ → Type 0} (large : Option (List ℕ)) (c : List ℕ) → ((l : List ℕ) → large ≡ Some l → Found whole 3 l) → Faulty Q F (broken large c)
  broken_faults None c f = no_fault
  broken_faults (Some l) c f = at_fault (f l refl)

  -- The first of two that were found.
  sooner_found : (large : Option (List ℕ)) (u bs w c : List ℕ) → whole ≡ u ++ bs → WordBegins u → bs ≡ w ++ c → is_number w ≡ true → read_number bs ≡ got w c →
      ((l : List ℕ) → large ≡ Some l → Found whole 3 l) → (l : List ℕ) → sooner large (large_at w bs) ≡ Some l → Found whole 3 l
  sooner_found (Some m) u bs w c e a q o r f l h = f l h
  sooner_found None u bs w c e a q o r f l h = go (small w) refl h
    where
      go : (t : Bool) → small w ≡ t → cond t None (Some bs) ≡ Some l → Found whole 3 l
      go true s h = (let z : ◌≡◌ {A = ℕ} 0 1 = cc in absurd (omega arith))
      go false s h = (let z : bs ≡ l = cc in subst (Found whole 3) z (large_found u bs w c e a q o r s))

  row_faults : (m : ℕ) (large : Option (List ℕ)) (u bs : List ℕ) → whole ≡ u ++ bs → length bs < m → ((l : List ℕ) → large ≡ Some l → Found whole 3 l) →
      Faulty (λ r _. (l : List ℕ) → r.large ≡ Some l → Found whole 3 l) F (check_row m large bs)
  unfolding check_row
  row_faults zero large u bs e l f = absurd (omega arith)
  row_faults (suc m) large u [] e l f = broken_faults large [] f
  row_faults (suc m) large u (b ∷ bs) e l f =
      by_either (eqb b 10) (λ _. fine f) (λ _. by_either (eqb b 32) (λ t. one (row_faults m) (u, b, refl, ap in_word (eqb-true b 32 t)) (read_number bs) refl) (λ _. broken_faults large (b ∷ bs) f))
    where
      one : ((large : Option (List ℕ)) (u bs : List ℕ) → whole ≡ u ++ bs → length bs < m → ((l : List ℕ) → large ≡ Some l → Found whole 3 l) →
          Faulty (λ r _. (l : List ℕ) → r.large ≡ Some l → Found whole 3 l) F (check_row m large bs)) → WordBegins (u ++ b ∷ []) → (g : Got (List ℕ)) → read_number bs ≡ g →
          Faulty (λ r _. (l : List ℕ) → r.large ≡ Some l → Found whole 3 l) F (check_one (check_row m) large bs g)
      one ih a (got w c) r =
          (let k : length bs < suc (length bs) = omega arith in
          let x = front_read (numbers {e = 0} {n = suc (length bs)}) k r in
          let z = step whole u (b ∷ bs) (b ∷ []) bs e refl in
          ended (ih (sooner large (large_at w bs)) ((u ++ b ∷ []) ++ w) c (step whole _ bs w c z x.splits) (omega arith)
          (sooner_found large (u ++ b ∷ []) bs w c z a x.splits x.fine r f)) (λ r d q. fine q))
      one ih a (bad c) r = broken_faults large c f

  thing_faults : (ks : List Kind) (ts : List Thing) (u bs : List ℕ) → IsText u (text ks ts []) → whole ≡ u ++ bs → Faults F (check_thing (map known ks) bs)
  thing_faults ks ts u bs i e =
      bytes_faults (codes "thing ") bs (λ _ c q. (let s = step whole u bs (codes "thing ") c e q in
      leaf_faults (λ n. names) (λ w d r x. by_either (among w (names_of (map known ks)))
      (λ a. afters (row_follows (suc (length d)) None d) (row_faults (suc (length d)) None _ d (step whole _ c w d s x.splits) (omega arith) (λ l h. absurd (not_some l h))) (λ y g h _ k.
      (let more : length d < suc (length d) = omega arith in
      let z = front_read (row_reads read_number is_number (λ n. numbers) (suc (length d))) more h in
      by_either (eqb (length y.numbers) (count_of w (map known ks))) (λ _. counted w y g y.large k) (λ f. at_fault (record {
        front = u;
        splits = e;
        what = wrong_count ks ts (record { kind = w; numbers = y.numbers }) g i (cc (append_assoc (show_row y.numbers) newline g, q, x.splits, z.splits))
            (and_from (is_name w) _ x.fine z.fine) (subst (λ z. among w z ≡ true) (names_known ks) a) (eqb-false (length y.numbers) (count_of w (map known ks)) f);
      })))))
      (λ f. at_fault (record {
        front = u ++ codes "thing ";
        splits = s;
        what = unknown_kind ks ts u w d i refl x.splits x.fine (checked_ends is_name c w d r) (subst (λ z. among w z ≡ false) (names_known ks) f);
      })))))
    where
      not_some : (l : List ℕ) → None ≡ Some l → ⊥
      not_some l h = let z : ◌≡◌ {A = ℕ} 0 1 = cc in omega arith

      counted : (w : List ℕ) (y : Row) (g : List ℕ) (l : Option (List ℕ)) → ((m : List ℕ) → l ≡ Some m → Found whole 3 m) →
          Faults {A = Thing} F (elim l [ None ↦ taken (record { kind = w; numbers = y.numbers }) g | Some m ↦ refused 3 m ])
      counted w y g None k = fine tt
      counted w y g (Some m) k = at_fault (k m refl)

  only_notes : (ks : List Kind) (ts : List Thing) (u bs : List ℕ) → IsText u (text ks ts []) → whole ≡ u ++ bs →
      Faults {A = Text} F (then (check_notes (length ts) most_notes bs) (λ ns c. taken (record { kinds = []; things = []; notes = ns }) c))
  only_notes ks ts u bs i e = ended (notes_faults ks ts most_notes [] u bs i e (omega arith)) (λ _ _ _. fine tt)

  pub things_faults : (ks : List Kind) (n : ℕ) (ts : List Thing) (u bs : List ℕ) → IsText u (text ks ts []) → whole ≡ u ++ bs → length ts + n ≡ most_things →
      Faults F (check_things (map known ks) (length ts) n bs)
  unfolding check_things
  things_faults ks n ts u [] i e l = fine tt
  things_faults ks zero ts u (b ∷ bs) i e l =
      by_either (eqb b 116)
      (λ t. excess_faults (b ∷ bs) (record { front = u; splits = e; what = many_things ks ts bs i (omega arith) (ap (λ z. z ∷ bs) (eqb-true b 116 t)) }) (λ n c _ y. y)
      (thing_faults ks ts u (b ∷ bs) i e))
      (λ _. only_notes ks ts u (b ∷ bs) i e)
  things_faults ks (suc n) ts u (b ∷ bs) i e l =
      by_either (eqb b 116)
      (λ _. afters (thing_follows (map known ks) (b ∷ bs)) (thing_faults ks ts u (b ∷ bs) i e) (λ x c g _ _.
      (let h = headed (codes "thing ") (λ n. thing_reads) (b ∷ bs) c x g in
      let j : length (ts ++ x ∷ []) ≡ suc (length ts) = length-append ts (x ∷ []) ∙ (omega arith) in
      ended (subst (λ z. Faults F (check_things (map known ks) z n c)) j
      (things_faults ks n (ts ++ x ∷ []) (u ++ (codes "thing " ++ show_thing x)) c (thing_more ks ts x u i h.1)
      (step whole u (b ∷ bs) (codes "thing " ++ show_thing x) c e (h.0 ∙ sym (append_assoc (codes "thing ") (show_thing x) c))) (omega arith))) (λ _ _ _. fine tt))))
      (λ _. only_notes ks ts u (b ∷ bs) i e)
