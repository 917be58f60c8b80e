-- The faults in kinds and whole texts.
use Rattle.std.proofs.Common.{◌≡◌, ℕ, zero, suc, ◌+◌, ◌-◌, ◌<◌, true, false, eqb, ltb, List, [], ◌∷◌, ◌++◌, map, length, get_or, take, drop, codes, sym, refl, ap, ◌∙◌, subst, inl, append_assoc, append-nil, arith, length-append}
use mathlib.Core.List.{map-append}
use Rattle.std.proofs.lemmas.Bool.{and_parts, and_from, eqb-true, eqb-false, ltb-true}
use Rattle.grammar.specs.Syntax.{is_letter, among, is_name, newline, Kind, show_row, show_kinds, show_things, show_notes, show, every, spelled_kind, Text, IsText}
use Rattle.grammar.specs.Parse.{got, read_name}
use Rattle.grammar.specs.Check.{refused, most_names, most_deep, most_lines, most_things, line_bytes, text_bytes, too_long, check_new, check_names, known, First, check_first, check_kind, check_kinds, check}
use Rattle.grammar.specs.Rules.{lines_of, kind_lines}
use Rattle.grammar.specs.Faults.{text, joined, open_behind, number_twice, kind_twice, many_lines, many_bytes, Fault, RefusedFault}
use Rattle.grammar.proofs.Leaves.{names}
use Rattle.grammar.proofs.Parts.{show_kind, kind_reads}
use Rattle.grammar.proofs.Follow.{unless_over}
use Rattle.grammar.proofs.Blocks.{every_join}
use Rattle.grammar.proofs.Rows.{new_follows}
use Rattle.grammar.proofs.Taken.{names_of, first_line, FirstKept, first_follows, kind_follows}
use Rattle.grammar.proofs.Edges.{checked_ends}
use Rattle.grammar.proofs.Faulty.{fine, fault, Faults, Found, by_either, no_fault, at_fault, afters, ended, by_faults, leaf_faults, bytes_faults, over_faults, headed}
use Rattle.grammar.proofs.Joined.{kinds_joined, kinds_within}
use Rattle.grammar.proofs.Within.{overrun_at, long_found, Here, lines_faults}
use Rattle.grammar.proofs.Rest.{step, names_known, things_faults}

-- One name more in a row, and one kind more.
row_push : (ws : List (List ℕ)) (w : List ℕ) → show_row (ws ++ w ∷ []) ≡ show_row ws ++ (codes " " ++ w)
unfolding show_row
row_push [] w = simp append-nil
row_push (v ∷ ws) w = rw (row_push ws w) (sym (simp append_assoc))

kinds_push : (ks : List Kind) (x : Kind) → show_kinds (ks ++ x ∷ []) ≡ show_kinds ks ++ (codes "kind " ++ show_kind x)
unfolding show_kinds show_kind
kinds_push [] x = simp append-nil
kinds_push (k ∷ ks) x = rw (kinds_push ks x) (sym (simp append_assoc))

kind_lines_push : (ks : List Kind) (x : Kind) → length (kind_lines (ks ++ x ∷ [])) ≡ length (kind_lines ks) + suc (length (lines_of x.lines) + 1)
unfolding kind_lines
kind_lines_push [] x = ap suc (length-append (lines_of x.lines) (codes "end" ∷ [])) ∙ (omega arith)
kind_lines_push (k ∷ ks) x =
    (let i = kind_lines_push ks x in
    let j = length-append (lines_of k.lines) (codes "end" ∷ kind_lines (ks ++ x ∷ [])) in
    let l = length-append (lines_of k.lines) (codes "end" ∷ kind_lines ks) in omega arith)

-- Kinds alone are a text.
only_kinds : (ks : List Kind) (u : List ℕ) → IsText u (text ks [] []) → u ≡ show_kinds ks
unfolding show show_things show_notes
only_kinds ks u i = sym i.shows ∙ append-nil (show_kinds ks)

kind_more : (ks : List Kind) (x : Kind) (u : List ℕ) → IsText u (text ks [] []) → spelled_kind x ≡ true → IsText (u ++ (codes "kind " ++ show_kind x)) (text (ks ++ x ∷ []) [] [])
unfolding show show_things show_notes every
kind_more ks x u i o =
    record {
      shows = append-nil (show_kinds (ks ++ x ∷ [])) ∙ kinds_push ks x ∙ ap (λ z. z ++ (codes "kind " ++ show_kind x)) (sym (only_kinds ks u i));
      well_spelled = and_from (every spelled_kind (ks ++ x ∷ [])) _
          (every_join spelled_kind ks (x ∷ []) (and_parts (every spelled_kind ks) _ i.well_spelled).0 (and_from (spelled_kind x) true o refl)) refl;
    }

module _ (whole : List ℕ) where
  abbrev F : ℕ → List ℕ → Type 0
  F = Found whole

  new_faults : (seen : List (List ℕ)) (bs : List ℕ) → ((w c : List ℕ) → read_name bs ≡ got w c → bs ≡ w ++ c → is_name w ≡ true → among w seen ≡ true → Found whole 2 bs) →
      Faults F (check_new seen bs)
  new_faults seen bs f = leaf_faults (λ n. names) (λ w c r x. by_either (among w seen) (λ t. at_fault (f w c r x.splits x.fine t)) (λ _. fine tt))

  module _ (ks : List Kind) (u : List ℕ) (i : IsText u (text ks [] [])) where
    -- Names of the numbers of the kind k, behind those that stand there.
    names_faults : (n : ℕ) (k : List ℕ) (seen : List (List ℕ)) (bs : List ℕ) → is_name k ≡ true → every is_name seen ≡ true →
        whole ≡ (u ++ (codes "kind " ++ (k ++ show_row seen))) ++ bs → Faults F (check_names seen n bs)
    unfolding check_names every
    names_faults zero k seen bs o a e = bytes_faults newline bs (λ _ _ _. fine tt)
    names_faults (suc n) k seen [] o a e = no_fault
    names_faults (suc n) k seen (b ∷ bs) o a e =
        by_either (eqb b 10) (λ _. fine tt) (λ _. by_either (eqb b 32)
        (λ t. (let z : whole ≡ (u ++ (codes "kind " ++ (k ++ (show_row seen ++ codes " ")))) ++ bs = e ∙ ap (λ z. (u ++ (codes "kind " ++ (k ++ show_row seen))) ++ (z ∷ bs)) (eqb-true b 32 t) ∙ spaced in
        by_faults (λ n. names) (new_follows seen bs) (new_faults seen bs (λ w c r q m h. record {
          front = u ++ (codes "kind " ++ (k ++ (show_row seen ++ codes " ")));
          splits = z;
          what = number_twice ks k seen u w c i o a refl q m (checked_ends is_name bs w c r) h;
        }))
        (λ w c x _. ended (names_faults n k (seen ++ w ∷ []) c o (every_join is_name seen (w ∷ []) a (and_from (is_name w) true x.fine refl))
        (z ∙ ap (λ y. (u ++ (codes "kind " ++ (k ++ (show_row seen ++ codes " ")))) ++ y) x.splits ∙ grown w c)) (λ _ _ _. fine tt))))
        (λ _. no_fault))
      where
        spaced : (u ++ (codes "kind " ++ (k ++ show_row seen))) ++ (32 ∷ bs) ≡ (u ++ (codes "kind " ++ (k ++ (show_row seen ++ codes " ")))) ++ bs
        spaced = simp append_assoc

        grown : (w c : List ℕ) → (u ++ (codes "kind " ++ (k ++ (show_row seen ++ codes " ")))) ++ (w ++ c) ≡ (u ++ (codes "kind " ++ (k ++ show_row (seen ++ w ∷ [])))) ++ c
        grown w c = simp (row_push, append_assoc)

    first_faults : (bs : List ℕ) → whole ≡ u ++ bs → Faults F (check_first (map known ks) bs)
    unfolding show_row every
    first_faults bs e =
        bytes_faults (codes "kind ") bs (λ _ c q. (let s = step whole u bs (codes "kind ") c e q in
        by_faults (λ n. names) (new_follows (names_of (map known ks)) c) (new_faults (names_of (map known ks)) c (λ w d r p m h. record {
          front = u ++ codes "kind ";
          splits = s;
          what = kind_twice ks u w d i refl p m (checked_ends is_name c w d r) (subst (λ z. among w z ≡ true) (names_known ks) h);
        }))
        (λ w d x _. ended (names_faults most_names w [] d x.fine refl (step whole _ c w d s x.splits ∙ grouped w d)) (λ _ _ _. fine tt))))
      where
        grouped : (w d : List ℕ) → ((u ++ codes "kind ") ++ w) ++ d ≡ (u ++ (codes "kind " ++ (w ++ []))) ++ d
        grouped w d = simp (append_assoc, append-nil)

    -- Behind the first line of a kind.
    first_here : (h : First) (left : ℕ) (bs c : List ℕ) → FirstKept (map known ks) bs h c → whole ≡ u ++ bs → length (kind_lines ks) + left ≡ most_lines → 0 < left →
        Here whole ks h.name h.numbers [] (left - 1) most_deep c
    unfolding joined every open_behind
    first_here h left bs c x e l some =
        record {
          front = u ++ (first_line h.name h.numbers ++ newline);
          splits = step whole u bs (first_line h.name h.numbers ++ newline) c e (x.splits ∙ sym (append_assoc (first_line h.name h.numbers) newline c));
          place = record {
            shows = ap (λ z. z ++ (first_line h.name h.numbers ++ newline)) (only_kinds ks u i) ∙ grouped;
            kinds = (and_parts (every spelled_kind ks) _ i.well_spelled).0;
            name = x.name;
            numbers = x.numbers;
            lines = refl;
            goes_on = omega arith;
          };
          counts = omega arith;
          depths = refl;
        }
      where
        grouped : show_kinds ks ++ (first_line h.name h.numbers ++ newline) ≡ show_kinds ks ++ (codes "kind " ++ (h.name ++ (show_row h.numbers ++ (newline ++ []))))
        grouped = simp append_assoc

    kind_faults : (left b : ℕ) (bs : List ℕ) → b ≡ 107 → whole ≡ u ++ (b ∷ bs) → length (kind_lines ks) + left ≡ most_lines → Faults F (check_kind (map known ks) left (b ∷ bs))
    kind_faults left b bs q e l =
        by_either (eqb left 0)
        (λ t. (let z = eqb-true left 0 t in
        at_fault (record {
          front = u;
          splits = e;
          what = many_lines (kind_lines ks) b bs (inl (ks, i)) (only_kinds ks u i ∙ kinds_joined ks) (kinds_within ks (and_parts (every spelled_kind ks) _ i.well_spelled).0)
              (omega arith) refl (ap is_letter q);
        })))
        (λ f. (let z = eqb-false left 0 f in
        afters (unless_over {P = FirstKept (map known ks) (b ∷ bs)} line_bytes (b ∷ bs) (too_long (b ∷ bs)) (λ _ _ _ _ x. x) (first_follows (map known ks) (b ∷ bs)))
        (over_faults {G = F} line_bytes (b ∷ bs) (too_long (b ∷ bs)) (long_found whole u (b ∷ bs) e (inl (ks, i))) (λ _ _ _ x. x) (first_faults (b ∷ bs) e))
        (λ h c _ x _. ended (lines_faults whole ks h.name h.numbers (suc most_lines) [] (left - 1) most_deep false c
        (first_here h left (b ∷ bs) c x e l (omega arith)) (omega arith)) (λ _ _ _. fine tt))))

  kinds_faults : (m : ℕ) (ks : List Kind) (left : ℕ) (u bs : List ℕ) → IsText u (text ks [] []) → whole ≡ u ++ bs → length (kind_lines ks) + left ≡ most_lines → left < m →
      Faults F (check_kinds m (map known ks) left bs)
  unfolding check_kinds
  kinds_faults zero ks left u bs i e l n = absurd (omega arith)
  kinds_faults (suc m) ks left u [] i e l n = fine tt
  kinds_faults (suc m) ks left u (b ∷ bs) i e l n =
      by_either (eqb b 107)
      (λ t. afters (kind_follows (map known ks) left (b ∷ bs)) (kind_faults ks u i left b bs (eqb-true b 107 t) e l) (λ k c g x _.
      (let h = headed (codes "kind ") (λ n. kind_reads) (b ∷ bs) c k.kind g in
      ended (subst (λ z. Faults F (check_kinds m z k.left c)) (map-append known ks (k.kind ∷ []))
      (kinds_faults m (ks ++ k.kind ∷ []) k.left (u ++ (codes "kind " ++ show_kind k.kind)) c (kind_more ks k.kind u i h.1)
      (step whole u (b ∷ bs) (codes "kind " ++ show_kind k.kind) c e (h.0 ∙ sym (append_assoc (codes "kind ") (show_kind k.kind) c)))
      (omega (arith, kind_lines_push ks k.kind, x.counts)) (omega (arith, x.counts)))) (λ _ _ _. fine tt))))
      (λ _. things_faults whole ks most_things [] u (b ∷ bs) i e (omega arith))

text_faults : (bs : List ℕ) → Faults (Found bs) (check bs)
unfolding check kind_lines show show_kinds show_things show_notes every
text_faults bs =
    over_faults {G = Found bs} text_bytes bs (ltb text_bytes (length bs)) long (λ _ _ _ x. x)
    (kinds_faults bs (suc most_lines) [] most_lines [] bs (record { shows = refl; well_spelled = refl }) refl (omega arith) (omega arith))
  where
    long : ltb text_bytes (length bs) ≡ true → Found bs 4 (drop text_bytes bs)
    long t =
        (let x = overrun_at text_bytes bs [] bs refl (ltb-true text_bytes (length bs) t) in
        record { front = take text_bytes bs; splits = x.0; what = many_bytes (get_or bs text_bytes 0) (drop (suc text_bytes) bs) x.1 x.2 })

pub refused_fault : RefusedFault
refused_fault bs rest n h z = go (subst (Faults (Found bs)) h (text_faults bs))
  where
    go : Faults {A = Text} (Found bs) (refused n rest) → (front : List ℕ) × (bs ≡ front ++ rest) × Fault front rest n
    go (fault f) = (let x = f z in (x.front, x.splits, x.what))
