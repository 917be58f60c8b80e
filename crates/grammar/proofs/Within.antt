-- The faults in the lines of a kind.
use Rattle.std.proofs.Common.{◌≡◌, ℕ, zero, suc, ◌+◌, ◌-◌, ◌<◌, ◌≤◌, Bool, true, false, not, eqb, ltb, leb, ◌⊎◌, List, [], ◌∷◌, ◌++◌, length, get_or, take, drop, codes, sym, refl, ap, ◌∙◌, subst, inl, inr, append_assoc, append-nil, arith, length-append, take-append-drop, length-take-le, drop-cons}
use Rattle.std.proofs.lemmas.Bool.{both_ways, and_parts, and_from, eqb-true, eqb-false, ltb-true, lt-ltb, leb-true, le-leb, not-true, cases_Bool, cond-false}
use Rattle.grammar.specs.Syntax.{is_letter, all, same, is_name, newline, Term, Lines, assign, draw, say, send, when, choose, again, Kind, show_term, show_lines, show_kinds, show_row, every, spelled_lines}
use Rattle.grammar.specs.Parse.{Close, by_end, by_else, read_word, read_lines}
use Rattle.grammar.specs.Check.{most_deep, most_lines, line_bytes, Head, ends, elses, assigns, draws, says, sends, whens, agains, too_long, Block, before_block, then, formed, excess, check_by, check_head, check_behind, check_lines}
use Rattle.grammar.specs.Rules.{lines_of, kind_lines}
use Rattle.grammar.specs.Faults.{unknown_number, number_large, many_lines, too_deep, line_long, joined, one_line, open_behind, WordBegins, InKind, AtLine}
use Rattle.grammar.proofs.Full.{show_close}
use Rattle.grammar.proofs.Trees.{lines_reads, by_the_end}
use Rattle.grammar.proofs.Follow.{unless_over}
use Rattle.grammar.proofs.Heads.{line_of, Lined, head_follows}
use Rattle.grammar.proofs.Short.{inside, ends_late, head_inside}
use Rattle.grammar.proofs.Blocks.{every_join, lines_follow, check_closed}
use Rattle.grammar.proofs.Taken.{first_line, first_within}
use Rattle.grammar.proofs.Edges.{begins_behind, line_begins}
use Rattle.grammar.proofs.Faulty.{fine, Faults, Found, by_either, afters, ended, then_faults, over_faults, excess_faults, excess_form}
use Rattle.grammar.proofs.Line.{LineFault, unknown, large, deeper, longer, head_faults}
use Rattle.grammar.proofs.Joined.{joined_append, lines_joined, kinds_joined, open_append, name_line, lines_open, lines_within, kinds_within}

-- The byte m of bs, behind u.
pub overrun_at : (m : ℕ) (whole u bs : List ℕ) → whole ≡ u ++ bs → m < length bs → (whole ≡ (u ++ take m bs) ++ drop m bs) × (length (take m bs) ≡ m) × (drop m bs ≡ get_or bs m 0 ∷ drop (suc m) bs)
overrun_at m whole u bs e l =
    (e ∙ ap (λ z. u ++ z) (sym (take-append-drop m bs)) ∙ sym (append_assoc u (take m bs) (drop m bs)), length-take-le m bs (omega arith), drop-cons bs m 0 l)

-- The line that begins with bs is too long.
pub long_found : (whole u bs : List ℕ) → whole ≡ u ++ bs → AtLine u → too_long bs ≡ true → Found whole 4 (drop line_bytes bs)
long_found whole u bs e p t =
    (let q = and_parts (ltb line_bytes (length bs)) _ t in
    let x = overrun_at line_bytes whole u bs e (ltb-true line_bytes (length bs) q.0) in
    record { front = u ++ take line_bytes bs; splits = x.0; what = line_long u (take line_bytes bs) (get_or bs line_bytes 0) (drop (suc line_bytes) bs) p refl x.1 q.1 x.2 })

module _ (whole : List ℕ) (ks : List Kind) (k : List ℕ) (ns : List (List ℕ)) where
  -- The bytes bs stand in the kind behind its lines ls, where left lines more may come, and so many more in each other.
  pub record Here (ls : List (List ℕ)) (left deep : ℕ) (bs : List ℕ) : Type 0 where
    pub front : List ℕ
    pub splits : whole ≡ front ++ bs
    pub place : InKind ks k ns ls front
    pub counts : length (kind_lines ks) + suc (length ls + left) ≡ most_lines
    pub depths : open_behind 1 ls + deep ≡ suc most_deep

  shift : {ls : List (List ℕ)} {left deep : ℕ} {bs : List ℕ} (x : Here ls left deep bs) (v c : List ℕ) → bs ≡ v ++ c → whole ≡ (x.front ++ v) ++ c
  shift x v c e = x.splits ∙ ap (λ z. x.front ++ z) e ∙ sym (append_assoc x.front v c)

  further : {ls : List (List ℕ)} {left deep : ℕ} {bs : List ℕ} (more : List (List ℕ)) (after now : ℕ) (c : List ℕ) → Here ls left deep bs → bs ≡ joined more ++ c →
      every one_line more ≡ true → length more + after ≡ left → open_behind (open_behind 1 ls) more + now ≡ suc most_deep → now ≤ most_deep → Here (ls ++ more) after now c
  further {ls} more after now c x e o l d m =
      (let i = open_append ls more 1 in
      record {
        front = x.front ++ joined more;
        splits = shift x (joined more) c e;
        place = record {
          shows = ap (λ z. z ++ joined more) x.place.shows ∙ (simp (joined_append, append_assoc));
          kinds = x.place.kinds;
          name = x.place.name;
          numbers = x.place.numbers;
          lines = every_join one_line ls more x.place.lines o;
          goes_on = omega arith;
        };
        counts = (let j = length-append ls more in let p = x.counts in omega arith);
        depths = ap (λ z. z + now) i ∙ d;
      })

  -- A word may begin where the line does.
  at_word : {ls : List (List ℕ)} {left deep : ℕ} {bs : List ℕ} (x : Here ls left deep bs) (v : List ℕ) → (v ≡ []) ⊎ WordBegins v → WordBegins (x.front ++ v)
  at_word {ls} x v (inl e) =
      subst WordBegins (sym (append-nil x.front) ∙ ap (λ z. x.front ++ z) (sym e)) (subst WordBegins (sym x.place.shows)
      (begins_behind (show_kinds ks) _ (begins_behind (codes "kind ") _ (begins_behind k _ (begins_behind (show_row ns) _ (line_begins ls))))))
  at_word x v (inr a) = begins_behind x.front v a

  -- What is found of a line that begins with bs.
  line_found : {ls : List (List ℕ)} {left deep : ℕ} (bs : List ℕ) → Here ls left deep bs → (n : ℕ) (c : List ℕ) →
      (too_long bs ≡ true → leb (length bs - length c) line_bytes ≡ true) → LineFault ns deep bs n c → Found whole n c
  line_found {ls} bs x n c s (unknown v w behind e i a q o b f) =
      record { front = x.front ++ v; splits = shift x v c e; what = unknown_number ks k ns ls x.front v w behind x.place refl i (at_word x v a) q o b f }
  line_found bs x n c s (large v w behind e a q o b f) =
      record { front = x.front ++ v; splits = shift x v c e; what = number_large w behind (begins_behind x.front v a) q o b f }
  line_found {ls} {deep = deep} bs x n c s (deeper behind z q) =
      record { front = x.front; splits = x.splits; what = too_deep ks k ns ls behind x.place (let d = x.depths in omega arith) q }
  line_found bs x n c s (longer v e i l) =
      absurd (by (too_long bs) refl s)
    where
      size : length bs ≡ length v + length c
      size = ap length e ∙ length-append v c

      by : (t : Bool) → too_long bs ≡ t → (t ≡ true → leb (length bs - length c) line_bytes ≡ true) → ⊥
      by true h s = (let z = leb-true (length bs - length c) line_bytes (s refl) in omega (arith, size))
      by false h s =
          both_ways (too_long bs) h (and_from (ltb line_bytes (length bs)) _ (lt-ltb line_bytes (length bs) (omega (arith, size)))
          (subst (λ z. all inside (take line_bytes z) ≡ true) (sym e) (ends_late line_bytes v c i (omega arith))))

  shallow : {ls : List (List ℕ)} {left deep : ℕ} {bs : List ℕ} → Here ls left deep bs → deep ≤ most_deep
  shallow x = (let g = x.place.goes_on in let d = x.depths in omega arith)

  -- Behind one line.
  past : {ls : List (List ℕ)} {left deep : ℕ} {bs : List ℕ} (l : List ℕ) (now : ℕ) (c : List ℕ) → Here ls left deep bs → bs ≡ l ++ (10 ∷ c) → one_line l ≡ true → 0 < left →
      ((n : ℕ) → open_behind (suc n) (l ∷ []) + now ≡ suc n + deep) → now ≤ most_deep → Here (ls ++ l ∷ []) (left - 1) now c
  unfolding joined every
  past {ls} {left} {deep} l now c x e o some f m =
      (let n = open_behind 1 ls - 1 in
      let g = x.place.goes_on in
      let d = x.depths in
      let i : open_behind 1 ls ≡ suc n = omega arith in
      further (l ∷ []) (left - 1) now c x (e ∙ sym (append_assoc l newline c)) (and_from (one_line l) true o refl) (omega arith)
      (subst (λ z. open_behind z (l ∷ []) + now ≡ suc most_deep) (sym i) (f n ∙ (omega arith))) m)

  -- Behind lines of a tree and the line that closes them.
  past_block : {ls : List (List ℕ)} {left deep : ℕ} {bs : List ℕ} (b : Lines) (l : List ℕ) (after now : ℕ) (c : List ℕ) → Here ls left deep bs →
      bs ≡ (show_lines b ++ (l ++ newline)) ++ c → spelled_lines b ≡ true → one_line l ≡ true → length (lines_of b) + suc after ≡ left →
      ((n : ℕ) → open_behind (suc n) (l ∷ []) + now ≡ suc n + deep) → now ≤ most_deep → Here (ls ++ (lines_of b ++ l ∷ [])) after now c
  unfolding joined every
  past_block {ls} {left} {deep} {bs} b l after now c x e h o q f m =
      (let n = open_behind 1 ls - 1 in
      let g = x.place.goes_on in
      let d = x.depths in
      let i : open_behind 1 ls ≡ suc n = omega arith in
      further (lines_of b ++ l ∷ []) after now c x
      (e ∙ ap (λ z. (z ++ (l ++ newline)) ++ c) (lines_joined b) ∙ ap (λ z. z ++ c) (sym (joined_append (lines_of b) (l ∷ []))))
      (every_join one_line (lines_of b) (l ∷ []) (lines_within b h) (and_from (one_line l) true o refl)) (omega (arith, length-append (lines_of b) (l ∷ [])))
      (subst (λ z. open_behind z (lines_of b ++ l ∷ []) + now ≡ suc most_deep) (sym i) (ap (λ z. z + now) (lines_open b h (l ∷ []) n) ∙ f n ∙ (omega arith))) m)

  none_faults : {ls : List (List ℕ)} {deep : ℕ} (els : Bool) (bs : List ℕ) → Here ls 0 deep bs → Faults {A = Block} (Found whole) (excess bs (check_head ns deep els bs))
  unfolding joined every read_word
  none_faults {deep = deep} els [] x = excess_form {A = Head} [] refl
  none_faults {ls} {deep} els (b ∷ bs) x = go (cases_Bool (is_letter b))
    where
      whole_lines : show_kinds ks ++ (codes "kind " ++ (k ++ (show_row ns ++ (newline ++ joined ls)))) ≡ joined (kind_lines ks ++ (first_line k ns ∷ ls))
      whole_lines =
          ap (λ z. z ++ (codes "kind " ++ (k ++ (show_row ns ++ (newline ++ joined ls))))) (kinds_joined ks)
          ∙ sym (joined_append (kind_lines ks) (first_line k ns ∷ ls) ∙ (simp append_assoc))

      there : is_letter b ≡ true → Found whole 4 (b ∷ bs)
      there t =
          record {
            front = x.front;
            splits = x.splits;
            what = many_lines (kind_lines ks ++ (first_line k ns ∷ ls)) b bs (inr (ks, k, ns, ls, x.place)) (x.place.shows ∙ whole_lines)
                (every_join one_line (kind_lines ks) (first_line k ns ∷ ls) (kinds_within ks x.place.kinds)
                (and_from (one_line (first_line k ns)) _ (first_within k ns x.place.name x.place.numbers) x.place.lines))
                (length-append (kind_lines ks) (first_line k ns ∷ ls) ∙ (let c = x.counts in omega arith)) refl t;
          }

      go : (is_letter b ≡ true) ⊎ (is_letter b ≡ false) → Faults {A = Block} (Found whole) (excess (b ∷ bs) (check_head ns deep els (b ∷ bs)))
      go (inl t) =
          excess_faults (b ∷ bs) (there t) (λ n c l y. line_found (b ∷ bs) x n c (λ _. le-leb _ _ (let z : length (b ∷ bs) - length c ≤ line_bytes = omega arith in z)) y) (head_faults ns deep els (b ∷ bs))
      go (inr t) = excess_form (b ∷ bs) (ap (λ g. then (formed g) (check_by ns deep els (b ∷ bs))) (cond-false (is_letter b) _ _ t))

  -- The lines behind the first, where those that are one shorter are so.
  module _
      (m : ℕ) (ih : (ls : List (List ℕ)) (left deep : ℕ) (els : Bool) (bs : List ℕ) → Here ls left deep bs → left < m → Faults (Found whole) (check_lines ns m left deep els bs))
      (ls : List (List ℕ)) (left deep : ℕ) (els : Bool) (bs : List ℕ) (x : Here ls left deep bs) (some : 0 < left) (l : left < suc m) where
    before_faults : {ls' : List (List ℕ)} (after : ℕ) (f : Lines → Lines) (c : List ℕ) → Here ls' after deep c → after < m →
        Faults (Found whole) (before_block f (check_lines ns m after deep els c))
    before_faults {ls'} after f c y q = ended (ih ls' after deep els c y q) (λ _ _ _. fine tt)

    plain_faults : (h : Head) (f : Lines → Lines) (c : List ℕ) → Lined ns deep els bs h c → ((n : ℕ) → open_behind (suc n) (line_of h ∷ []) ≡ suc n) →
        Faults (Found whole) (before_block f (check_lines ns m (left - 1) deep els c))
    plain_faults h f c y o =
        before_faults (left - 1) f c (past (line_of h) deep c x y.splits (head_inside h y.spells) some (λ n. ap (λ z. z + deep) (o n)) (shallow x)) (omega arith)

    -- Behind the first line of a branch or a repeat.
    within : (h : Head) (c : List ℕ) → Lined ns deep els bs h c → ((n : ℕ) → open_behind (suc n) (line_of h ∷ []) ≡ suc (suc n)) → 0 < deep →
        Here (ls ++ line_of h ∷ []) (left - 1) (deep - 1) c
    within h c y o d =
        (let s = shallow x in
        past (line_of h) (deep - 1) c x y.splits (head_inside h y.spells) some (λ n. ap (λ z. z + (deep - 1)) (o n) ∙ (omega arith)) (omega arith))

    end_closes : (n : ℕ) → 0 < deep → open_behind (suc n) (codes "end" ∷ []) + deep ≡ suc n + (deep - 1)
    unfolding open_behind same
    end_closes zero d = omega arith
    end_closes (suc n) d = omega arith

    closed_faults : (t : Term) (ls' : List (List ℕ)) (l' : ℕ) (c : List ℕ) (b : Lines) (z : Close) (after : ℕ) (d : List ℕ) → Here ls' l' (deep - 1) c → l' < m → 0 < deep →
        c ≡ (show_lines b ++ (show_close z ++ newline)) ++ d → spelled_lines b ≡ true → length (lines_of b) + suc after ≡ l' →
        Faults (Found whole) (check_closed (check_lines ns m) deep els t z b after d)
    unfolding open_behind same all
    closed_faults t ls' l' c b by_end after d y q p e o i =
        before_faults after (when t b) d (past_block b (codes "end") after deep d y e o refl i (λ n. end_closes n p) (shallow x)) (omega arith)
    closed_faults t ls' l' c b by_else after d y q p e o i =
        (let s = shallow x in
        let w = past_block b (codes "else") after (deep - 1) d y e o refl i (λ n. refl) (omega arith) in
        then_faults (lines_reads (suc (length d)) false) (omega arith) (lines_follow ns m (suc (length d)) after (deep - 1) false d (omega arith))
        (ih (ls' ++ (lines_of b ++ codes "else" ∷ [])) after (deep - 1) false d w (omega arith)) (λ g f v r.
        before_faults g.left (choose t b g.lines) f
        (past_block g.lines (codes "end") g.left deep f w (v.splits ∙ ap (λ z. z ++ f) (by_the_end (record { lines = g.lines; close = g.close }) v.fine)) v.fine.spells refl r.counts
        (λ n. end_closes n p) s) (omega (arith, r.counts))))

    behind_faults : (h : Head) (c : List ℕ) → Lined ns deep els bs h c → Faults (Found whole) (check_behind (check_lines ns m) (left - 1) deep els h c)
    unfolding open_behind same all
    behind_faults ends c y = fine tt
    behind_faults elses c y = fine tt
    behind_faults (assigns w t) c y = plain_faults (assigns w t) (assign w t) c y (λ n. name_line n w (codes "= " ++ show_term t) [] (and_parts (is_name w) _ y.spells).0)
    behind_faults (draws w t) c y = plain_faults (draws w t) (draw w t) c y (λ n. name_line n w (codes "= draw " ++ show_term t) [] (and_parts (is_name w) _ y.spells).0)
    behind_faults (says t) c y = plain_faults (says t) (say t) c y (λ n. refl)
    behind_faults (sends t u v) c y = plain_faults (sends t u v) (send t u v) c y (λ n. refl)
    behind_faults (whens t) c y =
        (let d = eqb-false deep 0 (not-true (eqb deep 0) (and_parts (not (eqb deep 0)) _ y.right).0) in
        let w = within (whens t) c y (λ n. refl) (omega arith) in
        then_faults (lines_reads (suc (length c)) true) (omega arith) (lines_follow ns m (suc (length c)) (left - 1) (deep - 1) true c (omega arith))
        (ih (ls ++ line_of (whens t) ∷ []) (left - 1) (deep - 1) true c w (omega arith)) (λ b e v r.
        closed_faults t (ls ++ line_of (whens t) ∷ []) (left - 1) c b.lines b.close b.left e w (omega arith) (omega arith) v.splits v.fine.spells r.counts))
    behind_faults (agains t) c y =
        (let d = eqb-false deep 0 (not-true (eqb deep 0) (and_parts (not (eqb deep 0)) _ y.right).0) in
        let p : 0 < deep = omega arith in
        let w = within (agains t) c y (λ n. refl) p in
        then_faults (lines_reads (suc (length c)) false) (omega arith) (lines_follow ns m (suc (length c)) (left - 1) (deep - 1) false c (omega arith))
        (ih (ls ++ line_of (agains t) ∷ []) (left - 1) (deep - 1) false c w (omega arith)) (λ b e v r.
        before_faults b.left (again t b.lines) e
        (past_block b.lines (codes "end") b.left deep e w (v.splits ∙ ap (λ z. z ++ e) (by_the_end (record { lines = b.lines; close = b.close }) v.fine)) v.fine.spells refl r.counts
        (λ n. end_closes n p) (shallow x)) (omega (arith, r.counts))))

  pub lines_faults : (m : ℕ) (ls : List (List ℕ)) (left deep : ℕ) (els : Bool) (bs : List ℕ) → Here ls left deep bs → left < m →
      Faults (Found whole) (check_lines ns m left deep els bs)
  unfolding check_lines
  lines_faults zero ls left deep els bs x l = absurd (omega arith)
  lines_faults (suc m) ls left deep els bs x l =
      by_either (eqb left 0) (λ t. none_faults els bs (subst (λ z. Here ls z deep bs) (eqb-true left 0 t) x))
      (λ f. (let z = eqb-false left 0 f in
      afters (unless_over {P = Lined ns deep els bs} line_bytes bs (too_long bs) (λ _ _ _ _ q. q) (head_follows ns deep els (read_lines (suc (length bs))) bs))
      (over_faults line_bytes bs (too_long bs) (long_found whole x.front bs x.splits (inr (ks, k, ns, ls, x.place))) (line_found bs x) (head_faults ns deep els bs))
      (λ h c _ y _. behind_faults m (λ ls left deep els bs. lines_faults m ls left deep els bs) ls left deep els bs x (omega arith) l h c y)))
