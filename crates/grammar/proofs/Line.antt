-- The faults in one line of a kind.
use Rattle.std.proofs.Common.{◌≡◌, ℕ, zero, suc, ◌+◌, ◌<◌, ◌≤◌, Bool, true, false, ◌||◌, eqb, ltb, ◌⊎◌, List, [], ◌∷◌, ◌++◌, length, codes, sym, refl, ap, ◌∙◌, inl, inr, append_assoc, arith, length-append}
use Rattle.std.proofs.lemmas.Bool.{and_from, eqb-true, or_parts, ltb-false}
use Rattle.grammar.specs.Syntax.{is_letter, in_word, all, same, among, is_word, is_name, is_operand, is_number, newline, Term, show_term}
use Rattle.grammar.specs.Check.{Checked, taken, then, too_large, decimal, line_bytes, stand_ins, check_operand, check_number, check_plain, check_term, check_expr, check_last, Head, says, whens, agains, assigns, draws, check_rest, check_send, check_value, check_deeper, check_by, check_head}
use Rattle.grammar.specs.Faults.{WordEnds, NumberEnds, WordBegins}
use Rattle.grammar.proofs.Words.{same_is}
use Rattle.grammar.proofs.Leaves.{words, operands, numbers, signs, show_sign}
use Rattle.grammar.proofs.Trees.{term_reads}
use Rattle.grammar.proofs.Follow.{term_follows}
use Rattle.grammar.proofs.Short.{inside, all_join, word_inside, sign_inside, term_inside}
use Rattle.grammar.proofs.Edges.{word_ends, checked_ends, number_ends, operand_name}
use Rattle.grammar.proofs.Faulty.{fine, Faults, by_either, no_fault, at_fault, ended, then_faults, leaf_faults, bytes_faults}

-- In the line that begins with start, where so many more may stand in each other: a name that isn't there, a number that is too large, a branch or
-- a repeat too deep; or more than 1,024 bytes of the line are read.
pub data LineFault (names : List (List ℕ)) (deep : ℕ) (start : List ℕ) : ℕ → List ℕ → Type 0 where
  unknown : {rest : List ℕ} (v w behind : List ℕ) → start ≡ v ++ rest → all inside v ≡ true → (v ≡ []) ⊎ WordBegins v → rest ≡ w ++ behind → is_name w ≡ true → WordEnds behind → among w names ≡ false →
      LineFault names deep start 2 rest
  large : {rest : List ℕ} (v w behind : List ℕ) → start ≡ v ++ rest → WordBegins v → rest ≡ w ++ behind → is_number w ≡ true → NumberEnds behind → too_large ≤ decimal 0 w →
      LineFault names deep start 3 rest
  deeper : (behind : List ℕ) → deep ≡ 0 → (start ≡ codes "if " ++ behind) ⊎ (start ≡ codes "again " ++ behind) → LineFault names deep start 4 start
  longer : {rest : List ℕ} (v : List ℕ) → start ≡ v ++ rest → all inside v ≡ true → line_bytes < length v → LineFault names deep start 4 rest

-- The bytes bs stand in the line, behind at least m of its bytes.
pub record At (start : List ℕ) (m : ℕ) (bs : List ℕ) : Type 0 where
  pub front : List ℕ
  pub splits : start ≡ front ++ bs
  pub within : all inside front ≡ true
  pub far : m ≤ length front

move : {start : List ℕ} {m n : ℕ} {bs : List ℕ} (w c : List ℕ) → At start m bs → bs ≡ w ++ c → all inside w ≡ true → n ≤ m + length w → At start n c
move w c x e i l =
    record {
      front = x.front ++ w;
      splits = x.splits ∙ ap (λ z. x.front ++ z) e ∙ sym (append_assoc x.front w c);
      within = all_join inside x.front w x.within i;
      far = (let f = x.far in omega (arith, length-append x.front w));
    }

-- The same, where a word or a number may begin.
record Onto (start : List ℕ) (m : ℕ) (bs : List ℕ) : Type 0 where
  at : At start m bs
  begins : WordBegins at.front

onto : {start : List ℕ} {m n : ℕ} {bs : List ℕ} (w : List ℕ) (b : ℕ) (c : List ℕ) → At start m bs → bs ≡ w ++ (b ∷ c) → all inside (w ++ b ∷ []) ≡ true → in_word b ≡ false →
    n ≤ m + suc (length w) → Onto start n c
unfolding move
onto w b c x e i o l =
    record {
      at = move (w ++ b ∷ []) c x (e ∙ sym (append_assoc w (b ∷ []) c)) i (omega (arith, length-append w (b ∷ [])));
      begins = (x.front ++ w, b, sym (append_assoc x.front w (b ∷ [])), o);
    }

module _ (names : List (List ℕ)) (deep : ℕ) (start : List ℕ) where
  abbrev F : ℕ → List ℕ → Type 0
  F = LineFault names deep start

  operand_faults : {m : ℕ} (bs : List ℕ) → Onto start m bs → Faults F (check_operand names bs)
  operand_faults bs x =
      leaf_faults (λ n. operands) (λ w c e y. by_either (among w stand_ins || among w names) (λ _. fine tt) (λ f.
      (let p = or_parts (among w stand_ins) (among w names) f in
      at_fault (unknown x.at.front w c x.at.splits x.at.within (inr x.begins) y.splits (operand_name w y.fine p.0) (checked_ends is_operand bs w c e) p.1))))

  number_faults : {m : ℕ} (bs : List ℕ) → Onto start m bs → Faults F (check_number bs)
  number_faults bs x =
      leaf_faults (λ n. numbers) (λ w c e y. by_either (ltb (decimal 0 w) too_large) (λ _. fine tt) (λ f.
      at_fault (large x.at.front w c x.at.splits x.begins y.splits y.fine (number_ends bs w c e) (ltb-false (decimal 0 w) too_large f))))

  plain_faults : {m : ℕ} (bs : List ℕ) → Onto start m bs → Faults F (check_plain names bs)
  plain_faults [] x = no_fault
  plain_faults (b ∷ bs) x =
      by_either (is_letter b) (λ _. ended (operand_faults (b ∷ bs) x) (λ w c _. fine tt)) (λ _. ended (number_faults (b ∷ bs) x) (λ w c _. fine tt))

  term_faults : {m : ℕ} (n : ℕ) (bs : List ℕ) → Onto start m bs → line_bytes < m + n → Faults F (check_term names n bs)
  unfolding check_term all
  term_faults zero bs x l = at_fault (longer x.at.front x.at.splits x.at.within (let f = x.at.far in omega arith))
  term_faults (suc n) [] x l = no_fault
  term_faults {m} (suc n) (b ∷ bs) x l =
      by_either (eqb b 40)
      (λ t. (let y : Onto start (suc m) bs = onto [] 40 bs x.at (ap (λ z. z ∷ bs) (eqb-true b 40 t)) refl refl (omega arith) in
      then_faults (term_reads (suc (length bs))) (omega arith) (term_follows names n (suc (length bs)) bs (omega arith)) (term_faults n bs y (omega arith)) (λ t c z _.
      (let y₁ : At start (suc m) c = move (show_term t) c y.at z.splits (term_inside t z.fine) (omega arith) in
      bytes_faults (codes " ") c (λ _ d e. (let y₂ : At start (suc m) d = move (codes " ") d y₁ e refl (omega arith) in
      leaf_faults (λ n. signs) (λ s f _ i. (let y₃ : At start (suc m) f = move (show_sign s) f y₂ i.splits (and_from (inside _) true (sign_inside s) refl) (omega arith) in
      bytes_faults (codes " ") f (λ _ g j. (let y₄ : Onto start (suc m) g = onto [] 32 g y₃ j refl refl (omega arith) in
      ended (term_faults n g y₄ (omega arith)) (λ u h _. bytes_faults (codes ")") h (λ _ k _. fine tt))))))))))))
      (λ _. plain_faults (b ∷ bs) x)

  expr_faults : (bs : List ℕ) → Onto start 1 bs → Faults F (check_expr names bs)
  expr_faults bs x = term_faults line_bytes bs x (omega arith)

  last_faults : (bs : List ℕ) → Onto start 1 bs → Faults F (check_last names bs)
  last_faults bs x = ended (expr_faults bs x) (λ t c _. bytes_faults newline c (λ _ d _. fine tt))

  rest_faults : {m : ℕ} (f : Term → Head) (bs : List ℕ) → At start m bs → Faults F (check_rest names f bs)
  unfolding all
  rest_faults f bs x = bytes_faults (codes " ") bs (λ _ c e. ended (last_faults c (onto [] 32 c x e refl refl (omega arith))) (λ t d _. fine tt))

  -- An expression, and what stands behind it.
  next_expr : {A : Type 0} {k : Term → List ℕ → Checked A} (bs : List ℕ) → Onto start 1 bs → ((t : Term) (c : List ℕ) → At start 1 c → Faults F (k t c)) →
      Faults F (then (check_expr names bs) k)
  next_expr bs x f =
      then_faults (term_reads (suc (length bs))) (omega arith) (term_follows names line_bytes (suc (length bs)) bs (omega arith)) (expr_faults bs x) (λ t c y _.
      f t c (move (show_term t) c x.at y.splits (term_inside t y.fine) (omega arith)))

  send_faults : {m : ℕ} (bs : List ℕ) → At start m bs → Faults F (check_send names bs)
  unfolding all
  send_faults bs x =
      bytes_faults (codes " ") bs (λ _ c e. next_expr c (onto [] 32 c x e refl refl (omega arith)) (λ t d y.
      bytes_faults (codes " to ") d (λ _ g i. next_expr g (onto (codes " to") 32 g y i refl refl (omega arith)) (λ u h z.
      bytes_faults (codes " after ") h (λ _ j k. ended (last_faults j (onto (codes " after") 32 j z k refl refl (omega arith))) (λ v l _. fine tt))))))

  value_faults : (w bs : List ℕ) → Onto start 1 bs → Faults F (check_value names w bs)
  value_faults w [] x = no_fault
  value_faults w (b ∷ bs) x =
      by_either (is_letter b)
      (λ _. leaf_faults (λ n. words) (λ v d _ y. by_either (same v (codes "draw")) (λ _. rest_faults (draws w) d (move {n = 1} v d x.at y.splits (word_inside v y.fine) (omega arith)))
      (λ _. assigned)))
      (λ _. assigned)
    where
      assigned : Faults F (then (check_last names (b ∷ bs)) (λ t d. taken (assigns w t) d))
      assigned = ended (last_faults (b ∷ bs) x) (λ t d _. fine tt)

  deeper_faults : (f : Term → Head) (c : List ℕ) → At start 0 c → ((d : List ℕ) → c ≡ codes " " ++ d → (start ≡ codes "if " ++ d) ⊎ (start ≡ codes "again " ++ d)) →
      Faults F (check_deeper names deep start f c)
  unfolding all
  deeper_faults f c x s =
      bytes_faults (codes " ") c (λ _ d e. by_either (eqb deep 0) (λ t. at_fault (deeper d (eqb-true deep 0 t) (s d e)))
      (λ _. ended (last_faults d (onto [] 32 d x e refl refl (omega arith))) (λ t g _. fine tt)))

  line_faults : (w c : List ℕ) (els : Bool) → start ≡ w ++ c → is_word w ≡ true → WordEnds c → Faults F (check_by names deep els start w c)
  unfolding all
  line_faults w c els e o b =
      (let x : At start 0 c = record { front = w; splits = e; within = word_inside w o; far = omega arith } in
      by_either (same w (codes "end")) (λ _. bytes_faults newline c (λ _ d _. fine tt)) (λ _.
      by_either (same w (codes "else")) (λ _. by_either els (λ _. bytes_faults newline c (λ _ d _. fine tt)) (λ _. no_fault)) (λ _.
      by_either (same w (codes "say")) (λ _. rest_faults says c x) (λ _.
      by_either (same w (codes "send")) (λ _. send_faults c x) (λ _.
      by_either (same w (codes "if")) (λ t. deeper_faults whens c x (λ d q. (let i = same_is w (codes "if") t in inl (cc)))) (λ _.
      by_either (same w (codes "again")) (λ t. deeper_faults agains c x (λ d q. (let i = same_is w (codes "again") t in inr (cc)))) (λ _.
      by_either (is_name w) (λ n. by_either (among w names) (λ _. bytes_faults (codes " = ") c (λ _ d q. value_faults w d (onto (codes " =") 32 d x q refl refl (omega arith))))
      (λ f. at_fault (unknown [] w c refl refl (inl refl) e n b f))) (λ _. no_fault))))))))

pub head_faults : (names : List (List ℕ)) (deep : ℕ) (els : Bool) (bs : List ℕ) → Faults (LineFault names deep bs) (check_head names deep els bs)
head_faults names deep els bs = leaf_faults (λ n. words) (λ w c e x. line_faults names deep bs w c els x.splits x.fine (word_ends bs w c e))
