-- How expressions and lines are read.
use Rattle.std.proofs.Common.{◌≡◌, ℕ, zero, suc, ◌+◌, ◌<◌, ◌≤◌, Bool, true, false, cond, eqb, List, [], ◌∷◌, ◌++◌, length, codes, sym, refl, ap, ◌∙◌, append_assoc, arith}
use Rattle.std.proofs.lemmas.Bool.{both_ways, and_from, eqb-true, cond-true, cond-false, cond_both}
use Rattle.grammar.specs.Syntax.{is_letter, all, same, among, reserved, is_word, is_name, is_operand, newline, Term, number, word, two, Lines, none, assign, draw, say, send, when, choose, again, show_term, show_lines, spelled_term, spelled_lines}
use Rattle.grammar.specs.Parse.{Got, got, bad, and_then, expect, read_word, read_number, read_two, read_plain, read_term, read_expr, read_last, Close, by_end, by_else, Block, before_block, read_assign, read_by, read_lines}
use Rattle.grammar.proofs.Reading.{Reads, Reading, GoesOn, done, fails, by_test, at_end, eats, sees, behind, shift, nothing_left, by_length, then, and_so}
use Rattle.grammar.proofs.Words.{same_is}
use Rattle.grammar.proofs.Full.{show_close, may_close}
use Rattle.grammar.proofs.Leaves.{passes, expects, words, operands, numbers, signs, longer, name_operand, no_name, no_operand}

term_on : GoesOn show_term (passes spelled_term) []
unfolding show_term spelled_term all
term_on = record { more = 48 ∷ []; value = number (48 ∷ []); shows = refl; fine = refl }

-- Two expressions, behind the parenthesis that opens.
two_reads : (n : ℕ) → Reads read_term show_term (passes spelled_term) [] 0 n →
    Reads (λ m bs. read_two (read_term m) bs) show_term (passes spelled_term) (40 ∷ []) 0 n
unfolding show_term spelled_term
two_reads n r =
    and_so r (λ t f. and_so (expects (codes " ")) (λ _ _. and_so signs (λ s _. and_so (expects (codes " ")) (λ _ _. and_so r (λ u g.
    and_so (expects (codes ")")) (λ _ _. done (two s t u) (simp append_assoc) (and_from (spelled_term t) (spelled_term u) f g)))))))

-- A word or a number, by its first byte.
plain_reading : (e b : ℕ) (bs : List ℕ) → Reading (λ m bs. read_plain bs) show_term (passes spelled_term) [] e (b ∷ bs) (read_plain (b ∷ bs))
unfolding show_term spelled_term
plain_reading e b bs =
    cond_both (is_letter b) _ _ (Reading (λ m bs. read_plain bs) show_term (passes spelled_term) [] e (b ∷ bs))
    (λ t. sees b bs _ (λ m k. cond-true (is_letter b) _ _ t) (word_reads.reading (b ∷ bs) (omega arith)))
    (λ t. sees b bs _ (λ m k. cond-false (is_letter b) _ _ t) (number_reads.reading (b ∷ bs) (omega arith)))
  where
    word_reads : Reads (λ m bs. and_then (and_then (read_word bs) (λ w c. cond (is_operand w) (got w c) (bad c))) (λ w c. got (word w) c)) show_term (passes spelled_term) [] e (suc (length (b ∷ bs)))
    word_reads = and_so operands (λ w o. done (word w) refl o)

    number_reads : Reads (λ m bs. and_then (read_number bs) (λ w c. got (number w) c)) show_term (passes spelled_term) [] e (suc (length (b ∷ bs)))
    number_reads = and_so numbers (λ w o. done (number w) refl o)

term_step : (n : ℕ) → Reads read_term show_term (passes spelled_term) [] 0 n → (bs : List ℕ) → length bs < n + 1 →
    Reading (λ m. read_term (suc m)) show_term (passes spelled_term) [] 1 bs (read_term (suc n) bs)
unfolding read_term
term_step n r [] l = at_end (bad []) refl term_on
term_step n r (b ∷ bs) l =
    cond_both (eqb b 40) (read_two (read_term n) bs) (read_plain (b ∷ bs)) (Reading (λ m. read_term (suc m)) show_term (passes spelled_term) [] 1 (b ∷ bs))
    (λ t. eats b bs (read_two (read_term n) bs) (λ m k. cond-true (eqb b 40) (read_two (read_term m) k) (read_plain (b ∷ k)) t) (omega arith)
    ((behind (ap (λ x. x ∷ []) (eqb-true b 40 t)) (two_reads n r)).reading bs (omega arith)))
    (λ t. sees b bs (read_plain (b ∷ bs)) (λ m k. cond-false (eqb b 40) (read_two (read_term m) k) (read_plain (b ∷ k)) t) (plain_reading 1 b bs))

pub term_reads : (n : ℕ) → Reads read_term show_term (passes spelled_term) [] 0 n
term_reads zero = nothing_left term_on
term_reads (suc n) = shift (record { goes_on = term_on; reading = term_step n (term_reads n) })

pub exprs : {e n : ℕ} → Reads (λ m bs. read_expr bs) show_term (passes spelled_term) [] e n
exprs = by_length term_reads

-- An expression that ends the line.
abbrev pub show_last : Term → List ℕ
show_last t = show_term t ++ newline

pub lasts : {e n : ℕ} → Reads (λ m bs. read_last bs) show_last (passes spelled_term) [] e n
lasts = and_so exprs (λ t o. and_so (expects newline) (λ _ _. done t refl o))

-- Lines and how they close.
abbrev pub show_block : Block → List ℕ
show_block b = show_lines b.lines ++ (show_close b.close ++ newline)

pub record Fine (els : Bool) (b : Block) : Type 0 where
  pub spells : spelled_lines b.lines ≡ true
  pub closes : may_close els b.close ≡ true

abbrev Blocks : Bool → List ℕ → ℕ → (ℕ → List ℕ → Got Block) → Type 0
Blocks els p n R = Reads R show_block (Fine els) p 0 n

-- One line more in front.
before : (n : ℕ) (els : Bool) (p : List ℕ) (f : Lines → Lines) → Blocks els [] n (λ m. read_lines m els) →
    ((ls : Lines) → p ++ show_lines ls ≡ show_lines (f ls)) → ((ls : Lines) → spelled_lines ls ≡ true → spelled_lines (f ls) ≡ true) →
    Blocks els p n (λ m bs. before_block f (read_lines m els bs))
before n els p f r s o =
    and_so r (λ b h. done (record { lines = f b.lines; close = b.close })
    (sym (append_assoc p (show_lines b.lines) (show_close b.close ++ newline)) ∙ ap (λ z. z ++ (show_close b.close ++ newline)) (s b.lines))
    (record { spells = o b.lines h.spells; closes = h.closes }))

-- A word of the language at the front of a line goes on to a name, to which 0 is assigned.
word_on : (els : Bool) (w : List ℕ) → among w reserved ≡ true → GoesOn show_block (Fine els) w
unfolding show_lines show_term spelled_lines spelled_term all
word_on els w h =
    record {
      more = 120 ∷ (codes " = 0" ++ (newline ++ (codes "end" ++ newline)));
      value = record { lines = assign (w ++ 120 ∷ []) (number (48 ∷ [])) none; close = by_end };
      shows = simp append_assoc;
      fine = record { spells = and_from (is_name (w ++ 120 ∷ [])) true (longer w h) refl; closes = refl };
    }

abbrev pub drawn : (List ℕ → Got Block) → List ℕ → List ℕ → List ℕ → Got Block
drawn go w v d =
    cond (same v (codes "draw")) (and_then (expect (codes " ") d) (λ _ e. and_then (read_last e) (λ t f. before_block (draw w t) (go f))))
    (cond (is_operand v) (and_then (expect newline d) (λ _ e. before_block (assign w (word v)) (go e))) (bad d))

abbrev pub by_first : (List ℕ → Got Block) → List ℕ → List ℕ → Got Block
by_first go w [] = bad []
by_first go w (b ∷ c) =
    cond (is_letter b) (and_then (read_word (b ∷ c)) (drawn go w)) (and_then (read_last (b ∷ c)) (λ t d. before_block (assign w t) (go d)))

-- Behind a name at the front of a line, where the lines behind are read by r.
module _ (n : ℕ) (els : Bool) (r : Blocks els [] n (λ m. read_lines m els)) (w : List ℕ) (name : is_name w ≡ true) where
  assigned : (t : Term) → spelled_term t ≡ true → (p : List ℕ) → p ≡ (w ++ codes " = ") ++ show_last t →
      Blocks els p n (λ m bs. before_block (assign w t) (read_lines m els bs))
  unfolding show_lines spelled_lines
  assigned t o p q =
      behind q (before n els ((w ++ codes " = ") ++ show_last t) (assign w t) r (λ ls. simp append_assoc) (λ ls h. and_from (is_name w) _ name (and_from (spelled_term t) _ o h)))

  drew : (t : Term) → spelled_term t ≡ true → Blocks els ((((w ++ codes " = ") ++ codes "draw") ++ codes " ") ++ show_last t) n (λ m bs. before_block (draw w t) (read_lines m els bs))
  unfolding show_lines spelled_lines
  drew t o =
      before n els ((((w ++ codes " = ") ++ codes "draw") ++ codes " ") ++ show_last t) (draw w t) r (λ ls. simp append_assoc)
      (λ ls h. and_from (is_name w) _ name (and_from (spelled_term t) _ o h))

  -- A value is there, and then the line and the block end.
  value_on : (p : List ℕ) (v : List ℕ) (t : Term) → spelled_term t ≡ true → p ++ v ≡ (w ++ codes " = ") ++ show_term t → GoesOn show_block (Fine els) p
  unfolding show_lines spelled_lines
  value_on p v t o q =
      record {
        more = v ++ (newline ++ (codes "end" ++ newline));
        value = record { lines = assign w t none; close = by_end };
        shows = sym (append_assoc p v (newline ++ (codes "end" ++ newline))) ∙ ap (λ z. z ++ (newline ++ (codes "end" ++ newline))) q ∙ simp append_assoc;
        fine = record { spells = and_from (is_name w) _ name (and_from (spelled_term t) true o refl); closes = refl };
      }

  drawn_reads : (v : List ℕ) → is_word v ≡ true → Blocks els ((w ++ codes " = ") ++ v) n (λ m bs. drawn (read_lines m els) w v bs)
  unfolding show_term spelled_term
  drawn_reads v h =
      by_test (same v (codes "draw"))
      (λ t. behind (ap (λ z. (w ++ codes " = ") ++ z) (same_is v (codes "draw") t)) (and_so (expects (codes " ")) (λ _ _. and_so lasts (λ t o. drew t o))))
      (λ _. by_test (is_operand v) (λ o. and_so (expects newline) (λ _ _. assigned (word v) o _ (append_assoc (w ++ codes " = ") v newline)))
      (λ f. fails (value_on ((w ++ codes " = ") ++ v) (120 ∷ []) (word (v ++ 120 ∷ [])) (name_operand (v ++ 120 ∷ []) (longer v (no_operand v h f)))
      (append_assoc (w ++ codes " = ") v (120 ∷ [])))))

  zero_on : GoesOn show_block (Fine els) (w ++ codes " = ")
  unfolding show_term spelled_term all
  zero_on = value_on (w ++ codes " = ") (48 ∷ []) (number (48 ∷ [])) refl refl

  first_reading : (bs : List ℕ) → length bs < n + 0 →
      Reading (λ m bs. by_first (read_lines m els) w bs) show_block (Fine els) (w ++ codes " = ") 0 bs (by_first (read_lines n els) w bs)
  first_reading [] l = at_end (bad []) refl zero_on
  first_reading (b ∷ bs) l =
      cond_both (is_letter b) _ _ (Reading (λ m bs. by_first (read_lines m els) w bs) show_block (Fine els) (w ++ codes " = ") 0 (b ∷ bs))
      (λ t. sees b bs _ (λ m k. cond-true (is_letter b) _ _ t) (as_word.reading (b ∷ bs) l))
      (λ t. sees b bs _ (λ m k. cond-false (is_letter b) _ _ t) (as_value.reading (b ∷ bs) l))
    where
      as_word : Blocks els (w ++ codes " = ") n (λ m bs. and_then (read_word bs) (drawn (read_lines m els) w))
      as_word = and_so words drawn_reads

      as_value : Blocks els (w ++ codes " = ") n (λ m bs. and_then (read_last bs) (λ t d. before_block (assign w t) (read_lines m els d)))
      as_value = and_so lasts (λ t o. assigned t o _ refl)

  assign_reads : Blocks els w n (λ m bs. read_assign (read_lines m els) w bs)
  assign_reads = and_so (expects (codes " = ")) (λ _ _. record { goes_on = zero_on; reading = first_reading })

abbrev pub closed : (Bool → List ℕ → Got Block) → Bool → Close → Term → Lines → List ℕ → Got Block
closed go els by_end t b e = before_block (when t b) (go els e)
closed go els by_else t b e = and_then (go false e) (λ c f. before_block (choose t b c.lines) (go els f))

-- Lines that may not close by else close by end.
pub by_the_end : (b : Block) → Fine false b → show_block b ≡ show_lines b.lines ++ (codes "end" ++ newline)
by_the_end b h = go b.close h.closes
  where
    go : (c : Close) → may_close false c ≡ true → show_lines b.lines ++ (show_close c ++ newline) ≡ show_lines b.lines ++ (codes "end" ++ newline)
    go by_end h = refl
    go by_else h = absurd (both_ways true (sym h) refl)

regroup : (a b c d e f g h : List ℕ) → (((((a ++ b) ++ c) ++ d) ++ e) ++ (f ++ g)) ++ h ≡ a ++ (b ++ (c ++ (d ++ (e ++ (f ++ (g ++ h))))))
regroup a b c d e f g h = simp append_assoc

-- Behind the word at the front of a line.
module _ (n : ℕ) (r : (els : Bool) → Blocks els [] n (λ m. read_lines m els)) (els : Bool) where
  said : (t : Term) → spelled_term t ≡ true → Blocks els ((codes "say" ++ codes " ") ++ show_last t) n (λ m bs. before_block (say t) (read_lines m els bs))
  unfolding show_lines spelled_lines
  said t o = before n els ((codes "say" ++ codes " ") ++ show_last t) (say t) (r els) (λ ls. simp append_assoc) (λ ls h. and_from (spelled_term t) _ o h)

  sent : (t u v : Term) → spelled_term t ≡ true → spelled_term u ≡ true → spelled_term v ≡ true →
      Blocks els ((((((codes "send" ++ codes " ") ++ show_term t) ++ codes " to ") ++ show_term u) ++ codes " after ") ++ show_last v) n
      (λ m bs. before_block (send t u v) (read_lines m els bs))
  unfolding show_lines spelled_lines
  sent t u v f g h =
      before n els _ (send t u v) (r els)
      (λ ls. regroup (codes "send ") (show_term t) (codes " to ") (show_term u) (codes " after ") (show_term v) newline (show_lines ls))
      (λ ls i. and_from (spelled_term t) _ f (and_from (spelled_term u) _ g (and_from (spelled_term v) _ h i)))

  if_closed : (t : Term) → spelled_term t ≡ true → (ls : Lines) → spelled_lines ls ≡ true → (c : Close) →
      Blocks els (((codes "if" ++ codes " ") ++ show_last t) ++ (show_lines ls ++ (show_close c ++ newline))) n (λ m bs. closed (read_lines m) els c t ls bs)
  unfolding show_lines spelled_lines
  if_closed t o ls h by_end =
      before n els _ (when t ls) (r els) (λ ks. simp append_assoc) (λ ks i. and_from (spelled_term t) _ o (and_from (spelled_lines ls) _ h i))
  if_closed t o ls h by_else =
      and_so (r false) (λ d g. behind (ap (λ z. (((codes "if" ++ codes " ") ++ show_last t) ++ (show_lines ls ++ (codes "else" ++ newline))) ++ z) (by_the_end d g))
      (before n els _ (choose t ls d.lines) (r els) (λ ks. simp append_assoc)
      (λ ks i. and_from (spelled_term t) _ o (and_from (spelled_lines ls) _ h (and_from (spelled_lines d.lines) _ g.spells i)))))

  repeated : (t : Term) → spelled_term t ≡ true → (b : Block) → Fine false b →
      Blocks els (((codes "again" ++ codes " ") ++ show_last t) ++ show_block b) n (λ m bs. before_block (again t b.lines) (read_lines m els bs))
  unfolding show_lines spelled_lines
  repeated t o b g =
      behind (ap (λ z. ((codes "again" ++ codes " ") ++ show_last t) ++ z) (by_the_end b g))
      (before n els _ (again t b.lines) (r els) (λ ks. simp append_assoc)
      (λ ks i. and_from (spelled_term t) _ o (and_from (spelled_lines b.lines) _ g.spells i)))

  ends : Blocks els (codes "end") n (λ m bs. and_then (expect newline bs) (λ _ c. got (record { lines = none; close = by_end }) c))
  unfolding show_lines spelled_lines
  ends = and_so (expects newline) (λ _ _. done (record { lines = none; close = by_end }) refl (record { spells = refl; closes = refl }))

  elses : Blocks els (codes "else") n (λ m bs. cond els (and_then (expect newline bs) (λ _ c. got (record { lines = none; close = by_else }) c)) (bad bs))
  unfolding show_lines spelled_lines same among
  elses =
      by_test els (λ t. and_so (expects newline) (λ _ _. done (record { lines = none; close = by_else }) refl (record { spells = refl; closes = t })))
      (λ f. fails (word_on els (codes "else") refl))

  by_reads : (w : List ℕ) → is_word w ≡ true → Blocks els w n (λ m bs. read_by (read_lines m) els w bs)
  by_reads w h =
      by_test (same w (codes "end")) (λ t. behind (same_is w _ t) ends) (λ _.
      by_test (same w (codes "else")) (λ t. behind (same_is w _ t) elses) (λ _.
      by_test (same w (codes "say")) (λ t. behind (same_is w _ t) (and_so (expects (codes " ")) (λ _ _. and_so lasts said))) (λ _.
      by_test (same w (codes "send"))
      (λ t. behind (same_is w _ t) (and_so (expects (codes " ")) (λ _ _. and_so exprs (λ t f. and_so (expects (codes " to ")) (λ _ _. and_so exprs (λ u g.
      and_so (expects (codes " after ")) (λ _ _. and_so lasts (λ v o. sent t u v f g o)))))))) (λ _.
      by_test (same w (codes "if"))
      (λ t. behind (same_is w _ t) (and_so (expects (codes " ")) (λ _ _. and_so lasts (λ t o. and_so (r true) (λ b g. if_closed t o b.lines g.spells b.close))))) (λ _.
      by_test (same w (codes "again"))
      (λ t. behind (same_is w _ t) (and_so (expects (codes " ")) (λ _ _. and_so lasts (λ t o. and_so (r false) (repeated t o))))) (λ _.
      by_test (is_name w) (λ t. assign_reads n els (r els) w t) (λ f. fails (word_on els w (no_name w h f)))))))))

block_on : (els : Bool) → GoesOn show_block (Fine els) []
unfolding show_lines spelled_lines
block_on els = record { more = codes "end" ++ newline; value = record { lines = none; close = by_end }; shows = refl; fine = record { spells = refl; closes = refl } }

some_word : (w : List ℕ) → is_word w ≡ true → 1 ≤ 0 + length w
some_word [] h = absurd (both_ways true (sym h) refl)
some_word (b ∷ w) h = omega arith

pub lines_reads : (n : ℕ) (els : Bool) → Reads (λ m. read_lines m els) show_block (Fine els) [] 0 n
unfolding read_lines
lines_reads zero els = nothing_left (block_on els)
lines_reads (suc n) els = shift (then 0 some_word words (λ w h. by_reads n (lines_reads n) els w h))
