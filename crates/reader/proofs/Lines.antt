-- Where lines end, and how they close, by the word in front of each.
use Rattle.std.proofs.Common.{not, ◌≡◌, ℕ, zero, suc, ◌-◌, ◌<◌, sub-one, Bool, true, false, cond, List, [], ◌∷◌, codes, sym, refl, ap, ◌∙◌, arith}
use Rattle.std.proofs.lemmas.Bool.{cond-true, cond-false, or_parts, and_parts, not-true, and_from, or_left}
use Rattle.grammar.specs.Syntax.{newline, is_letter, is_operand, is_name, is_word, all, same, among, reserved, Term, Lines}
use Rattle.grammar.specs.Parse.{Got, got, bad, and_then, expect, read_word, read_expr, read_term, read_last, read_lines, read_by, read_assign, before_block, Block, Close, by_end, by_else}
use Rattle.words.specs.declared.Word.{Word}
use Rattle.words.specs.declared.Word.TheVariants.{Kind, Say, Send, To, After, If, Else, End, Again, Thing, Message, Draw, It, Me, Now, Name}
use Rattle.words.specs.Reads.{map_got}
use Rattle.words.specs.Words.{word_of, spelling, unpack}
use Rattle.words.proofs.Packs.{named, word_good, spelled_again, name_named}
use Rattle.reader.specs.Rests.{forget, shape, read_head, read_drawn, read_value, read_put, read_simple}

name_operand : (w : List ℕ) → is_name w ≡ true → is_operand w ≡ true
name_operand w n =
    let p = and_parts (is_word w) _ n in and_from (is_word w) _ p.0 (or_left (not (among w reserved)) _ p.1)

shape_then : {A : Type 0} (g : Got A) (f : A → List ℕ → Got Block) (h : List ℕ → Got Close) → ((a : A) (c : List ℕ) → shape (f a c) ≡ h c) → shape (and_then g f) ≡ and_then (forget g) (λ _ c. h c)
shape_then (got a c) f h e = e a c
shape_then (bad c) f h e = refl

shape_unit : (g : Got (Unit {0})) (f : Unit {0} → List ℕ → Got Block) (h : List ℕ → Got Close) → ((c : List ℕ) → shape (f tt c) ≡ h c) → shape (and_then g f) ≡ and_then g (λ _ c. h c)
shape_unit (got tt c) f h e = e c
shape_unit (bad c) f h e = refl

shape_block : (g : Got Block) (f : Block → List ℕ → Got Block) (h : Close → List ℕ → Got Close) → ((b : Block) (c : List ℕ) → shape (f b c) ≡ h b.close c) → shape (and_then g f) ≡ and_then (shape g) h
shape_block (got b c) f h e = e b c
shape_block (bad c) f h e = refl

-- A line in front changes neither.
shape_before : (f : Lines → Lines) (g : Got Block) → shape (before_block f g) ≡ shape g
shape_before f (got b c) = refl
shape_before f (bad c) = refl

regroup : {A B C : Type 0} (g : Got A) (f : A → List ℕ → Got B) (h : B → List ℕ → Got C) → and_then g (λ a c. and_then (f a c) h) ≡ and_then (and_then g f) h
regroup (got a k) f h = refl
regroup (bad k) f h = refl

-- Behind the lines of an if.
abbrev pub by_close : (Bool → List ℕ → Got Close) → Bool → Close → List ℕ → Got Close
by_close go els by_end bs = go els bs
by_close go els by_else bs = and_then (go false bs) (λ _ c. go els c)

-- Behind the word in front of a line; go reads the lines behind it.
abbrev pub by_word : (Bool → List ℕ → Got Close) → Bool → Word → List ℕ → Got Close
by_word go els End bs = and_then (forget (expect newline bs)) (λ _ c. got by_end c)
by_word go els Else bs = cond els (and_then (forget (expect newline bs)) (λ _ c. got by_else c)) (bad bs)
by_word go els Again bs = and_then (forget (read_head bs)) (λ _ c. and_then (go false c) (λ _ d. go els d))
by_word go els If bs = and_then (forget (read_head bs)) (λ _ c. and_then (go true c) (by_close go els))
by_word go els k bs = and_then (read_simple k bs) (λ _ c. go els c)

-- Each word that opens no lines of its own.
pub by_other : (go : Bool → List ℕ → Got Close) (els : Bool) (k : Word) (bs : List ℕ) → (k ≡ End → ⊥) → (k ≡ Again → ⊥) → (k ≡ If → ⊥) → (k ≡ Else → els ≡ false) →
    by_word go els k bs ≡ and_then (read_simple k bs) (λ _ c. go els c)
by_other go els End bs a b c e = absurd (a refl)
by_other go els Else bs a b c e = cond-false els _ _ (e refl)
by_other go els Again bs a b c e = absurd (b refl)
by_other go els If bs a b c e = absurd (c refl)
by_other go els Kind bs a b c e = refl
by_other go els Say bs a b c e = refl
by_other go els Send bs a b c e = refl
by_other go els To bs a b c e = refl
by_other go els After bs a b c e = refl
by_other go els Thing bs a b c e = refl
by_other go els Message bs a b c e = refl
by_other go els Draw bs a b c e = refl
by_other go els It bs a b c e = refl
by_other go els Me bs a b c e = refl
by_other go els Now bs a b c e = refl
by_other go els (Name p) bs a b c e = refl

-- What is assigned; go reads the lines behind it.
module _ (go : List ℕ → Got Block) (w : List ℕ) where
  drawn_by : List ℕ → List ℕ → Got Block
  drawn_by v d =
      cond (same v (codes "draw"))
      (and_then (expect (codes " ") d) (λ _ e. and_then (read_last e) (λ t f. before_block (Lines.draw w t) (go f))))
      (cond (is_operand v) (and_then (expect newline d) (λ _ e. before_block (Lines.assign w (Term.word v)) (go e))) (bad d))

  not_draw : (v : List ℕ) → is_name v ≡ true → same v (codes "draw") ≡ false
  unfolding among
  not_draw v n =
      let p = not-true (among v reserved) (and_parts (is_word v) _ n).1 in
      (or_parts (same v (codes "draw")) _ (or_parts (same v (codes "message")) _ (or_parts (same v (codes "thing")) _ (or_parts (same v (codes "again")) _ (or_parts (same v (codes "end")) _
      (or_parts (same v (codes "else")) _ (or_parts (same v (codes "if")) _ (or_parts (same v (codes "after")) _ (or_parts (same v (codes "to")) _ (or_parts (same v (codes "send")) _
      (or_parts (same v (codes "say")) _ (or_parts (same v (codes "kind")) _ p).1).1).1).1).1).1).1).1).1).1).1).0

  drawn_shape : (k : Word) (d : List ℕ) → is_name (spelling k) ≡ named k → shape (drawn_by (spelling k) d) ≡ and_then (read_drawn k d) (λ _ c. shape (go c))
  unfolding drawn_by same all among
  drawn_shape Kind d n = refl
  drawn_shape Say d n = refl
  drawn_shape Send d n = refl
  drawn_shape To d n = refl
  drawn_shape After d n = refl
  drawn_shape If d n = refl
  drawn_shape Else d n = refl
  drawn_shape End d n = refl
  drawn_shape Again d n = refl
  drawn_shape Thing d n = refl
  drawn_shape Message d n = refl
  drawn_shape Draw d n =
      ap shape (regroup (expect (codes " ") d) (λ _ c. read_last c) (λ t f. before_block (Lines.draw w t) (go f)))
      ∙ shape_then (read_head d) _ _ (λ t f. shape_before (Lines.draw w t) (go f))
  drawn_shape It d n = shape_unit (expect newline d) _ _ (λ e. shape_before (Lines.assign w (Term.word (codes "it"))) (go e))
  drawn_shape Me d n = shape_unit (expect newline d) _ _ (λ e. shape_before (Lines.assign w (Term.word (codes "me"))) (go e))
  drawn_shape Now d n = shape_unit (expect newline d) _ _ (λ e. shape_before (Lines.assign w (Term.word (codes "now"))) (go e))
  drawn_shape (Name p) d n =
      ap shape (cond-false (same (unpack p) (codes "draw")) _ _ (not_draw (unpack p) n) ∙ cond-true (is_operand (unpack p)) _ _ (name_operand (unpack p) n))
      ∙ shape_unit (expect newline d) _ _ (λ e. shape_before (Lines.assign w (Term.word (unpack p))) (go e))

  value_by : List ℕ → Got Block
  value_by [] = bad []
  value_by (b ∷ c) = cond (is_letter b) (and_then (read_word (b ∷ c)) drawn_by) (and_then (read_last (b ∷ c)) (λ t d. before_block (Lines.assign w t) (go d)))

  value_shape : (c : List ℕ) → shape (value_by c) ≡ and_then (read_value c) (λ _ d. shape (go d))
  unfolding value_by read_term
  value_shape [] = refl
  value_shape (b ∷ c) = both (is_letter b)
    where
      words : (g : Got (List ℕ)) → read_word (b ∷ c) ≡ g → shape (and_then g drawn_by) ≡ and_then (and_then (map_got word_of g) read_drawn) (λ _ d. shape (go d))
      words (got v d) e =
          let good = word_good (b ∷ c) v d e in
          let s : v ≡ spelling (word_of v) = sym (spelled_again v good) in
          ap (λ u. shape (drawn_by u d)) s ∙ drawn_shape (word_of v) d (ap is_name (sym s) ∙ name_named v good)
      words (bad d) e = refl

      both : (l : Bool) →
          shape (cond l (and_then (read_word (b ∷ c)) drawn_by) (and_then (read_last (b ∷ c)) (λ t d. before_block (Lines.assign w t) (go d))))
          ≡ and_then (cond l (and_then (map_got word_of (read_word (b ∷ c))) read_drawn) (forget (read_last (b ∷ c)))) (λ _ d. shape (go d))
      both true = words (read_word (b ∷ c)) refl
      both false = shape_then (read_last (b ∷ c)) _ _ (λ t d. shape_before (Lines.assign w t) (go d))

  assign_shape : (c : List ℕ) → shape (read_assign go w c) ≡ and_then (read_put c) (λ _ d. shape (go d))
  unfolding value_by drawn_by
  assign_shape c = first (expect (codes " = ") c)
    where
      first : (g : Got (Unit {0})) → shape (and_then g (λ _ d. value_by d)) ≡ and_then (and_then g (λ _ d. read_value d)) (λ _ d. shape (go d))
      first (got u d) = value_shape d
      first (bad d) = refl

-- Behind the word in front of a line, as the grammar reads it.
module _ (go : Bool → List ℕ → Got Block) (els : Bool) (d : List ℕ) where
  closed_by : Close → Term → Lines → List ℕ → Got Block
  closed_by by_end t b e = before_block (Lines.when t b) (go els e)
  closed_by by_else t b e = and_then (go false e) (λ c f. before_block (Lines.choose t b c.lines) (go els f))

  closing : (k : Close) (t : Term) (b : Lines) (e : List ℕ) → shape (closed_by k t b e) ≡ by_close (λ a c. shape (go a c)) els k e
  unfolding closed_by
  closing by_end t b e = shape_before (Lines.when t b) (go els e)
  closing by_else t b e = shape_block (go false e) _ _ (λ c f. shape_before (Lines.choose t b c.lines) (go els f))

  along : {A B : Type 0} (g : Got A) (f : A → List ℕ → Got Block) (h : A → List ℕ → Got B) → ((a : A) (c : List ℕ) → shape (f a c) ≡ and_then (forget (h a c)) (λ _ e. shape (go els e))) →
      shape (and_then g f) ≡ and_then (forget (and_then g h)) (λ _ e. shape (go els e))
  along (got a c) f h e = e a c
  along (bad c) f h e = refl

  name_by : (w : List ℕ) → is_name w ≡ true → read_by go els w d ≡ read_assign (go els) w d
  unfolding among
  name_by w n =
      let h = not-true (among w reserved) (and_parts (is_word w) _ n).1 in
      let o0 = or_parts (same w (codes "kind")) _ h in
      let o1 = or_parts (same w (codes "say")) _ o0.1 in
      let o2 = or_parts (same w (codes "send")) _ o1.1 in
      let o3 = or_parts (same w (codes "to")) _ o2.1 in
      let o4 = or_parts (same w (codes "after")) _ o3.1 in
      let o5 = or_parts (same w (codes "if")) _ o4.1 in
      let o6 = or_parts (same w (codes "else")) _ o5.1 in
      let o7 = or_parts (same w (codes "end")) _ o6.1 in
      let o8 = or_parts (same w (codes "again")) _ o7.1 in
      cond-false (same w (codes "end")) _ _ o7.0 ∙ cond-false (same w (codes "else")) _ _ o6.0 ∙ cond-false (same w (codes "say")) _ _ o1.0 ∙ cond-false (same w (codes "send")) _ _ o2.0 ∙ cond-false (same w (codes "if")) _ _ o5.0 ∙ cond-false (same w (codes "again")) _ _ o8.0 ∙ cond-true (is_name w) _ _ n

  by_shape : (k : Word) → is_name (spelling k) ≡ named k → shape (read_by go els (spelling k) d) ≡ by_word (λ a c. shape (go a c)) els k d
  unfolding same among all closed_by
  by_shape Kind n = refl
  by_shape Say n =
      ap shape (regroup (expect (codes " ") d) (λ _ c. read_last c) (λ t e. before_block (Lines.say t) (go els e))) ∙ shape_then (read_head d) _ _ (λ t e. shape_before (Lines.say t) (go els e))
  by_shape Send n =
      along (expect (codes " ") d) _ _ (λ _ c. along (read_expr c) _ _ (λ t e. along (expect (codes " to ") e) _ _ (λ _ f. along (read_expr f) _ _ (λ u g.
      along (expect (codes " after ") g) _ _ (λ _ h. shape_then (read_last h) _ _ (λ v i. shape_before (Lines.send t u v) (go els i)))))))
  by_shape To n = refl
  by_shape After n = refl
  by_shape If n =
      ap shape (regroup (expect (codes " ") d) (λ _ c. read_last c) (λ t e. and_then (go true e) (λ b f. closed_by b.close t b.lines f)))
      ∙ shape_then (read_head d) _ _ (λ t e. shape_block (go true e) _ _ (λ b f. closing b.close t b.lines f))
  by_shape Else n = both els
    where
      both : (b : Bool) → shape (cond b (and_then (expect newline d) (λ _ c. got (record { lines = Lines.none; close = by_else }) c)) (bad d)) ≡ cond b (and_then (forget (expect newline d)) (λ _ c. got by_else c)) (bad d)
      both true = shape_then (expect newline d) _ _ (λ _ c. refl)
      both false = refl
  by_shape End n = shape_then (expect newline d) _ _ (λ _ c. refl)
  by_shape Again n =
      ap shape (regroup (expect (codes " ") d) (λ _ c. read_last c) (λ t e. and_then (go false e) (λ b f. before_block (Lines.again t b.lines) (go els f))))
      ∙ shape_then (read_head d) _ _ (λ t e. shape_block (go false e) _ _ (λ b f. shape_before (Lines.again t b.lines) (go els f)))
  by_shape Thing n = refl
  by_shape Message n = refl
  by_shape Draw n = refl
  by_shape It n = refl
  by_shape Me n = refl
  by_shape Now n = refl
  by_shape (Name p) n = ap shape (name_by (unpack p) n) ∙ assign_shape (go els) (unpack p) d

pub lines_none : (n : ℕ) (els : Bool) (bs : List ℕ) → n ≡ 0 → shape (read_lines n els bs) ≡ bad bs
unfolding read_lines
lines_none zero els bs h = refl
lines_none (suc n) els bs h = absurd (omega arith)

pub lines_by : (n : ℕ) (els : Bool) (bs : List ℕ) → 0 < n → shape (read_lines n els bs) ≡ and_then (map_got word_of (read_word bs)) (by_word (λ a c. shape (read_lines (n - 1) a c)) els)
unfolding read_lines
lines_by zero els bs h = absurd (omega arith)
lines_by (suc m) els bs h = rw sub-one (go (read_word bs) refl)
  where
    go : (g : Got (List ℕ)) → read_word bs ≡ g → shape (and_then g (read_by (read_lines m) els)) ≡ and_then (map_got word_of g) (by_word (λ a c. shape (read_lines m a c)) els)
    go (got w r) e =
        let good = word_good bs w r e in
        let s : w ≡ spelling (word_of w) = sym (spelled_again w good) in
        ap (λ v. shape (read_by (read_lines m) els v r)) s ∙ by_shape (read_lines m) els r (word_of w) (ap is_name (sym s) ∙ name_named w good)
    go (bad r) e = refl
