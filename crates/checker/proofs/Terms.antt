-- Names in a table, words that stand for numbers, and expressions.
use Rattle.std.proofs.Common.{◌≡◌, ℕ, zero, suc, ◌-◌, ◌<◌, Bool, true, false, cond, ◌||◌, eqb, ◌⊎◌, List, [], ◌∷◌, get_or, codes, sym, refl, ap, ◌∙◌, ap₂, inl, inr, arith}
use Rattle.std.specs.List.{list_any}
use Rattle.std.proofs.lemmas.Bool.{eq-eqb, ne_eqb, cond-true, cond-false, or_parts, and_parts, not-true, cases_eq, cases_Bool}
use Rattle.grammar.specs.Syntax.{Term, is_letter, is_operand, is_word, is_name, same, among, reserved}
use Rattle.grammar.specs.Parse.{Got, got, bad, expect, read_word, read_number, checked}
use Rattle.grammar.specs.Check.{Checked, taken, refused, then, formed, stand_ins, check_operand, check_number, check_plain, check_two, check_term}
use Rattle.grammar.proofs.Words.{same_is, same_self}
use Rattle.words.specs.declared.Word.{Word}
use Rattle.words.specs.declared.Word.TheVariants.{Kind, Say, Send, To, After, If, Else, End, Again, Thing, Message, Draw, It, Me, Now, Name}
use Rattle.words.specs.Reads.{map_got, first_is}
use Rattle.words.specs.Words.{pack, unpack, word_of, spelling, stands_for_number}
use Rattle.words.proofs.Packs.{packed_again, read_back, operand_read, named, named_is}
use Rattle.checker.specs.Refusals.{left_out, names_in}

-- Packed words are the same as they are unpacked.
pub same_unpacked : (p q : ℕ) → pack (unpack p) ≡ p → pack (unpack q) ≡ q → same (unpack p) (unpack q) ≡ eqb q p
same_unpacked p q h k = go (cases_eq q p) (cases_Bool (same (unpack p) (unpack q)))
  where
    go : (q ≡ p) ⊎ (q ≡ p → ⊥) → (same (unpack p) (unpack q) ≡ true) ⊎ (same (unpack p) (unpack q) ≡ false) → same (unpack p) (unpack q) ≡ eqb q p
    go (inl e) s = ap (λ m. same (unpack p) (unpack m)) e ∙ same_self (unpack p) ∙ sym (eq-eqb q p e)
    go (inr n) (inl s) = absurd (n (sym k ∙ ap pack (sym (same_is (unpack p) (unpack q) s)) ∙ h))
    go (inr n) (inr s) = s ∙ sym (ne_eqb q p n)

-- What a search for a packed name says.
pub known : (p : ℕ) (ns : List ℕ) → pack (unpack p) ≡ p → ((i : ℕ) → get_or ns i 0 < 18446744073709551616) → list_any (λ q. eqb q p) ns ≡ among (unpack p) (names_in ns)
unfolding among
known p [] h k = refl
known p (q ∷ ns) h k = ap₂ (λ a b. a || b) (sym (same_unpacked p q h (packed_again q (k 0)))) (known p ns h (λ i. k (suc i)))

-- A name of a kind is no word that stands for a number.
no_stand_in : (w : List ℕ) → is_name w ≡ true → among w stand_ins ≡ false
unfolding among
no_stand_in w g =
    let h = not-true (among w reserved) (and_parts (is_word w) _ g).1 in
    let o0 = or_parts (same w (codes "kind")) _ h in
    let o1 = or_parts (same w (codes "say")) _ o0.1 in
    let o2 = or_parts (same w (codes "send")) _ o1.1 in
    let o3 = or_parts (same w (codes "to")) _ o2.1 in
    let o4 = or_parts (same w (codes "after")) _ o3.1 in
    let o5 = or_parts (same w (codes "if")) _ o4.1 in
    let o6 = or_parts (same w (codes "else")) _ o5.1 in
    let o7 = or_parts (same w (codes "end")) _ o6.1 in
    let o8 = or_parts (same w (codes "again")) _ o7.1 in
    let o9 = or_parts (same w (codes "thing")) _ o8.1 in
    let o10 = or_parts (same w (codes "message")) _ o9.1 in
    (or_parts (same w (codes "draw")) _ o10.1).1

own_it : among (codes "it") stand_ins ≡ true
unfolding among same
own_it = refl

own_me : among (codes "me") stand_ins ≡ true
unfolding among same
own_me = refl

own_now : among (codes "now") stand_ins ≡ true
unfolding among same
own_now = refl

no_number : (k : Word) → (k ≡ It → ⊥) → (k ≡ Me → ⊥) → (k ≡ Now → ⊥) → ((p : ℕ) → k ≡ Name p → ⊥) → stands_for_number k ≡ false
no_number Kind a b c d = refl
no_number Say a b c d = refl
no_number Send a b c d = refl
no_number To a b c d = refl
no_number After a b c d = refl
no_number If a b c d = refl
no_number Else a b c d = refl
no_number End a b c d = refl
no_number Again a b c d = refl
no_number Thing a b c d = refl
no_number Message a b c d = refl
no_number Draw a b c d = refl
no_number It a b c d = absurd (a refl)
no_number Me a b c d = absurd (b refl)
no_number Now a b c d = absurd (c refl)
no_number (Name p) a b c d = absurd (d p refl)

-- A word that was read, where a number is wanted.
module _ (names : List (List ℕ)) (bs : List ℕ) (k : Word) (r : List ℕ) (e : map_got word_of (read_word bs) ≡ got k r) where
  by_operand : (b : Bool) → stands_for_number k ≡ b → left_out (check_operand names bs) ≡ cond b (cond (among (spelling k) stand_ins || among (spelling k) names) (taken tt r) (refused 2 bs)) (refused 1 r)
  by_operand b h =
      let w = spelling k in
      ap (λ g. left_out (then (formed (checked is_operand g)) (λ v d. cond (among v stand_ins || among v names) (taken v d) (refused 2 bs)))) (read_back bs k r e).0
      ∙ both b (among w stand_ins || among w names) (operand_read bs k r e ∙ h)
    where
      both : (o t : Bool) → is_operand (spelling k) ≡ o →
          left_out (then (formed (cond (is_operand (spelling k)) (got (spelling k) r) (bad r))) (λ v d. cond (among v stand_ins || among v names) (taken v d) (refused 2 bs)))
          ≡ cond o (cond (among (spelling k) stand_ins || among (spelling k) names) (taken tt r) (refused 2 bs)) (refused 1 r)
      both true t q =
          ap (λ o. left_out (then (formed (cond o (got (spelling k) r) (bad r))) (λ v d. cond (among v stand_ins || among v names) (taken v d) (refused 2 bs)))) q
          ∙ last (among (spelling k) stand_ins || among (spelling k) names)
        where
          last : (t : Bool) → left_out (cond t (taken (spelling k) r) (refused 2 bs)) ≡ cond t (taken tt r) (refused 2 bs)
          last true = refl
          last false = refl
      both false t q = ap (λ o. left_out (then (formed (cond o (got (spelling k) r) (bad r))) (λ v d. cond (among v stand_ins || among v names) (taken v d) (refused 2 bs)))) q

  pub operand_none : (k ≡ It → ⊥) → (k ≡ Me → ⊥) → (k ≡ Now → ⊥) → ((p : ℕ) → k ≡ Name p → ⊥) → left_out (check_operand names bs) ≡ refused 1 r
  operand_none a b c d = by_operand false (no_number k a b c d)

  pub operand_own : (k ≡ It) ⊎ ((k ≡ Me) ⊎ (k ≡ Now)) → left_out (check_operand names bs) ≡ taken tt r
  operand_own q = by_operand true (own q) ∙ ap (λ b. cond (b || among (spelling k) names) (taken tt r) (refused 2 bs)) (there q)
    where
      own : (k ≡ It) ⊎ ((k ≡ Me) ⊎ (k ≡ Now)) → stands_for_number k ≡ true
      own (inl i) = ap stands_for_number i
      own (inr (inl i)) = ap stands_for_number i
      own (inr (inr i)) = ap stands_for_number i

      there : (k ≡ It) ⊎ ((k ≡ Me) ⊎ (k ≡ Now)) → among (spelling k) stand_ins ≡ true
      there (inl i) = ap (λ j. among (spelling j) stand_ins) i ∙ own_it
      there (inr (inl i)) = ap (λ j. among (spelling j) stand_ins) i ∙ own_me
      there (inr (inr i)) = ap (λ j. among (spelling j) stand_ins) i ∙ own_now

  pub operand_name : (p : ℕ) (ns : List ℕ) → names ≡ names_in ns → ((i : ℕ) → get_or ns i 0 < 18446744073709551616) → k ≡ Name p → (b : Bool) → b ≡ list_any (λ q. eqb q p) ns →
      left_out (check_operand names bs) ≡ cond b (taken tt r) (refused 2 bs)
  operand_name p ns z f n b h =
      let back = read_back bs k r e in
      let s : spelling k ≡ unpack p = ap spelling n in
      let name : is_name (unpack p) ≡ true = ap is_name (sym s) ∙ back.1 ∙ ap (λ j. named j) n in
      let whole : pack (unpack p) ≡ p = named_is (pack (unpack p)) p (ap word_of (sym s) ∙ sym back.2 ∙ n) in
      by_operand true (ap stands_for_number n)
      ∙ ap (λ w. cond (among w stand_ins || among w names) (taken tt r) (refused 2 bs)) s
      ∙ ap (λ o. cond (o || among (unpack p) names) (taken tt r) (refused 2 bs)) (no_stand_in (unpack p) name)
      ∙ ap (λ o. cond o (taken tt r) (refused 2 bs)) (ap (among (unpack p)) z ∙ sym (known p ns whole f) ∙ sym h)

-- What was read, in a form that is left out.
pub left_map : {A B : Type 0} (g : Checked A) (f : A → B) → left_out (then g (λ a c. taken (f a) c)) ≡ left_out g
left_map (taken a k) f = refl
left_map (refused n k) f = refl

pub plain_number : (names : List (List ℕ)) (bs : List ℕ) → false ≡ first_is is_letter bs → left_out (check_plain names bs) ≡ left_out (check_number bs)
unfolding read_number
plain_number names [] l = refl
plain_number names (b ∷ bs) l = ap (λ (g : Checked Term). left_out g) (cond-false (is_letter b) _ _ (sym l)) ∙ left_map (check_number (b ∷ bs)) Term.number

pub plain_word : (names : List (List ℕ)) (bs : List ℕ) → true ≡ first_is is_letter bs → left_out (check_plain names bs) ≡ left_out (check_operand names bs)
plain_word names [] l = absurd (let z : ◌≡◌ {A = Bool} true false = l in cc)
plain_word names (b ∷ bs) l = ap (λ (g : Checked Term). left_out g) (cond-true (is_letter b) _ _ (sym l)) ∙ left_map (check_operand names (b ∷ bs)) Term.word

-- An expression, by its first byte.
pub term_deep : (names : List (List ℕ)) (n : ℕ) (bs : List ℕ) → n ≡ 0 → left_out (check_term names n bs) ≡ refused 4 bs
unfolding check_term
term_deep names zero bs h = refl
term_deep names (suc n) bs h = absurd (omega arith)

pub term_plain : (names : List (List ℕ)) (n : ℕ) (bs c : List ℕ) → (n ≡ 0 → ⊥) → expect (40 ∷ []) bs ≡ bad c → check_term names n bs ≡ check_plain names bs
unfolding check_term expect
term_plain names zero bs c h e = absurd (h refl)
term_plain names (suc n) [] c h e = refl
term_plain names (suc n) (b ∷ bs) c h e = go (eqb b 40) e
  where
    go : (t : Bool) → cond {A = Got (Unit {0})} t (got tt bs) (bad (b ∷ bs)) ≡ bad c → cond t (check_two (check_term names n) bs) (check_plain names (b ∷ bs)) ≡ check_plain names (b ∷ bs)
    go true e = absurd (let z : ◌≡◌ {A = ℕ} 0 1 = cc in omega arith)
    go false e = refl

pub term_two : (names : List (List ℕ)) (n : ℕ) (bs c : List ℕ) → (n ≡ 0 → ⊥) → expect (40 ∷ []) bs ≡ got tt c → check_term names n bs ≡ check_two (check_term names (n - 1)) c
unfolding check_term expect
term_two names zero bs c h e = absurd (h refl)
term_two names (suc n) [] c h e = absurd (let z : ◌≡◌ {A = ℕ} 0 1 = cc in omega arith)
term_two names (suc n) (b ∷ bs) c h e = let m : n ≡ suc n - 1 = omega arith in go (eqb b 40) e ∙ ap (λ k. check_two (check_term names k) c) m
  where
    go : (t : Bool) → cond {A = Got (Unit {0})} t (got tt bs) (bad (b ∷ bs)) ≡ got tt c → cond t (check_two (check_term names n) bs) (check_plain names (b ∷ bs)) ≡ check_two (check_term names n) c
    go true e = let q : bs ≡ c = cc in ap (check_two (check_term names n)) q
    go false e = absurd (let z : ◌≡◌ {A = ℕ} 0 1 = cc in omega arith)

pub term_empty : (names : List (List ℕ)) (n : ℕ) → (n ≡ 0 → ⊥) → check_term names n [] ≡ refused 1 []
unfolding check_term
term_empty names zero h = absurd (h refl)
term_empty names (suc n) h = refl
