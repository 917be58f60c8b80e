-- What is assigned, and lines of a kind by their first word, and their sorts.
use Rattle.std.proofs.Common.{◌≡◌, ℕ, Bool, true, false, cond, eqb, List, [], ◌∷◌, codes, sym, refl, ap, ◌∙◌, inl, inr, ◌⊎◌, arith}
use Rattle.std.proofs.lemmas.Bool.{cond-true, cond-false, or_parts, and_parts, not-true, cases_Bool}
use Rattle.grammar.specs.Syntax.{Term, newline, is_letter, is_word, is_name, all, same, among, reserved}
use Rattle.grammar.specs.Parse.{got, read_word}
use Rattle.grammar.specs.Check.{Checked, taken, refused, then, formed, check_literal, check_expr, check_last, check_rest, check_send, check_value, check_assign, check_deeper, check_by, check_head, Head, ends, elses, assigns, draws, says, sends, whens, agains}
use Rattle.grammar.proofs.Words.{same_is}
use Rattle.words.specs.declared.Word.{Word}
use Rattle.words.specs.declared.Word.TheVariants.{Kind, Say, Send, To, After, If, Else, End, Again, Thing, Message, Draw, It, Me, Now, Name}
use Rattle.words.specs.Reads.{map_got, first_is}
use Rattle.words.specs.Words.{pack, word_of, spelling, unpack}
use Rattle.words.proofs.Packs.{named, read_back}
use Rattle.checker.specs.declared.lines.Sort.{Sort}
use Rattle.checker.specs.Refusals.{left_out, map_checked}
use Rattle.checker.specs.Lines.{sort_of, sort_by}
use Rattle.checker.proofs.Terms.{left_map, term_empty}

left_unit : (g : Checked (Unit {0})) → left_out g ≡ g
left_unit (taken tt k) = refl
left_unit (refused n k) = refl

-- What is assigned at q, by its first word.
abbrev drawn : List (List ℕ) → List ℕ → List ℕ → List ℕ → List ℕ → Checked Head
drawn names w q v d = cond (same v (codes "draw")) (check_rest names (draws w) d) (then (check_last names q) (λ t e. taken (assigns w t) e))

-- What is assigned, by its first byte and word.
pub value_expr : (names : List (List ℕ)) (w bs : List ℕ) → false ≡ first_is is_letter bs → left_out (check_value names w bs) ≡ left_out (check_last names bs)
value_expr names w [] l = sym (ap (λ g. left_out (then g (λ t c. then (check_literal newline c) (λ _ d. taken t d)))) (term_empty names 1024 (λ z. omega arith)))
value_expr names w (b ∷ bs) l = ap (λ (g : Checked Head). left_out g) (cond-false (is_letter b) _ _ (sym l)) ∙ left_map (check_last names (b ∷ bs)) (assigns w)

is_draw : word_of (codes "draw") ≡ Draw
unfolding pack
is_draw = refl

module _ (names : List (List ℕ)) (w bs : List ℕ) (l : true ≡ first_is is_letter bs) (k : Word) (r : List ℕ) (e : map_got word_of (read_word bs) ≡ got k r) where
  by_word : check_value names w bs ≡ drawn names w bs (spelling k) r
  by_word = first bs l ∙ ap (λ g. then (formed g) (drawn names w bs)) (read_back bs k r e).0
    where
      first : (bs : List ℕ) → true ≡ first_is is_letter bs → check_value names w bs ≡ then (formed (read_word bs)) (drawn names w bs)
      first [] l = absurd (let z : ◌≡◌ {A = Bool} true false = l in cc)
      first (b ∷ bs) l = cond-true (is_letter b) (then (formed (read_word (b ∷ bs))) (drawn names w (b ∷ bs))) _ (sym l)

  pub value_draw : k ≡ Draw → left_out (check_value names w bs) ≡ left_out (check_rest names (draws w) r)
  unfolding same
  value_draw d = ap (λ g. left_out g) (by_word ∙ ap (λ j. drawn names w bs (spelling j) r) d)

  pub value_other : (k ≡ Draw → ⊥) → left_out (check_value names w bs) ≡ left_out (check_last names bs)
  value_other d =
      ap (λ g. left_out g) (by_word ∙ cond-false (same (spelling k) (codes "draw")) _ _ (no_draw (cases_Bool (same (spelling k) (codes "draw"))))) ∙ left_map (check_last names bs) (assigns w)
    where
      no_draw : (same (spelling k) (codes "draw") ≡ true) ⊎ (same (spelling k) (codes "draw") ≡ false) → same (spelling k) (codes "draw") ≡ false
      no_draw (inl s) = absurd (d ((read_back bs k r e).2 ∙ ap word_of (same_is (spelling k) (codes "draw") s) ∙ is_draw))
      no_draw (inr s) = s

-- A name that is assigned, by whether it is known.
module _ (names : List (List ℕ)) (bs w c : List ℕ) where
  pub assign_unknown : among w names ≡ false → left_out (check_assign names bs w c) ≡ refused 2 bs
  assign_unknown h = ap (λ g. left_out g) (cond-false (among w names) (then (check_literal (codes " = ") c) (λ _ d. check_value names w d)) (refused 2 bs) h)

  pub assign_known : among w names ≡ true → check_assign names bs w c ≡ then (check_literal (codes " = ") c) (λ _ d. check_value names w d)
  assign_known h = cond-true (among w names) _ _ h

-- All that is taken is of one sort.
abbrev pub of_sort : Sort → Checked (Unit {0}) → Checked Sort
of_sort s (taken u c) = taken s c
of_sort s (refused n c) = refused n c

abbrev Sorts : Sort → Checked Head → Type 0
Sorts s r = map_checked sort_of r ≡ of_sort s (left_out r)

sorts_then : {A : Type 0} (s : Sort) (r : Checked A) (f : A → List ℕ → Checked Head) → ((a : A) (c : List ℕ) → Sorts s (f a c)) → Sorts s (then r f)
sorts_then s (taken a c) f h = h a c
sorts_then s (refused n c) f h = refl

sorts_cond : (s : Sort) (b : Bool) (x y : Checked Head) → Sorts s x → Sorts s y → Sorts s (cond b x y)
sorts_cond s true x y h k = h
sorts_cond s false x y h k = k

sorts_last : (names : List (List ℕ)) (s : Sort) (f : Term → Head) (c : List ℕ) → ((t : Term) → sort_of (f t) ≡ s) → Sorts s (then (check_last names c) (λ t d. taken (f t) d))
sorts_last names s f c h = sorts_then s (check_last names c) _ (λ t d. ap (λ q. taken q d) (h t))

sorts_rest : (names : List (List ℕ)) (s : Sort) (f : Term → Head) (c : List ℕ) → ((t : Term) → sort_of (f t) ≡ s) → Sorts s (check_rest names f c)
sorts_rest names s f c h = sorts_then s (check_literal (codes " ") c) _ (λ _ d. sorts_last names s f d h)

sorts_send : (names : List (List ℕ)) (c : List ℕ) → Sorts Sort.Simple (check_send names c)
sorts_send names c =
    sorts_then Sort.Simple (check_literal (codes " ") c) _ (λ _ d. sorts_then Sort.Simple (check_expr names d) _ (λ t e. sorts_then Sort.Simple (check_literal (codes " to ") e) _ (λ _ f.
    sorts_then Sort.Simple (check_expr names f) _ (λ u g. sorts_then Sort.Simple (check_literal (codes " after ") g) _ (λ _ h. sorts_last names Sort.Simple (sends t u) h (λ v. refl))))))

sorts_value : (names : List (List ℕ)) (w c : List ℕ) → Sorts Sort.Simple (check_value names w c)
sorts_value names w [] = refl
sorts_value names w (b ∷ c) =
    sorts_cond Sort.Simple (is_letter b) (then (formed (read_word (b ∷ c))) (drawn names w (b ∷ c))) (then (check_last names (b ∷ c)) (λ t d. taken (assigns w t) d))
    (sorts_then Sort.Simple (formed (read_word (b ∷ c))) (drawn names w (b ∷ c)) (λ v d.
    sorts_cond Sort.Simple (same v (codes "draw")) (check_rest names (draws w) d) (then (check_last names (b ∷ c)) (λ t e. taken (assigns w t) e))
    (sorts_rest names Sort.Simple (draws w) d (λ t. refl)) (sorts_last names Sort.Simple (assigns w) (b ∷ c) (λ t. refl))))
    (sorts_last names Sort.Simple (assigns w) (b ∷ c) (λ t. refl))

sorts_assign : (names : List (List ℕ)) (bs w c : List ℕ) → Sorts Sort.Simple (check_assign names bs w c)
sorts_assign names bs w c =
    sorts_cond Sort.Simple (among w names) (then (check_literal (codes " = ") c) (λ _ d. check_value names w d)) (refused 2 bs)
    (sorts_then Sort.Simple (check_literal (codes " = ") c) _ (λ _ d. sorts_value names w d)) refl

sorts_deeper : (names : List (List ℕ)) (deep : ℕ) (bs : List ℕ) (s : Sort) (f : Term → Head) (c : List ℕ) → ((t : Term) → sort_of (f t) ≡ s) → Sorts s (check_deeper names deep bs f c)
sorts_deeper names deep bs s f c h =
    sorts_then s (check_literal (codes " ") c) _ (λ _ d. sorts_cond s (eqb deep 0) (refused 4 bs) (then (check_last names d) (λ t e. taken (f t) e)) refl (sorts_last names s f d h))

-- Behind the first word of a line.
module _ (names : List (List ℕ)) (deep : ℕ) (els : Bool) (bs c : List ℕ) where
  pub by_end : left_out (check_by names deep els bs (codes "end") c) ≡ check_literal newline c
  unfolding same
  by_end = left_map (check_literal newline c) (λ _. ends) ∙ left_unit (check_literal newline c)

  pub by_else : left_out (check_by names deep els bs (codes "else") c) ≡ cond els (check_literal newline c) (refused 1 c)
  unfolding same
  by_else = both els
    where
      both : (b : Bool) → left_out (cond b (then (check_literal newline c) (λ _ d. taken elses d)) (refused 1 c)) ≡ cond b (check_literal newline c) (refused 1 c)
      both true = left_map (check_literal newline c) (λ _. elses) ∙ left_unit (check_literal newline c)
      both false = refl

  pub by_say : check_by names deep els bs (codes "say") c ≡ check_rest names says c
  unfolding same
  by_say = refl

  pub by_send : check_by names deep els bs (codes "send") c ≡ check_send names c
  unfolding same
  by_send = refl

  pub by_if : check_by names deep els bs (codes "if") c ≡ check_deeper names deep bs whens c
  unfolding same
  by_if = refl

  pub by_again : check_by names deep els bs (codes "again") c ≡ check_deeper names deep bs agains c
  unfolding same
  by_again = refl

  pub by_name : (w : List ℕ) → is_name w ≡ true → check_by names deep els bs w c ≡ check_assign names bs w c
  unfolding among
  by_name w n =
      let h = not-true (among w reserved) (and_parts (is_word w) _ n).1 in
      let o0 = or_parts (same w (codes "kind")) _ h in
      let o1 = or_parts (same w (codes "say")) _ o0.1 in
      let o2 = or_parts (same w (codes "send")) _ o1.1 in
      let o3 = or_parts (same w (codes "to")) _ o2.1 in
      let o4 = or_parts (same w (codes "after")) _ o3.1 in
      let o5 = or_parts (same w (codes "if")) _ o4.1 in
      let o6 = or_parts (same w (codes "else")) _ o5.1 in
      let o7 = or_parts (same w (codes "end")) _ o6.1 in
      let o8 = or_parts (same w (codes "again")) _ o7.1 in
      cond-false (same w (codes "end")) _ _ o7.0 ∙ cond-false (same w (codes "else")) _ _ o6.0 ∙ cond-false (same w (codes "say")) _ _ o1.0 ∙ cond-false (same w (codes "send")) _ _ o2.0
      ∙ cond-false (same w (codes "if")) _ _ o5.0 ∙ cond-false (same w (codes "again")) _ _ o8.0 ∙ cond-true (is_name w) _ _ n

  none_Kind : check_by names deep els bs (spelling Kind) c ≡ refused 1 c
  unfolding same among all
  none_Kind = refl

  none_To : check_by names deep els bs (spelling To) c ≡ refused 1 c
  unfolding same among all
  none_To = refl

  none_After : check_by names deep els bs (spelling After) c ≡ refused 1 c
  unfolding same among all
  none_After = refl

  none_Thing : check_by names deep els bs (spelling Thing) c ≡ refused 1 c
  unfolding same among all
  none_Thing = refl

  none_Message : check_by names deep els bs (spelling Message) c ≡ refused 1 c
  unfolding same among all
  none_Message = refl

  none_Draw : check_by names deep els bs (spelling Draw) c ≡ refused 1 c
  unfolding same among all
  none_Draw = refl

  none_It : check_by names deep els bs (spelling It) c ≡ refused 1 c
  unfolding same among all
  none_It = refl

  none_Me : check_by names deep els bs (spelling Me) c ≡ refused 1 c
  unfolding same among all
  none_Me = refl

  none_Now : check_by names deep els bs (spelling Now) c ≡ refused 1 c
  unfolding same among all
  none_Now = refl

  pub by_none : (k : Word) → (k ≡ End → ⊥) → (k ≡ Else → ⊥) → (k ≡ Say → ⊥) → (k ≡ Send → ⊥) → (k ≡ If → ⊥) → (k ≡ Again → ⊥) → ((p : ℕ) → k ≡ Name p → ⊥) →
      check_by names deep els bs (spelling k) c ≡ refused 1 c
  by_none Kind n₀ n₁ n₂ n₃ n₄ n₅ n₆ = none_Kind
  by_none Say n₀ n₁ n₂ n₃ n₄ n₅ n₆ = absurd (n₂ refl)
  by_none Send n₀ n₁ n₂ n₃ n₄ n₅ n₆ = absurd (n₃ refl)
  by_none To n₀ n₁ n₂ n₃ n₄ n₅ n₆ = none_To
  by_none After n₀ n₁ n₂ n₃ n₄ n₅ n₆ = none_After
  by_none If n₀ n₁ n₂ n₃ n₄ n₅ n₆ = absurd (n₄ refl)
  by_none Else n₀ n₁ n₂ n₃ n₄ n₅ n₆ = absurd (n₁ refl)
  by_none End n₀ n₁ n₂ n₃ n₄ n₅ n₆ = absurd (n₀ refl)
  by_none Again n₀ n₁ n₂ n₃ n₄ n₅ n₆ = absurd (n₅ refl)
  by_none Thing n₀ n₁ n₂ n₃ n₄ n₅ n₆ = none_Thing
  by_none Message n₀ n₁ n₂ n₃ n₄ n₅ n₆ = none_Message
  by_none Draw n₀ n₁ n₂ n₃ n₄ n₅ n₆ = none_Draw
  by_none It n₀ n₁ n₂ n₃ n₄ n₅ n₆ = none_It
  by_none Me n₀ n₁ n₂ n₃ n₄ n₅ n₆ = none_Me
  by_none Now n₀ n₁ n₂ n₃ n₄ n₅ n₆ = none_Now
  by_none (Name p) n₀ n₁ n₂ n₃ n₄ n₅ n₆ = absurd (n₆ p refl)

  -- The sort hangs on the first word alone.
  by_sort : (k : Word) → is_name (spelling k) ≡ named k → Sorts (sort_by k) (check_by names deep els bs (spelling k) c)
  unfolding same
  by_sort End n = sorts_then Sort.End (check_literal newline c) (λ _ d. taken ends d) (λ _ d. refl)
  by_sort Else n =
      sorts_cond Sort.Else els (then (check_literal newline c) (λ _ d. taken elses d)) (refused 1 c) (sorts_then Sort.Else (check_literal newline c) (λ _ d. taken elses d) (λ _ d. refl)) refl
  by_sort Say n = sorts_rest names Sort.Simple says c (λ t. refl)
  by_sort Send n = sorts_send names c
  by_sort If n = sorts_deeper names deep bs Sort.If whens c (λ t. refl)
  by_sort Again n = sorts_deeper names deep bs Sort.Again agains c (λ t. refl)
  by_sort (Name p) n =
      ap (map_checked sort_of) (by_name (unpack p) n) ∙ sorts_assign names bs (unpack p) c ∙ ap (λ g. of_sort Sort.Simple (left_out g)) (sym (by_name (unpack p) n))
  by_sort Kind n = ap (map_checked sort_of) none_Kind ∙ ap (λ g. of_sort Sort.Simple (left_out g)) (sym none_Kind)
  by_sort To n = ap (map_checked sort_of) none_To ∙ ap (λ g. of_sort Sort.Simple (left_out g)) (sym none_To)
  by_sort After n = ap (map_checked sort_of) none_After ∙ ap (λ g. of_sort Sort.Simple (left_out g)) (sym none_After)
  by_sort Thing n = ap (map_checked sort_of) none_Thing ∙ ap (λ g. of_sort Sort.Simple (left_out g)) (sym none_Thing)
  by_sort Message n = ap (map_checked sort_of) none_Message ∙ ap (λ g. of_sort Sort.Simple (left_out g)) (sym none_Message)
  by_sort Draw n = ap (map_checked sort_of) none_Draw ∙ ap (λ g. of_sort Sort.Simple (left_out g)) (sym none_Draw)
  by_sort It n = ap (map_checked sort_of) none_It ∙ ap (λ g. of_sort Sort.Simple (left_out g)) (sym none_It)
  by_sort Me n = ap (map_checked sort_of) none_Me ∙ ap (λ g. of_sort Sort.Simple (left_out g)) (sym none_Me)
  by_sort Now n = ap (map_checked sort_of) none_Now ∙ ap (λ g. of_sort Sort.Simple (left_out g)) (sym none_Now)

  -- A line whose first word was read.
  module _ (k : Word) (e : map_got word_of (read_word bs) ≡ got k c) where
    at_head : map_checked sort_of (check_head names deep els bs) ≡ of_sort (sort_by k) (left_out (check_by names deep els bs (spelling k) c))
    at_head =
        ap (λ g. map_checked sort_of (then (formed g) (check_by names deep els bs))) (read_back bs k c e).0
        ∙ by_sort k (read_back bs k c e).1

    pub head_by : (X : Checked (Unit {0})) → left_out (check_by names deep els bs (spelling k) c) ≡ X → map_checked sort_of (check_head names deep els bs) ≡ of_sort (sort_by k) X
    head_by X x = at_head ∙ ap (of_sort (sort_by k)) x
