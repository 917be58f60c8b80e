-- How many bytes a kind takes that was read with all its rules: as many as show it.
use Rattle.std.proofs.Common.{◌≡◌, ℕ, zero, suc, ◌+◌, ◌-◌, Bool, true, false, cond, eqb, leb, List, [], ◌∷◌, ◌++◌, length, codes, refl, ap, subst, arith, length-append}
use Rattle.grammar.specs.Syntax.{is_letter, is_digit, in_word, same, among, is_name, is_operand, newline, Sign, Term, two, Lines, assign, draw, say, send, when, choose, again, Kind, show_term, show_lines, show_row, show_kinds}
use Rattle.grammar.specs.Parse.{Got, got, bad, Close, by_end, by_else, expect, more_word, read_word, checked, read_name, more_digits, after_zero, read_number, read_sign}
use Rattle.grammar.specs.Check.{Checked, taken, refused, then, formed, check_literal, check_number, check_operand, check_plain, check_two, check_term, check_last, line_bytes, Head, ends, elses, assigns, draws, says, sends, whens, agains, check_rest, check_send, check_value, check_deeper, check_by, check_head, too_long, in_line, Block, before_block, excess, check_behind, check_lines, check_new, check_names, Known, First, check_first, most_names, most_deep, Counted, check_kind}
use Rattle.grammar.proofs.Words.{same_is}

-- What was read takes as many bytes as f says, of t.
abbrev Sized : {A : Type 0} → (A → ℕ) → ℕ → Checked A → Type 0
Sized f t (taken a c) = t ≡ f a + length c
Sized f t (refused m c) = Unit {0}

-- One after the other: n bytes were read before, and then as many as f says.
step : {A B : Type 0} (f : A → ℕ) (h : B → ℕ) (t n : ℕ) (c : List ℕ) (g : Checked A) (k : A → List ℕ → Checked B) → t ≡ n + length c → Sized f (length c) g →
    ((a : A) (d : List ℕ) → t ≡ n + f a + length d → Sized h t (k a d)) → Sized h t (then g k)
step f h t n c (taken a d) k e x y = y a d (omega arith)
step f h t n c (refused m d) k e x y = tt

either : {A : Type 0} (f : A → ℕ) (t : ℕ) (b : Bool) (x y : Checked A) → (b ≡ true → Sized f t x) → (b ≡ false → Sized f t y) → Sized f t (cond b x y)
either f t true x y p q = p refl
either f t false x y p q = q refl

-- More bytes before.
further : {A : Type 0} (f h : A → ℕ) (s t n : ℕ) (g : Checked A) → t ≡ n + s → ((a : A) → h a ≡ n + f a) → Sized f s g → Sized h t g
further f h s t n (taken a c) e k x = let y = k a in omega arith
further f h s t n (refused m c) e k x = tt

literal_size : (cs bs : List ℕ) → Sized (λ _. length cs) (length bs) (check_literal cs bs)
unfolding expect
literal_size [] bs = omega arith
literal_size (c ∷ cs) [] = tt
literal_size (c ∷ cs) (b ∷ bs) = go (eqb b c) (literal_size cs bs)
  where
    go : (t : Bool) → Sized (λ _. length cs) (length bs) (formed (expect cs bs)) → Sized (λ _. suc (length cs)) (suc (length bs)) (formed (cond t (expect cs bs) (bad (b ∷ bs))))
    go true h = further (λ _. length cs) (λ _. suc (length cs)) (length bs) (suc (length bs)) 1 (formed (expect cs bs)) (omega arith) (λ a. omega arith) h
    go false h = tt

-- Words.
more_size : (n : ℕ) (w bs : List ℕ) → Sized length (length w + length bs) (formed (more_word n w bs))
unfolding more_word
more_size zero w [] = refl
more_size (suc n) w [] = refl
more_size zero w (b ∷ bs) = go (in_word b)
  where
    go : (t : Bool) → Sized length (length w + length (b ∷ bs)) (formed (cond t (bad (b ∷ bs)) (got w (b ∷ bs))))
    go true = tt
    go false = refl
more_size (suc n) w (b ∷ bs) = go (in_word b) (more_size n (w ++ b ∷ []) bs)
  where
    go : (t : Bool) → Sized length (length (w ++ b ∷ []) + length bs) (formed (more_word n (w ++ b ∷ []) bs)) → Sized length (length w + length (b ∷ bs)) (formed (cond t (more_word n (w ++ b ∷ []) bs) (got w (b ∷ bs))))
    go true h =
        subst (λ m. Sized length m (formed (more_word n (w ++ b ∷ []) bs))) (let z : length (w ++ b ∷ []) + length bs ≡ length w + length (b ∷ bs) = omega (arith, length-append w (b ∷ [])) in z) h
    go false h = refl

word_size : (bs : List ℕ) → Sized length (length bs) (formed (read_word bs))
unfolding read_word
word_size [] = tt
word_size (b ∷ bs) = go (is_letter b) (more_size 7 (b ∷ []) bs)
  where
    go : (t : Bool) → Sized length (length (b ∷ []) + length bs) (formed (more_word 7 (b ∷ []) bs)) → Sized length (length (b ∷ bs)) (formed (cond t (more_word 7 (b ∷ []) bs) (bad (b ∷ bs))))
    go true h = subst (λ m. Sized length m (formed (more_word 7 (b ∷ []) bs))) (let z : length (b ∷ []) + length bs ≡ length (b ∷ bs) = omega arith in z) h
    go false h = tt

checked_size : (p : List ℕ → Bool) (t : ℕ) (g : Got (List ℕ)) → Sized length t (formed g) → Sized length t (formed (checked p g))
checked_size p t (got w c) h = go (p w)
  where
    go : (b : Bool) → Sized length t (formed (cond b (got w c) (bad c)))
    go true = h
    go false = tt
checked_size p t (bad c) h = tt

-- Numbers.
digits_size : (ds bs : List ℕ) → Sized length (length ds + length bs) (formed (more_digits ds bs))
unfolding more_digits
digits_size ds [] = refl
digits_size ds (b ∷ bs) = go (is_digit b) (digits_size (ds ++ b ∷ []) bs)
  where
    go : (t : Bool) → Sized length (length (ds ++ b ∷ []) + length bs) (formed (more_digits (ds ++ b ∷ []) bs)) → Sized length (length ds + length (b ∷ bs)) (formed (cond t (more_digits (ds ++ b ∷ []) bs) (got ds (b ∷ bs))))
    go true h =
        subst (λ m. Sized length m (formed (more_digits (ds ++ b ∷ []) bs))) (let z : length (ds ++ b ∷ []) + length bs ≡ length ds + length (b ∷ bs) = omega (arith, length-append ds (b ∷ [])) in z) h
    go false h = refl

zero_size : (bs : List ℕ) → Sized length (suc (length bs)) (formed (after_zero bs))
unfolding after_zero
zero_size [] = refl
zero_size (b ∷ bs) = go (is_digit b)
  where
    go : (t : Bool) → Sized {A = List ℕ} length (suc (length (b ∷ bs))) (formed (cond t (bad (b ∷ bs)) (got (48 ∷ []) (b ∷ bs))))
    go true = tt
    go false = omega arith

number_size : (bs : List ℕ) → Sized length (length bs) (formed (read_number bs))
unfolding read_number
number_size [] = tt
number_size (b ∷ bs) = go (eqb b 48) (is_digit b) (zero_size bs) (digits_size (b ∷ []) bs)
  where
    go : (s t : Bool) → Sized length (suc (length bs)) (formed (after_zero bs)) → Sized length (length (b ∷ []) + length bs) (formed (more_digits (b ∷ []) bs)) →
        Sized length (length (b ∷ bs)) (formed (cond s (after_zero bs) (cond t (more_digits (b ∷ []) bs) (bad (b ∷ bs)))))
    go true t h k = h
    go false true h k = subst (λ m. Sized length m (formed (more_digits (b ∷ []) bs))) (let z : length (b ∷ []) + length bs ≡ length (b ∷ bs) = omega arith in z) k
    go false false h k = tt

small_size : (bs : List ℕ) → Sized length (length bs) (check_number bs)
small_size bs =
    step length length (length bs) 0 bs (formed (read_number bs)) _ (omega arith) (number_size bs) (λ ds c e. either length (length bs) _ (taken ds c) (refused 3 bs) (λ _. omega arith) (λ _. tt))

sign_size : (bs : List ℕ) → Sized (λ _. 1) (length bs) (formed (read_sign bs))
unfolding read_sign
sign_size [] = tt
sign_size (b ∷ bs) = go (eqb b 43) (eqb b 45) (eqb b 42) (eqb b 47) (eqb b 37) (eqb b 60) (eqb b 61)
  where
    e : length (b ∷ bs) ≡ 1 + length bs
    e = omega arith

    go : (t₁ t₂ t₃ t₄ t₅ t₆ t₇ : Bool) →
        Sized (λ (s : Sign). 1) (length (b ∷ bs)) (formed (cond t₁ (got Sign.plus bs) (cond t₂ (got Sign.minus bs) (cond t₃ (got Sign.times bs) (cond t₄ (got Sign.over bs) (cond t₅ (got Sign.remains bs) (cond t₆ (got Sign.less bs) (cond t₇ (got Sign.equal bs) (bad (b ∷ bs))))))))))
    go true t₂ t₃ t₄ t₅ t₆ t₇ = e
    go false true t₃ t₄ t₅ t₆ t₇ = e
    go false false true t₄ t₅ t₆ t₇ = e
    go false false false true t₅ t₆ t₇ = e
    go false false false false true t₆ t₇ = e
    go false false false false false true t₇ = e
    go false false false false false false true = e
    go false false false false false false false = tt

-- Expressions.
abbrev term_bytes : Term → ℕ
term_bytes t = length (show_term t)

two_bytes : (s : Sign) (t u : Term) → term_bytes (two s t u) ≡ term_bytes t + term_bytes u + 5
unfolding show_term
two_bytes s t u = simp length-append (omega arith)

operand_size : (names : List (List ℕ)) (bs : List ℕ) → Sized length (length bs) (check_operand names bs)
operand_size names bs =
    step length length (length bs) 0 bs (formed (checked is_operand (read_word bs))) _ (omega arith) (checked_size is_operand (length bs) (read_word bs) (word_size bs))
    (λ w c e. either length (length bs) _ (taken w c) (refused 2 bs) (λ _. omega arith) (λ _. tt))

plain_size : (names : List (List ℕ)) (bs : List ℕ) → Sized term_bytes (length bs) (check_plain names bs)
unfolding show_term
plain_size names [] = tt
plain_size names (b ∷ bs) =
    either term_bytes (length (b ∷ bs)) (is_letter b) _ _
    (λ _. step length term_bytes (length (b ∷ bs)) 0 (b ∷ bs) (check_operand names (b ∷ bs)) _ (omega arith) (operand_size names (b ∷ bs)) (λ w c e. omega arith))
    (λ _. step length term_bytes (length (b ∷ bs)) 0 (b ∷ bs) (check_number (b ∷ bs)) _ (omega arith) (small_size (b ∷ bs)) (λ ds c e. omega arith))

pair_size : (go : List ℕ → Checked Term) → ((c : List ℕ) → Sized term_bytes (length c) (go c)) → (bs : List ℕ) → Sized term_bytes (suc (length bs)) (check_two go bs)
pair_size go x bs =
    let T = suc (length bs) in
    step term_bytes term_bytes T 1 bs (go bs) _ (omega arith) (x bs) (λ t c e₁.
    step (λ _. 1) term_bytes T (1 + term_bytes t) c (check_literal (codes " ") c) _ e₁ (literal_size (codes " ") c) (λ _ d e₂.
    step (λ _. 1) term_bytes T (1 + term_bytes t + 1) d (formed (read_sign d)) _ e₂ (sign_size d) (λ s e e₃.
    step (λ _. 1) term_bytes T (1 + term_bytes t + 1 + 1) e (check_literal (codes " ") e) _ e₃ (literal_size (codes " ") e) (λ _ f e₄.
    step term_bytes term_bytes T (1 + term_bytes t + 1 + 1 + 1) f (go f) _ e₄ (x f) (λ u g e₅.
    step (λ _. 1) term_bytes T (1 + term_bytes t + 1 + 1 + 1 + term_bytes u) g (check_literal (codes ")") g) _ e₅ (literal_size (codes ")") g) (λ _ h e₆.
    omega (arith, two_bytes s t u)))))))

term_size : (names : List (List ℕ)) (n : ℕ) (bs : List ℕ) → Sized term_bytes (length bs) (check_term names n bs)
unfolding check_term
term_size names zero bs = tt
term_size names (suc n) [] = tt
term_size names (suc n) (b ∷ bs) = either term_bytes (length (b ∷ bs)) (eqb b 40) _ _ (λ _. pair_size (check_term names n) (term_size names n) bs) (λ _. plain_size names (b ∷ bs))

last_size : (names : List (List ℕ)) (bs : List ℕ) → Sized (λ t. term_bytes t + 1) (length bs) (check_last names bs)
last_size names bs =
    step term_bytes (λ t. term_bytes t + 1) (length bs) 0 bs (check_term names line_bytes bs) _ (omega arith) (term_size names line_bytes bs) (λ t c e₁.
    step (λ _. 1) (λ t. term_bytes t + 1) (length bs) (0 + term_bytes t) c (check_literal newline c) _ e₁ (literal_size newline c) (λ _ d e₂. omega arith))

-- The lines of a kind, each with what closes lines: an else counts as such where it may stand, and elsewhere it is never read.
abbrev closing : Bool → Close → ℕ
closing els by_end = 4
closing els by_else = cond els 5 4

closed_by_end : (k : Close) → closing false k ≡ 4
closed_by_end by_end = refl
closed_by_end by_else = refl

abbrev head_bytes : Bool → Head → ℕ
head_bytes els ends = 4
head_bytes els elses = cond els 5 4
head_bytes els (assigns w t) = length w + 4 + term_bytes t
head_bytes els (draws w t) = length w + 9 + term_bytes t
head_bytes els (says t) = 5 + term_bytes t
head_bytes els (sends t u v) = 17 + term_bytes t + term_bytes u + term_bytes v
head_bytes els (whens t) = 4 + term_bytes t
head_bytes els (agains t) = 7 + term_bytes t

rest_size : (els : Bool) (names : List (List ℕ)) (f : Term → Head) (t n : ℕ) (bs : List ℕ) → ((u : Term) → head_bytes els (f u) ≡ n + 2 + term_bytes u) → t ≡ n + length bs →
    Sized (head_bytes els) t (check_rest names f bs)
rest_size els names f t n bs k e =
    step (λ _. 1) (head_bytes els) t n bs (check_literal (codes " ") bs) _ e (literal_size (codes " ") bs) (λ _ c e₁.
    step (λ u. term_bytes u + 1) (head_bytes els) t (n + 1) c (check_last names c) _ e₁ (last_size names c) (λ u d e₂. omega (arith, k u)))

deeper_size : (els : Bool) (names : List (List ℕ)) (deep : ℕ) (b₀ : List ℕ) (f : Term → Head) (t n : ℕ) (bs : List ℕ) → ((u : Term) → head_bytes els (f u) ≡ n + 2 + term_bytes u) → t ≡ n + length bs →
    Sized (head_bytes els) t (check_deeper names deep b₀ f bs)
deeper_size els names deep b₀ f t n bs k e =
    step (λ _. 1) (head_bytes els) t n bs (check_literal (codes " ") bs) _ e (literal_size (codes " ") bs) (λ _ c e₁.
    either (head_bytes els) t (eqb deep 0) (refused 4 b₀) _ (λ _. tt) (λ _.
    step (λ u. term_bytes u + 1) (head_bytes els) t (n + 1) c (check_last names c) _ e₁ (last_size names c) (λ u d e₂. omega (arith, k u))))

send_size : (els : Bool) (names : List (List ℕ)) (t : ℕ) (bs : List ℕ) → t ≡ 4 + length bs → Sized (head_bytes els) t (check_send names bs)
send_size els names t bs e =
    step (λ _. 1) (head_bytes els) t 4 bs (check_literal (codes " ") bs) _ e (literal_size (codes " ") bs) (λ _ c e₁.
    step term_bytes (head_bytes els) t (4 + 1) c (check_term names line_bytes c) _ e₁ (term_size names line_bytes c) (λ u d e₂.
    step (λ _. 4) (head_bytes els) t (4 + 1 + term_bytes u) d (check_literal (codes " to ") d) _ e₂ (literal_size (codes " to ") d) (λ _ f e₃.
    step term_bytes (head_bytes els) t (4 + 1 + term_bytes u + 4) f (check_term names line_bytes f) _ e₃ (term_size names line_bytes f) (λ v g e₄.
    step (λ _. 7) (head_bytes els) t (4 + 1 + term_bytes u + 4 + term_bytes v) g (check_literal (codes " after ") g) _ e₄ (literal_size (codes " after ") g) (λ _ h e₅.
    step (λ w. term_bytes w + 1) (head_bytes els) t (4 + 1 + term_bytes u + 4 + term_bytes v + 7) h (check_last names h) _ e₅ (last_size names h) (λ w i e₆. omega arith))))))

value_size : (els : Bool) (names : List (List ℕ)) (w : List ℕ) (t : ℕ) (bs : List ℕ) → t ≡ length w + 3 + length bs → Sized (head_bytes els) t (check_value names w bs)
value_size els names w t [] e = tt
value_size els names w t (b ∷ bs) e =
    either (head_bytes els) t (is_letter b) _ _
    (λ _. step length (head_bytes els) t (length w + 3) (b ∷ bs) (formed (read_word (b ∷ bs))) _ e (word_size (b ∷ bs)) (λ v d e₁.
    either (head_bytes els) t (same v (codes "draw")) _ _
    (λ y. let l : length v ≡ 4 = ap length (same_is v (codes "draw") y) in rest_size els names (draws w) t (length w + 7) d (λ u. omega arith) (omega arith))
    (λ _. whole)))
    (λ _. whole)
  where
    whole : Sized (head_bytes els) t (then (check_last names (b ∷ bs)) (λ u d. taken (assigns w u) d))
    whole = step (λ u. term_bytes u + 1) (head_bytes els) t (length w + 3) (b ∷ bs) (check_last names (b ∷ bs)) _ e (last_size names (b ∷ bs)) (λ u d e₁. omega arith)

by_size : (els : Bool) (names : List (List ℕ)) (deep : ℕ) (b₀ w : List ℕ) (t : ℕ) (c : List ℕ) → t ≡ length w + length c → Sized (head_bytes els) t (check_by names deep els b₀ w c)
by_size els names deep b₀ w t c e =
    either (head_bytes els) t (same w (codes "end")) _ _
    (λ y. let l : length w ≡ 3 = ap length (same_is w (codes "end") y) in step (λ _. 1) (head_bytes els) t 3 c (check_literal newline c) _ (omega arith) (literal_size newline c) (λ _ d e₁. omega arith)) (λ _.
    either (head_bytes els) t (same w (codes "else")) _ _
    (λ y. let l : length w ≡ 4 = ap length (same_is w (codes "else") y) in an_else els (omega arith)) (λ _.
    either (head_bytes els) t (same w (codes "say")) _ _
    (λ y. let l : length w ≡ 3 = ap length (same_is w (codes "say") y) in rest_size els names says t 3 c (λ u. omega arith) (omega arith)) (λ _.
    either (head_bytes els) t (same w (codes "send")) _ _
    (λ y. let l : length w ≡ 4 = ap length (same_is w (codes "send") y) in send_size els names t c (omega arith)) (λ _.
    either (head_bytes els) t (same w (codes "if")) _ _
    (λ y. let l : length w ≡ 2 = ap length (same_is w (codes "if") y) in deeper_size els names deep b₀ whens t 2 c (λ u. omega arith) (omega arith)) (λ _.
    either (head_bytes els) t (same w (codes "again")) _ _
    (λ y. let l : length w ≡ 5 = ap length (same_is w (codes "again") y) in deeper_size els names deep b₀ agains t 5 c (λ u. omega arith) (omega arith)) (λ _.
    either (head_bytes els) t (is_name w) _ (refused 1 c)
    (λ _. either (head_bytes els) t (among w names) _ (refused 2 b₀)
    (λ _. step (λ _. 3) (head_bytes els) t (length w) c (check_literal (codes " = ") c) _ e (literal_size (codes " = ") c) (λ _ d e₁. value_size els names w t d e₁)) (λ _. tt))
    (λ _. tt)))))))
  where
    an_else : (els : Bool) → t ≡ 4 + length c → Sized (head_bytes els) t (cond els (then (check_literal newline c) (λ _ d. taken elses d)) (refused 1 c))
    an_else true e = step (λ _. 1) (head_bytes true) t 4 c (check_literal newline c) _ e (literal_size newline c) (λ _ d e₁. omega arith)
    an_else false e = tt

head_size : (els : Bool) (names : List (List ℕ)) (deep : ℕ) (bs : List ℕ) → Sized (head_bytes els) (length bs) (check_head names deep els bs)
head_size els names deep bs =
    step length (head_bytes els) (length bs) 0 bs (formed (read_word bs)) _ (omega arith) (word_size bs) (λ w c e. by_size els names deep bs w (length bs) c (omega arith))

line_size : {A : Type 0} (f : A → ℕ) (t : ℕ) (bs : List ℕ) (g : Checked A) → Sized f t g → Sized f t (in_line bs g)
line_size f t bs (taken a c) x = either f t (too_long bs) _ _ (λ _. tt) (λ _. x)
line_size f t bs (refused m c) x = either f t (too_long bs) _ _ (λ _. either f t (leb (length bs - length c) line_bytes) _ _ (λ _. tt) (λ _. tt)) (λ _. tt)

abbrev lines_bytes : Lines → ℕ
lines_bytes ls = length (show_lines ls)

abbrev block_bytes : Bool → Block → ℕ
block_bytes els b = lines_bytes b.lines + closing els b.close

before_size : (els : Bool) (f : Lines → Lines) (t n : ℕ) (c : List ℕ) (g : Checked Block) → ((ls : Lines) → lines_bytes (f ls) ≡ n + lines_bytes ls) → t ≡ n + length c →
    Sized (block_bytes els) (length c) g → Sized (block_bytes els) t (before_block f g)
before_size els f t n c (taken b d) k e x = omega (arith, k b.lines)
before_size els f t n c (refused m d) k e x = tt

assign_bytes : (w : List ℕ) (t : Term) (ls : Lines) → lines_bytes (assign w t ls) ≡ length w + 4 + term_bytes t + lines_bytes ls
unfolding show_lines
assign_bytes w t ls = simp length-append (omega arith)

draw_bytes : (w : List ℕ) (t : Term) (ls : Lines) → lines_bytes (draw w t ls) ≡ length w + 9 + term_bytes t + lines_bytes ls
unfolding show_lines
draw_bytes w t ls = simp length-append (omega arith)

say_bytes : (t : Term) (ls : Lines) → lines_bytes (say t ls) ≡ 5 + term_bytes t + lines_bytes ls
unfolding show_lines
say_bytes t ls = simp length-append (omega arith)

send_bytes : (t u v : Term) (ls : Lines) → lines_bytes (send t u v ls) ≡ 17 + term_bytes t + term_bytes u + term_bytes v + lines_bytes ls
unfolding show_lines
send_bytes t u v ls = simp length-append (omega arith)

when_bytes : (t : Term) (b ls : Lines) → lines_bytes (when t b ls) ≡ 4 + term_bytes t + (lines_bytes b + 4) + lines_bytes ls
unfolding show_lines
when_bytes t b ls = simp length-append (omega arith)

choose_bytes : (t : Term) (b c ls : Lines) → lines_bytes (choose t b c ls) ≡ 4 + term_bytes t + (lines_bytes b + 5) + (lines_bytes c + 4) + lines_bytes ls
unfolding show_lines
choose_bytes t b c ls = simp length-append (omega arith)

again_bytes : (t : Term) (b ls : Lines) → lines_bytes (again t b ls) ≡ 7 + term_bytes t + (lines_bytes b + 4) + lines_bytes ls
unfolding show_lines
again_bytes t b ls = simp length-append (omega arith)

-- Lines behind their first, where go reads lines.
module _ (go : ℕ → ℕ → Bool → List ℕ → Checked Block) (x : (left deep : ℕ) (els : Bool) (c : List ℕ) → Sized (block_bytes els) (length c) (go left deep els c)) (left deep : ℕ) (els : Bool) (t : ℕ) where
  abbrev shut : Term → Close → Lines → ℕ → List ℕ → Checked Block
  shut u by_end b l d = before_block (when u b) (go l deep els d)
  shut u by_else b l d = then (go l (deep - 1) false d) (λ e f. before_block (choose u b e.lines) (go e.left deep els f))

  shut_size : (u : Term) (k : Close) (b : Lines) (l : ℕ) (d : List ℕ) → t ≡ 4 + term_bytes u + (lines_bytes b + closing true k) + length d → Sized (block_bytes els) t (shut u k b l d)
  shut_size u by_end b l d e = before_size els (when u b) t (4 + term_bytes u + (lines_bytes b + 4)) d (go l deep els d) (when_bytes u b) e (x l deep els d)
  shut_size u by_else b l d e =
      step (block_bytes false) (block_bytes els) t (4 + term_bytes u + (lines_bytes b + 5)) d (go l (deep - 1) false d) _ e (x l (deep - 1) false d) (λ i f e₁.
      before_size els (choose u b i.lines) t (4 + term_bytes u + (lines_bytes b + 5) + (lines_bytes i.lines + 4)) f (go i.left deep els f) (choose_bytes u b i.lines) (omega (arith, closed_by_end i.close)) (x i.left deep els f))

  behind_size : (h : Head) (c : List ℕ) → t ≡ head_bytes els h + length c → Sized (block_bytes els) t (check_behind go left deep els h c)
  unfolding show_lines
  behind_size ends c e = omega arith
  behind_size elses c e = omega arith
  behind_size (assigns w u) c e = before_size els (assign w u) t (length w + 4 + term_bytes u) c (go left deep els c) (assign_bytes w u) e (x left deep els c)
  behind_size (draws w u) c e = before_size els (draw w u) t (length w + 9 + term_bytes u) c (go left deep els c) (draw_bytes w u) e (x left deep els c)
  behind_size (says u) c e = before_size els (say u) t (5 + term_bytes u) c (go left deep els c) (say_bytes u) e (x left deep els c)
  behind_size (sends u v w) c e = before_size els (send u v w) t (17 + term_bytes u + term_bytes v + term_bytes w) c (go left deep els c) (send_bytes u v w) e (x left deep els c)
  behind_size (agains u) c e =
      step (block_bytes false) (block_bytes els) t (7 + term_bytes u) c (go left (deep - 1) false c) _ e (x left (deep - 1) false c) (λ b d e₁.
      before_size els (again u b.lines) t (7 + term_bytes u + (lines_bytes b.lines + 4)) d (go b.left deep els d) (again_bytes u b.lines) (omega (arith, closed_by_end b.close)) (x b.left deep els d))
  behind_size (whens u) c e =
      step (block_bytes true) (block_bytes els) t (4 + term_bytes u) c (go left (deep - 1) true c) _ e (x left (deep - 1) true c) (λ b d e₁. shut_size u b.close b.lines b.left d e₁)

excess_size : {A B : Type 0} (f : B → ℕ) (t : ℕ) (bs : List ℕ) (r : Checked A) → Sized f t (excess bs r)
excess_size f t bs (taken a c) = tt
excess_size f t bs (refused n c) = either f t (leb (length bs - length c) 0) (refused n c) (refused 4 bs) (λ _. tt) (λ _. tt)

lines_size : (names : List (List ℕ)) (n left deep : ℕ) (els : Bool) (bs : List ℕ) → Sized (block_bytes els) (length bs) (check_lines names n left deep els bs)
unfolding check_lines
lines_size names zero left deep els bs = tt
lines_size names (suc n) left deep els bs =
    either (block_bytes els) (length bs) (eqb left 0) (excess bs (check_head names deep els bs)) _ (λ _. excess_size (block_bytes els) (length bs) bs (check_head names deep els bs)) (λ _.
    step (head_bytes els) (block_bytes els) (length bs) 0 bs (in_line bs (check_head names deep els bs)) _ (omega arith) (line_size (head_bytes els) (length bs) bs (check_head names deep els bs) (head_size els names deep bs)) (λ h c e.
    behind_size (check_lines names n) (λ left deep els c. lines_size names n left deep els c) (left - 1) deep els (length bs) h c (omega arith)))

-- Names, the first line of a kind, and a kind.
new_size : (seen : List (List ℕ)) (bs : List ℕ) → Sized length (length bs) (check_new seen bs)
new_size seen bs =
    step length length (length bs) 0 bs (formed (read_name bs)) _ (omega arith) (checked_size is_name (length bs) (read_word bs) (word_size bs)) (λ w c e.
    either length (length bs) (among w seen) (refused 2 bs) (taken w c) (λ _. tt) (λ _. omega arith))

abbrev row_bytes : List (List ℕ) → ℕ
row_bytes ws = length (show_row ws) + 1

row_more : (w : List ℕ) (ws : List (List ℕ)) → row_bytes (w ∷ ws) ≡ 1 + length w + row_bytes ws
unfolding show_row
row_more w ws = simp length-append (omega arith)

names_size : (n : ℕ) (seen : List (List ℕ)) (bs : List ℕ) → Sized row_bytes (length bs) (check_names seen n bs)
unfolding check_names show_row
names_size zero seen bs = step (λ _. 1) row_bytes (length bs) 0 bs (check_literal newline bs) _ (omega arith) (literal_size newline bs) (λ _ c e. omega arith)
names_size (suc n) seen [] = tt
names_size (suc n) seen (b ∷ bs) =
    let T = length (b ∷ bs) in
    either row_bytes T (eqb b 10) _ _ (λ _. omega arith) (λ _.
    either row_bytes T (eqb b 32) _ (refused 1 (b ∷ bs)) (λ _.
    step length row_bytes T 1 bs (check_new seen bs) _ (omega arith) (new_size seen bs) (λ w c e₁.
    step row_bytes row_bytes T (1 + length w) c (check_names (seen ++ w ∷ []) n c) _ e₁ (names_size n (seen ++ w ∷ []) c) (λ ws d e₂. omega (arith, row_more w ws)))) (λ _. tt))

abbrev first_bytes : First → ℕ
first_bytes h = 5 + length h.name + row_bytes h.numbers

first_size : (ks : List Known) (bs : List ℕ) → Sized first_bytes (length bs) (check_first ks bs)
first_size ks bs =
    step (λ _. 5) first_bytes (length bs) 0 bs (check_literal (codes "kind ") bs) _ (omega arith) (literal_size (codes "kind ") bs) (λ _ c e₁.
    step length first_bytes (length bs) (0 + 5) c (check_new _ c) _ e₁ (new_size _ c) (λ w d e₂.
    step row_bytes first_bytes (length bs) (0 + 5 + length w) d (check_names [] most_names d) _ e₂ (names_size most_names [] d) (λ ws f e₃. omega arith)))

abbrev kind_bytes : Counted → ℕ
kind_bytes k = 5 + length k.kind.name + row_bytes k.kind.numbers + (lines_bytes k.kind.lines + 4)

whole_size : (ks : List Known) (left : ℕ) (bs : List ℕ) → Sized kind_bytes (length bs) (check_kind ks left bs)
whole_size ks left bs =
    either kind_bytes (length bs) (eqb left 0) (refused 4 bs) _ (λ _. tt) (λ _.
    step first_bytes kind_bytes (length bs) 0 bs (in_line bs (check_first ks bs)) _ (omega arith) (line_size first_bytes (length bs) bs (check_first ks bs) (first_size ks bs)) (λ h c e₁.
    step (block_bytes false) kind_bytes (length bs) (0 + first_bytes h) c (check_lines h.numbers 4097 (left - 1) most_deep false c) _ e₁ (lines_size h.numbers 4097 (left - 1) most_deep false c) (λ b d e₂.
    omega (arith, closed_by_end b.close))))

pub kind_size : (ks : List Known) (left : ℕ) (bs : List ℕ) (k : Counted) (c : List ℕ) → check_kind ks left bs ≡ taken k c →
    (us : List Kind) → length (show_kinds (k.kind ∷ us)) + length c ≡ length bs + length (show_kinds us)
unfolding show_kinds
kind_size ks left bs k c e us =
    let s : length bs ≡ kind_bytes k + length c = subst (λ g. Sized kind_bytes (length bs) g) e (whole_size ks left bs) in
    simp length-append (omega arith)
