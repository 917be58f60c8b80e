-- How a text is read, byte by byte from the left: the tree that it shows, or the first byte at which no text goes on so.
use Rattle.std.specs.Prelude.{ℕ, zero, suc, Bool, true, false, cond, List, [], ◌∷◌, ◌++◌, length, codes, ◌==◌}
use Rattle.grammar.specs.Syntax.{is_letter, is_digit, in_word, is_name, is_operand, same, newline, Sign, plus, minus, times, over, remains, less, equal, Term, number, word, two, Lines, none, assign, draw, say, send, when, choose, again, Kind, Thing, Note, Text}

-- What was read and the bytes behind it; or the bytes from the one on at which no text goes on so.
pub data Got (A : Type 0) : Type 0 where
  got : A → List ℕ → Got A
  bad : List ℕ → Got A

-- One thing read after the other.
abbrev pub and_then : {A B : Type 0} → Got A → (A → List ℕ → Got B) → Got B
and_then (got a bs) f = f a bs
and_then (bad bs) f = bad bs

-- Just these bytes.
unfoldable pub expect : List ℕ → List ℕ → Got (Unit {0})
expect [] bs = got tt bs
expect (c ∷ cs) [] = bad []
expect (c ∷ cs) (b ∷ bs) = cond (b == c) (expect cs bs) (bad (b ∷ bs))

-- At most n more bytes of a word that begins with w; one more than that is bad.
unfoldable pub more_word : ℕ → List ℕ → List ℕ → Got (List ℕ)
more_word n w [] = got w []
more_word zero w (b ∷ bs) = cond (in_word b) (bad (b ∷ bs)) (got w (b ∷ bs))
more_word (suc n) w (b ∷ bs) = cond (in_word b) (more_word n (w ++ b ∷ []) bs) (got w (b ∷ bs))

-- A word of at most 8 bytes, a letter first.
unfoldable pub read_word : List ℕ → Got (List ℕ)
read_word [] = bad []
read_word (b ∷ bs) = cond (is_letter b) (more_word 7 (b ∷ []) bs) (bad (b ∷ bs))

-- A word that passes a test; else the byte behind it is bad, since the word might have gone on.
abbrev pub checked : (List ℕ → Bool) → Got (List ℕ) → Got (List ℕ)
checked p g = and_then g (λ w bs. cond (p w) (got w bs) (bad bs))

abbrev pub read_name : List ℕ → Got (List ℕ)
read_name bs = checked is_name (read_word bs)

-- More digits of a number that begins with ds.
unfoldable pub more_digits : List ℕ → List ℕ → Got (List ℕ)
more_digits ds [] = got ds []
more_digits ds (b ∷ bs) = cond (is_digit b) (more_digits (ds ++ b ∷ []) bs) (got ds (b ∷ bs))

-- Nothing that goes on the number 0.
unfoldable pub after_zero : List ℕ → Got (List ℕ)
after_zero [] = got (48 ∷ []) []
after_zero (b ∷ bs) = cond (is_digit b) (bad (b ∷ bs)) (got (48 ∷ []) (b ∷ bs))

-- The digits of a number, with no 0 before others.
unfoldable pub read_number : List ℕ → Got (List ℕ)
read_number [] = bad []
read_number (b ∷ bs) = cond (b == 48) (after_zero bs) (cond (is_digit b) (more_digits (b ∷ []) bs) (bad (b ∷ bs)))

-- The sign of an operation.
unfoldable pub read_sign : List ℕ → Got Sign
read_sign [] = bad []
read_sign (b ∷ bs) =
    cond (b == 43) (got plus bs) (cond (b == 45) (got minus bs) (cond (b == 42) (got times bs) (cond (b == 47) (got over bs)
    (cond (b == 37) (got remains bs) (cond (b == 60) (got less bs) (cond (b == 61) (got equal bs) (bad (b ∷ bs))))))))

-- Two expressions with a sign between, behind the parenthesis that opens; go reads an expression.
abbrev pub read_two : (List ℕ → Got Term) → List ℕ → Got Term
read_two go bs =
    and_then (go bs) (λ t c. and_then (expect (codes " ") c) (λ _ d. and_then (read_sign d) (λ s e. and_then (expect (codes " ") e) (λ _ f.
    and_then (go f) (λ u g. and_then (expect (codes ")") g) (λ _ h. got (two s t u) h))))))

-- A number or a word, or what passes for one.
abbrev pub read_plain : List ℕ → Got Term
read_plain [] = bad []
read_plain (b ∷ bs) =
    cond (is_letter b) (and_then (checked is_operand (read_word (b ∷ bs))) (λ w c. got (word w) c))
    (and_then (read_number (b ∷ bs)) (λ ds c. got (number ds) c))

-- An expression, at most n deep.
unfoldable pub read_term : ℕ → List ℕ → Got Term
read_term zero bs = bad bs
read_term (suc n) [] = bad []
read_term (suc n) (b ∷ bs) = cond (b == 40) (read_two (read_term n) bs) (read_plain (b ∷ bs))

-- An expression, however deep.
abbrev pub read_expr : List ℕ → Got Term
read_expr bs = read_term (suc (length bs)) bs

-- An expression that ends the line.
abbrev pub read_last : List ℕ → Got Term
read_last bs = and_then (read_expr bs) (λ t c. and_then (expect newline c) (λ _ d. got t d))

-- How lines close: by end, or by else.
pub data Close : Type 0 where
  by_end : Close
  by_else : Close

pub record Block : Type 0 where
  pub lines : Lines
  pub close : Close

-- One line more in front.
abbrev pub before_block : (Lines → Lines) → Got Block → Got Block
before_block f g = and_then g (λ b c. got (record { lines = f b.lines; close = b.close }) c)

-- Behind a name at the front of a line: it is assigned an expression, or a draw; go reads the lines behind.
abbrev pub read_assign : (List ℕ → Got Block) → List ℕ → List ℕ → Got Block
read_assign go w bs =
    and_then (expect (codes " = ") bs) (λ _ c. by_first c)
  where
    drawn : List ℕ → List ℕ → Got Block
    drawn v d =
        cond (same v (codes "draw"))
        (and_then (expect (codes " ") d) (λ _ e. and_then (read_last e) (λ t f. before_block (draw w t) (go f))))
        (cond (is_operand v) (and_then (expect newline d) (λ _ e. before_block (assign w (word v)) (go e))) (bad d))

    by_first : List ℕ → Got Block
    by_first [] = bad []
    by_first (b ∷ c) =
        cond (is_letter b) (and_then (read_word (b ∷ c)) drawn) (and_then (read_last (b ∷ c)) (λ t d. before_block (assign w t) (go d)))

-- Behind the word at the front of a line. go b reads the lines behind it, which may close by else if b; els says whether these may.
abbrev pub read_by : (Bool → List ℕ → Got Block) → Bool → List ℕ → List ℕ → Got Block
read_by go els w bs =
    cond (same w (codes "end")) (and_then (expect newline bs) (λ _ c. got (record { lines = none; close = by_end }) c))
    (cond (same w (codes "else")) (cond els (and_then (expect newline bs) (λ _ c. got (record { lines = none; close = by_else }) c)) (bad bs))
    (cond (same w (codes "say")) (and_then (expect (codes " ") bs) (λ _ c. and_then (read_last c) (λ t d. before_block (say t) (go els d))))
    (cond (same w (codes "send"))
    (and_then (expect (codes " ") bs) (λ _ c. and_then (read_expr c) (λ t d. and_then (expect (codes " to ") d) (λ _ e. and_then (read_expr e) (λ u f.
    and_then (expect (codes " after ") f) (λ _ g. and_then (read_last g) (λ v h. before_block (send t u v) (go els h))))))))
    (cond (same w (codes "if")) (and_then (expect (codes " ") bs) (λ _ c. and_then (read_last c) (λ t d. and_then (go true d) (λ b e. by_close t b e))))
    (cond (same w (codes "again"))
    (and_then (expect (codes " ") bs) (λ _ c. and_then (read_last c) (λ t d. and_then (go false d) (λ b e. before_block (again t b.lines) (go els e)))))
    (cond (is_name w) (read_assign (go els) w bs) (bad bs)))))))
  where
    closed : Close → Term → Lines → List ℕ → Got Block
    closed by_end t b e = before_block (when t b) (go els e)
    closed by_else t b e = and_then (go false e) (λ c f. before_block (choose t b c.lines) (go els f))

    by_close : Term → Block → List ℕ → Got Block
    by_close t b e = closed b.close t b.lines e

-- Lines up to the end that closes them, or the else, if that may be; at most n of them.
unfoldable pub read_lines : ℕ → Bool → List ℕ → Got Block
read_lines zero els bs = bad bs
read_lines (suc n) els bs = and_then (read_word bs) (read_by (read_lines n) els)

-- The end of the line; or a space and one more, and those behind it, which go reads.
abbrev pub read_next : (List ℕ → Got (List ℕ)) → (List ℕ → Got (List (List ℕ))) → List ℕ → Got (List (List ℕ))
read_next one go [] = bad []
read_next one go (b ∷ bs) =
    cond (b == 10) (got [] bs) (cond (b == 32) (and_then (one bs) (λ w c. and_then (go c) (λ ws d. got (w ∷ ws) d))) (bad (b ∷ bs)))

-- Each after a space, up to the end of the line; at most n.
unfoldable pub read_row : (List ℕ → Got (List ℕ)) → ℕ → List ℕ → Got (List (List ℕ))
read_row one zero bs = bad bs
read_row one (suc n) bs = read_next one (read_row one n) bs

-- Each after a space, up to the end of the line; behind n of them only the end of the line.
unfoldable pub read_upto : (List ℕ → Got (List ℕ)) → ℕ → List ℕ → Got (List (List ℕ))
read_upto one zero bs = and_then (expect newline bs) (λ _ c. got [] c)
read_upto one (suc n) bs = read_next one (read_upto one n) bs

-- A kind behind its first word, with at most 64 numbers.
abbrev pub read_kind : List ℕ → Got Kind
read_kind bs =
    and_then (read_name bs) (λ w c. and_then (read_upto read_name 64 c) (λ ws d. and_then (read_lines (suc (length d)) false d) (λ b e.
    got (record { name = w; numbers = ws; lines = b.lines }) e)))

abbrev pub read_thing : List ℕ → Got Thing
read_thing bs = and_then (read_name bs) (λ w c. and_then (read_row read_number (suc (length c)) c) (λ ws d. got (record { kind = w; numbers = ws }) d))

abbrev pub read_note : List ℕ → Got Note
read_note bs =
    and_then (read_number bs) (λ t c. and_then (expect (codes " ") c) (λ _ d. and_then (read_number d) (λ f e. and_then (expect (codes " ") e) (λ _ g.
    and_then (read_number g) (λ k h. and_then (expect newline h) (λ _ i. got (record { time = t; to = f; number = k }) i))))))

-- Messages up to the end of the bytes; at most n.
unfoldable pub read_notes : ℕ → List ℕ → Got (List Note)
read_notes zero bs = bad bs
read_notes (suc n) [] = got [] []
read_notes (suc n) (b ∷ bs) =
    and_then (expect (codes "message ") (b ∷ bs)) (λ _ c. and_then (read_note c) (λ x d. and_then (read_notes n d) (λ xs e. got (x ∷ xs) e)))

-- Things, and the messages behind them.
unfoldable pub read_things : ℕ → List ℕ → Got Text
read_things zero bs = bad bs
read_things (suc n) [] = got (record { kinds = []; things = []; notes = [] }) []
read_things (suc n) (b ∷ bs) =
    cond (b == 116)
    (and_then (expect (codes "thing ") (b ∷ bs)) (λ _ c. and_then (read_thing c) (λ x d. and_then (read_things n d) (λ t e.
    got (record { kinds = []; things = x ∷ t.things; notes = t.notes }) e))))
    (and_then (read_notes (suc n) (b ∷ bs)) (λ ns c. got (record { kinds = []; things = []; notes = ns }) c))

-- Kinds, and the things and messages behind them.
unfoldable pub read_kinds : ℕ → List ℕ → Got Text
read_kinds zero bs = bad bs
read_kinds (suc n) [] = got (record { kinds = []; things = []; notes = [] }) []
read_kinds (suc n) (b ∷ bs) =
    cond (b == 107)
    (and_then (expect (codes "kind ") (b ∷ bs)) (λ _ c. and_then (read_kind c) (λ x d. and_then (read_kinds n d) (λ t e.
    got (record { kinds = x ∷ t.kinds; things = t.things; notes = t.notes }) e))))
    (read_things (suc n) (b ∷ bs))

-- A whole text.
unfoldable pub parse : List ℕ → Got Text
parse bs = read_kinds (suc (length bs)) bs
