-- What is read of a good text from where it stands, and written of it.
use Rattle.std.specs.Prelude.{◌≡◌, ℕ, suc, ◌+◌, ◌-◌, ◌%◌, ◌<◌, ◌≤◌, Bool, true, false, cond, ◌&&◌, List, [], ◌∷◌, ◌++◌, map, length, codes, ◌==◌, ◌≢◌, slice_index}
use Rattle.body.specs.Encode.{encode_expr, encode}
use Rattle.grammar.specs.Syntax as text
use Rattle.grammar.specs.Syntax.{in_word, is_word, is_name, is_number, is_operand, every, Term, show_term, spelled_term, Lines, show_lines, spelled_lines}
use Rattle.grammar.specs.Check.{decimal}
use Rattle.grammar.specs.Rules.{small, right_term, right_lines}
use Rattle.words.specs.declared.Word.{Word}
use Rattle.words.specs.declared.Word.TheVariants.{Say, Send, Name}
use Rattle.words.specs.Words.{pack, word_of}
use Rattle.text.specs.Named.{index_of, expr, body}
use Rattle.text.specs.Writes.{Row, writes}

-- The place of a packed word in a row, or the length of the row if it isn't there.
unfoldable pub place_of : ℕ → List ℕ → ℕ
place_of p [] = 0
place_of p (q ∷ qs) = cond (p == q) 0 (suc (place_of p qs))

-- If a word stands in front and no byte of a word behind it, it is read as one, and reading goes on behind it.
abbrev pub WordAt : List ℕ → Word → List ℕ → Type 0
WordAt bs word bs' =
    (w k : List ℕ) (b : ℕ) → bs ≡ w ++ b ∷ k → is_word w ≡ true → in_word b ≡ false → (word ≡ word_of w) × (bs' ≡ b ∷ k)

-- So too of other bytes, if they are good, as some value.
abbrev pub ReadAt : {A : Type 0} → (List ℕ → Bool) → (List ℕ → A) → List ℕ → A → List ℕ → Type 0
ReadAt good value bs x bs' =
    (w k : List ℕ) (b : ℕ) → bs ≡ w ++ b ∷ k → good w ≡ true → in_word b ≡ false → (x ≡ value w) × (bs' ≡ b ∷ k)

-- A name, packed.
abbrev pub NameAt : List ℕ → ℕ → List ℕ → Type 0
NameAt = ReadAt is_name pack

-- The digits of a number below 2^32.
abbrev pub is_small : List ℕ → Bool
is_small ds = is_number ds && small ds

-- A number, by its digits.
abbrev pub NumberAt : List ℕ → ℕ → List ℕ → Type 0
NumberAt = ReadAt is_small (decimal 0)

-- Names that are packed in a row.
pub record Packed (ns : List (List ℕ)) (ps : List ℕ) : Type 0 where
  pub packed : map pack ns ≡ ps
  pub are_names : every is_name ns ≡ true

-- The words of an expression are written, and reading goes on behind it.
abbrev pub TermAt : List ℕ → List ℕ → ℕ → Row ℕ → List ℕ → Row ℕ → Type 0
TermAt bs ps depth r bs' r' =
    (ns : List (List ℕ)) (t : Term) (k : List ℕ) (b : ℕ) → Packed ns ps → bs ≡ show_term t ++ b ∷ k → spelled_term t ≡ true → right_term ns t ≡ true →
    in_word b ≡ false → length (show_term t) ≤ depth → (bs' ≡ b ∷ k) × (r' ≡ writes (encode_expr (expr ns t)) r)

-- So too of a word that stands for a number.
abbrev pub OperandAt : List ℕ → Word → Row ℕ → Row ℕ → Type 0
OperandAt ps word r r' =
    (ns : List (List ℕ)) (w : List ℕ) → Packed ns ps → word ≡ word_of w → is_operand w ≡ true → r' ≡ writes (encode_expr (expr ns (text.word w))) r

-- The word that opens an operation, by its sign.
abbrev pub sign_word : ℕ → ℕ
sign_word b =
    cond (b == 43) 5 (cond (b == 45) 6 (cond (b == 42) 7 (cond (b == 47) 8 (cond (b == 37) 9 (cond (b == 60) 10 (cond (b == 61) 11 0))))))

-- Reading goes on at k, and these words are written.
abbrev pub Wrote : List ℕ → List ℕ → List ℕ → Row ℕ → Row ℕ → Type 0
Wrote bs' k ws r r' = (bs' ≡ k) × (r' ≡ writes ws r)

-- An expression, however deep.
abbrev pub ExprAt : List ℕ → List ℕ → Row ℕ → List ℕ → Row ℕ → Type 0
ExprAt bs ps r bs' r' =
    (ns : List (List ℕ)) (t : Term) (k : List ℕ) (b : ℕ) → Packed ns ps → bs ≡ show_term t ++ b ∷ k → spelled_term t ≡ true → right_term ns t ≡ true →
    in_word b ≡ false → Wrote bs' (b ∷ k) (encode_expr (expr ns t)) r r'

-- One that doesn't begin with a parenthesis.
abbrev pub PlainAt : List ℕ → List ℕ → Row ℕ → List ℕ → Row ℕ → Type 0
PlainAt bs ps r bs' r' = (slice_index bs 0 ≢ 40) → ExprAt bs ps r bs' r'

-- A space and an expression that ends the line.
abbrev pub HeadAt : List ℕ → List ℕ → Row ℕ → List ℕ → Row ℕ → Type 0
HeadAt bs ps r bs' r' =
    (ns : List (List ℕ)) (t : Term) (k : List ℕ) → Packed ns ps → bs ≡ 32 ∷ (show_term t ++ 10 ∷ k) → spelled_term t ≡ true → right_term ns t ≡ true →
    Wrote bs' k (encode_expr (expr ns t)) r r'

-- Behind say.
abbrev pub SayAt : List ℕ → List ℕ → Row ℕ → List ℕ → Row ℕ → Type 0
SayAt bs ps r bs' r' =
    (ns : List (List ℕ)) (t : Term) (k : List ℕ) → Packed ns ps → bs ≡ 32 ∷ (show_term t ++ 10 ∷ k) → spelled_term t ≡ true → right_term ns t ≡ true →
    Wrote bs' k (3 ∷ encode_expr (expr ns t)) r r'

-- Behind send: the words of the delay come first, those of what is sent last.
abbrev pub SendAt : List ℕ → List ℕ → Row ℕ → List ℕ → Row ℕ → Type 0
SendAt bs ps r bs' r' =
    (ns : List (List ℕ)) (t u v : Term) (k : List ℕ) → Packed ns ps →
    bs ≡ 32 ∷ (show_term t ++ (codes " to " ++ (show_term u ++ (codes " after " ++ (show_term v ++ 10 ∷ k))))) →
    spelled_term t ≡ true → spelled_term u ≡ true → spelled_term v ≡ true → right_term ns t ≡ true → right_term ns u ≡ true → right_term ns v ≡ true →
    Wrote bs' k (4 ∷ encode_expr (expr ns v) ++ encode_expr (expr ns u) ++ encode_expr (expr ns t)) r r'

-- Whether draw stands in front, and not an expression that ends the line.
pub record DrawAt (bs : List ℕ) (b : Bool) : Type 0 where
  pub drawn : (k : List ℕ) → bs ≡ codes "draw" ++ 32 ∷ k → b ≡ true
  pub not_drawn : (t : Term) (k : List ℕ) → bs ≡ show_term t ++ 10 ∷ k → spelled_term t ≡ true → b ≡ false

-- Behind the name of the number that is assigned.
pub record PutAt (bs : List ℕ) (p : ℕ) (ps : List ℕ) (r : Row ℕ) (bs' : List ℕ) (r' : Row ℕ) : Type 0 where
  pub assigns : (ns : List (List ℕ)) (w : List ℕ) (t : Term) (k : List ℕ) → Packed ns ps → p ≡ pack w → is_word w ≡ true →
      bs ≡ 32 ∷ 61 ∷ 32 ∷ (show_term t ++ 10 ∷ k) → spelled_term t ≡ true → right_term ns t ≡ true →
      Wrote bs' k (1 ∷ index_of w ns ∷ encode_expr (expr ns t)) r r'
  pub draws : (ns : List (List ℕ)) (w : List ℕ) (t : Term) (k : List ℕ) → Packed ns ps → p ≡ pack w → is_word w ≡ true →
      bs ≡ 32 ∷ 61 ∷ 32 ∷ (codes "draw" ++ 32 ∷ (show_term t ++ 10 ∷ k)) → spelled_term t ≡ true → right_term ns t ≡ true →
      Wrote bs' k (2 ∷ index_of w ns ∷ encode_expr (expr ns t)) r r'

-- A line with no lines in it, behind its first word.
pub record SimpleAt (bs : List ℕ) (word : Word) (ps : List ℕ) (r : Row ℕ) (bs' : List ℕ) (r' : Row ℕ) : Type 0 where
  pub says : word ≡ Say → SayAt bs ps r bs' r'
  pub sends : word ≡ Send → SendAt bs ps r bs' r'
  pub puts : (p : ℕ) → word ≡ Name p → PutAt bs p ps r bs' r'

-- How lines close, by else or by end, with k behind.
abbrev pub closing : Bool → List ℕ → List ℕ
closing true k = codes "else" ++ 10 ∷ k
closing false k = codes "end" ++ 10 ∷ k

-- There are places for these words, and their number fits a word.
abbrev pub Room : List ℕ → Row ℕ → Type 0
Room ws r = (r.used + length ws ≤ length r.items) × (length ws < 4294967296)

-- Lines up to what closes them, which is left to read.
abbrev pub LinesAt : List ℕ → List ℕ → ℕ → Row ℕ → List ℕ → Row ℕ → Type 0
LinesAt bs ps most r bs' r' =
    (ns : List (List ℕ)) (ls : Lines) (c : Bool) (k : List ℕ) → Packed ns ps → bs ≡ show_lines ls ++ closing c k → spelled_lines ls ≡ true →
    right_lines ns ls ≡ true → length (show_lines ls) < most → Room (encode (body ns ls)) r → Wrote bs' (closing c k) (encode (body ns ls)) r r'

-- The words of a branch and of a repeat, without those of the lines behind.
abbrev pub branch_words : List ℕ → List ℕ → List ℕ → List ℕ
branch_words e b c = 5 ∷ length b ∷ length c ∷ e ++ b ++ c

abbrev pub repeat_words : List ℕ → List ℕ → List ℕ
repeat_words e b = 6 ∷ length b ∷ e ++ b

-- A branch behind if, up to the lines behind it, where the lines in it have fewer bytes than most.
pub record BranchAt (bs : List ℕ) (ps : List ℕ) (most : ℕ) (r : Row ℕ) (bs' : List ℕ) (r' : Row ℕ) : Type 0 where
  pub whens : (ns : List (List ℕ)) (t : Term) (b : Lines) (k : List ℕ) → Packed ns ps → bs ≡ 32 ∷ (show_term t ++ 10 ∷ (show_lines b ++ closing false k)) →
      spelled_term t ≡ true → spelled_lines b ≡ true → right_term ns t ≡ true → right_lines ns b ≡ true → length (show_lines b) < most →
      Room (branch_words (encode_expr (expr ns t)) (encode (body ns b)) (0 ∷ [])) r → Wrote bs' k (branch_words (encode_expr (expr ns t)) (encode (body ns b)) (0 ∷ [])) r r'
  pub chooses : (ns : List (List ℕ)) (t : Term) (b d : Lines) (k : List ℕ) → Packed ns ps →
      bs ≡ 32 ∷ (show_term t ++ 10 ∷ (show_lines b ++ closing true (show_lines d ++ closing false k))) → spelled_term t ≡ true → spelled_lines b ≡ true → spelled_lines d ≡ true →
      right_term ns t ≡ true → right_lines ns b ≡ true → right_lines ns d ≡ true → length (show_lines b) < most → length (show_lines d) < most →
      Room (branch_words (encode_expr (expr ns t)) (encode (body ns b)) (encode (body ns d))) r →
      Wrote bs' k (branch_words (encode_expr (expr ns t)) (encode (body ns b)) (encode (body ns d))) r r'

-- So too of a repeat, behind again.
abbrev pub RepeatAt : List ℕ → List ℕ → ℕ → Row ℕ → List ℕ → Row ℕ → Type 0
RepeatAt bs ps most r bs' r' =
    (ns : List (List ℕ)) (t : Term) (b : Lines) (k : List ℕ) → Packed ns ps → bs ≡ 32 ∷ (show_term t ++ 10 ∷ (show_lines b ++ closing false k)) → spelled_term t ≡ true →
    spelled_lines b ≡ true → right_term ns t ≡ true → right_lines ns b ≡ true → length (show_lines b) < most → Room (repeat_words (encode_expr (expr ns t)) (encode (body ns b))) r →
    Wrote bs' k (repeat_words (encode_expr (expr ns t)) (encode (body ns b))) r r'

-- How many places lie between two, if that fits a word.
abbrev pub between : ℕ → ℕ → ℕ
between a b = (b - a) % 4294967296
