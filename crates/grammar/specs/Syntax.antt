-- What a text is: a tree of kinds, things and messages, and the bytes that show it. Names that are there twice or not at all, numbers that
-- are too large, and the limits are not asked here, but that a kind has at most 64 numbers.
use Rattle.std.specs.Prelude.{◌≡◌, ℕ, Bool, true, false, not, ◌&&◌, ◌||◌, List, [], ◌∷◌, ◌++◌, length, codes, ◌==◌, nat_le}

-- a to z.
abbrev pub is_letter : ℕ → Bool
is_letter b = nat_le 97 b && nat_le b 122

-- 0 to 9.
abbrev pub is_digit : ℕ → Bool
is_digit b = nat_le 48 b && nat_le b 57

-- A byte of a word.
abbrev pub in_word : ℕ → Bool
in_word b = is_letter b || is_digit b

-- All bytes pass a test.
unfoldable pub all : (ℕ → Bool) → List ℕ → Bool
all p [] = true
all p (b ∷ bs) = p b && all p bs

-- The same bytes.
unfoldable pub same : List ℕ → List ℕ → Bool
same [] [] = true
same [] (c ∷ cs) = false
same (b ∷ bs) [] = false
same (b ∷ bs) (c ∷ cs) = b == c && same bs cs

-- One of these.
unfoldable pub among : List ℕ → List (List ℕ) → Bool
among w [] = false
among w (v ∷ vs) = same w v || among w vs

-- The words of the language.
abbrev pub reserved : List (List ℕ)
reserved =
    codes "kind" ∷ codes "say" ∷ codes "send" ∷ codes "to" ∷ codes "after" ∷ codes "if" ∷ codes "else" ∷ codes "end" ∷ codes "again" ∷ codes "thing"
    ∷ codes "message" ∷ codes "draw" ∷ codes "it" ∷ codes "me" ∷ codes "now" ∷ []

-- A word: 1 to 8 letters and digits, a letter first.
abbrev pub is_word : List ℕ → Bool
is_word [] = false
is_word (b ∷ bs) = is_letter b && (all in_word bs && nat_le (length bs) 7)

-- A name: a word that isn't one of the language's.
abbrev pub is_name : List ℕ → Bool
is_name w = is_word w && not (among w reserved)

-- What may stand where a number is wanted: a name, it, me or now.
abbrev pub is_operand : List ℕ → Bool
is_operand w = is_word w && (not (among w reserved) || among w (codes "it" ∷ codes "me" ∷ codes "now" ∷ []))

-- Digits of a number, with no 0 before others.
abbrev pub is_number : List ℕ → Bool
is_number [] = false
is_number (b ∷ bs) = is_digit b && (all is_digit bs && (not (b == 48) || length bs == 0))

-- The seven operations.
pub data Sign : Type 0 where
  plus : Sign
  minus : Sign
  times : Sign
  over : Sign
  remains : Sign
  less : Sign
  equal : Sign

abbrev pub sign_byte : Sign → ℕ
sign_byte plus = 43
sign_byte minus = 45
sign_byte times = 42
sign_byte over = 47
sign_byte remains = 37
sign_byte less = 60
sign_byte equal = 61

-- An expression: digits, a word, or two with a sign between.
pub data Term : Type 0 where
  number : List ℕ → Term
  word : List ℕ → Term
  two : Sign → Term → Term → Term

-- Lines, each but the last with those behind it. send: what, to whom, after how long.
pub data Lines : Type 0 where
  none : Lines
  assign : List ℕ → Term → Lines → Lines
  draw : List ℕ → Term → Lines → Lines
  say : Term → Lines → Lines
  send : Term → Term → Term → Lines → Lines
  when : Term → Lines → Lines → Lines
  choose : Term → Lines → Lines → Lines → Lines
  again : Term → Lines → Lines → Lines

pub record Kind : Type 0 where
  pub name : List ℕ
  pub numbers : List (List ℕ)
  pub lines : Lines

pub record Thing : Type 0 where
  pub kind : List ℕ
  pub numbers : List (List ℕ)

pub record Note : Type 0 where
  pub time : List ℕ
  pub to : List ℕ
  pub number : List ℕ

pub record Text : Type 0 where
  pub kinds : List Kind
  pub things : List Thing
  pub notes : List Note

-- The byte that ends a line.
abbrev pub newline : List ℕ
newline = 10 ∷ []

-- How each is shown: this is the table of the language.
unfoldable pub show_term : Term → List ℕ
show_term (number ds) = ds
show_term (word w) = w
show_term (two s t u) = codes "(" ++ (show_term t ++ (codes " " ++ (sign_byte s ∷ (codes " " ++ (show_term u ++ codes ")")))))

unfoldable pub show_lines : Lines → List ℕ
show_lines none = []
show_lines (assign w t ls) = w ++ (codes " = " ++ (show_term t ++ (newline ++ show_lines ls)))
show_lines (draw w t ls) = w ++ (codes " = draw " ++ (show_term t ++ (newline ++ show_lines ls)))
show_lines (say t ls) = codes "say " ++ (show_term t ++ (newline ++ show_lines ls))
show_lines (send t u v ls) =
    codes "send " ++ (show_term t ++ (codes " to " ++ (show_term u ++ (codes " after " ++ (show_term v ++ (newline ++ show_lines ls))))))
show_lines (when t b ls) = codes "if " ++ (show_term t ++ (newline ++ (show_lines b ++ (codes "end" ++ (newline ++ show_lines ls)))))
show_lines (choose t b c ls) =
    codes "if " ++ (show_term t ++ (newline ++ (show_lines b ++ (codes "else" ++ (newline ++ (show_lines c ++ (codes "end" ++ (newline ++ show_lines ls))))))))
show_lines (again t b ls) = codes "again " ++ (show_term t ++ (newline ++ (show_lines b ++ (codes "end" ++ (newline ++ show_lines ls)))))

-- Each after a space.
unfoldable pub show_row : List (List ℕ) → List ℕ
show_row [] = []
show_row (w ∷ ws) = codes " " ++ (w ++ show_row ws)

unfoldable pub show_kinds : List Kind → List ℕ
show_kinds [] = []
show_kinds (k ∷ ks) = codes "kind " ++ (k.name ++ (show_row k.numbers ++ (newline ++ (show_lines k.lines ++ (codes "end" ++ (newline ++ show_kinds ks))))))

unfoldable pub show_things : List Thing → List ℕ
show_things [] = []
show_things (t ∷ ts) = codes "thing " ++ (t.kind ++ (show_row t.numbers ++ (newline ++ show_things ts)))

unfoldable pub show_notes : List Note → List ℕ
show_notes [] = []
show_notes (n ∷ ns) = codes "message " ++ (n.time ++ (codes " " ++ (n.to ++ (codes " " ++ (n.number ++ (newline ++ show_notes ns))))))

unfoldable pub show : Text → List ℕ
show t = show_kinds t.kinds ++ (show_things t.things ++ show_notes t.notes)

-- Its words are words of the right kind, and its digits are numbers.
unfoldable pub spelled_term : Term → Bool
spelled_term (number ds) = is_number ds
spelled_term (word w) = is_operand w
spelled_term (two s t u) = spelled_term t && spelled_term u

unfoldable pub spelled_lines : Lines → Bool
spelled_lines none = true
spelled_lines (assign w t ls) = is_name w && (spelled_term t && spelled_lines ls)
spelled_lines (draw w t ls) = is_name w && (spelled_term t && spelled_lines ls)
spelled_lines (say t ls) = spelled_term t && spelled_lines ls
spelled_lines (send t u v ls) = spelled_term t && (spelled_term u && (spelled_term v && spelled_lines ls))
spelled_lines (when t b ls) = spelled_term t && (spelled_lines b && spelled_lines ls)
spelled_lines (choose t b c ls) = spelled_term t && (spelled_lines b && (spelled_lines c && spelled_lines ls))
spelled_lines (again t b ls) = spelled_term t && (spelled_lines b && spelled_lines ls)

unfoldable pub every : {A : Type 0} → (A → Bool) → List A → Bool
every p [] = true
every p (x ∷ xs) = p x && every p xs

-- So too of a kind, and it has at most 64 numbers.
abbrev pub spelled_kind : Kind → Bool
spelled_kind k = is_name k.name && (every is_name k.numbers && (nat_le (length k.numbers) 64 && spelled_lines k.lines))

abbrev pub spelled_thing : Thing → Bool
spelled_thing t = is_name t.kind && every is_number t.numbers

abbrev pub spelled_note : Note → Bool
spelled_note n = is_number n.time && (is_number n.to && is_number n.number)

abbrev pub spelled : Text → Bool
spelled t = every spelled_kind t.kinds && (every spelled_thing t.things && every spelled_note t.notes)

-- These bytes are a text: they show a tree that is well spelled.
pub record IsText (bs : List ℕ) (t : Text) : Type 0 where
  pub shows : show t ≡ bs
  pub well_spelled : spelled t ≡ true
