-- What workers write to each other, in bytes.
use Rattle.std.specs.Prelude.{◌≡◌, ℕ, zero, suc, ◌+◌, ◌-◌, ◌*◌, ◌/◌, ◌%◌, ◌^◌, Bool, true, cond, ◌&&◌, List, [], ◌∷◌, ◌++◌, length, take, drop, Some, None, Option, ◌==◌, nat_le, nat_lt, slice_index, slice_range}
use Rattle.meaning.specs.declared.Message.{Message}
use Rattle.meaning.specs.declared.Line.{Line}
use Rattle.checker.specs.declared.Refusal.{Refusal}
use Rattle.checker.specs.declared.Rule.TheVariants as Rule
use Rattle.letters.specs.declared.Tag.{Tag}
use Rattle.letters.specs.declared.Letter.{Letter}
use Rattle.letters.specs.declared.Letter.TheVariants.{Tell, Lines, Printed}

-- A number in so many bytes, the lowest first.
unfoldable pub little : ℕ → ℕ → List ℕ
little n zero = []
little n (suc k) = n % 256 ∷ little (n / 256) k

-- The number that bytes stand for, the lowest first.
unfoldable pub value_of : List ℕ → ℕ
value_of [] = 0
value_of (b ∷ bs) = b + 256 * value_of bs

-- The number in so many bytes from a place on.
abbrev pub number_at : List ℕ → ℕ → ℕ → ℕ
number_at bs at k = value_of (take k (drop at bs))

-- A list with others written over it from a place on.
abbrev pub put : List ℕ → ℕ → List ℕ → List ℕ
put out at bs = take at out ++ (bs ++ drop (at + length bs) out)

-- One message: its time, to, from, count and number.
unfoldable pub message_bytes : Message → List ℕ
message_bytes m = little m.time 8 ++ (little m.to 4 ++ (little m.from 4 ++ (little m.count 8 ++ little m.number 4)))

-- One line: its time, process and number.
unfoldable pub line_bytes : Line → List ℕ
line_bytes l = little l.time 8 ++ (little l.process 4 ++ little l.number 4)

-- The message that the first 28 bytes are.
abbrev pub message_of : List ℕ → Message
message_of bs =
    record { time = number_at bs 0 8; to = number_at bs 8 4; from = number_at bs 12 4; count = number_at bs 16 8; number = number_at bs 24 4 }

-- The line that the first 16 bytes are.
abbrev pub line_of : List ℕ → Line
line_of bs = record { time = number_at bs 0 8; process = number_at bs 8 4; number = number_at bs 12 4 }

-- Whether the fields of a message fit their types.
abbrev pub message_fits : Message → Bool
message_fits m = nat_lt m.time (2 ^ 64) && (nat_lt m.to (2 ^ 32) && (nat_lt m.from (2 ^ 32) && (nat_lt m.count (2 ^ 64) && nat_lt m.number (2 ^ 32))))

-- Whether the fields of a line fit their types.
abbrev pub line_fits : Line → Bool
line_fits l = nat_lt l.time (2 ^ 64) && (nat_lt l.process (2 ^ 32) && nat_lt l.number (2 ^ 32))

-- How many bytes stand before what a letter carries.
abbrev pub head : Letter → ℕ
head (Tell from epoch earliest heard start finished count) = 36
head (Lines from first time process count) = 23
head (Printed from upto) = 10

-- How many bytes a letter carries.
abbrev pub carries : Letter → ℕ
carries (Tell from epoch earliest heard start finished count) = count * 28
carries (Lines from first time process count) = count * 16
carries (Printed from upto) = 0

-- How many bytes a letter takes with what it carries.
abbrev pub size : Letter → ℕ
size l = head l + carries l

-- A flag as a byte.
abbrev pub flag : Bool → ℕ
flag b = cond b 1 0

-- The bytes of a letter before what it carries.
unfoldable pub head_bytes : Letter → List ℕ
head_bytes (Tell from epoch earliest heard start finished count) =
    1 ∷ from ∷ (little epoch 8 ++ (little earliest 8 ++ (little heard 8 ++ (little start 8 ++ (flag finished ∷ count ∷ [])))))
head_bytes (Lines from first time process count) = 2 ∷ from ∷ (little first 8 ++ (little time 8 ++ (little process 4 ++ (count ∷ []))))
head_bytes (Printed from upto) = 3 ∷ from ∷ little upto 8

-- A letter and what it carries, in bytes.
abbrev pub letter_bytes : Letter → List ℕ → List ℕ
letter_bytes l c = head_bytes l ++ c

-- Whether the fields of a letter fit their types.
abbrev pub fits : Letter → Bool
fits (Tell from epoch earliest heard start finished count) = nat_lt epoch (2 ^ 64) && (nat_lt earliest (2 ^ 64) && (nat_lt heard (2 ^ 64) && nat_lt start (2 ^ 64)))
fits (Lines from first time process count) = nat_lt first (2 ^ 64) && (nat_lt time (2 ^ 64) && nat_lt process (2 ^ 32))
fits (Printed from upto) = nat_lt upto (2 ^ 64)

-- Whether the sender and the count are in bounds.
abbrev pub in_bounds : Letter → Bool
in_bounds (Tell from epoch earliest heard start finished count) = nat_lt from 64 && nat_le count 35
in_bounds (Lines from first time process count) = nat_lt from 64 && nat_le count 62
in_bounds (Printed from upto) = nat_lt from 64

-- Whether a letter may be written with what it carries: its fields fit and are in bounds, and it carries as many bytes as it says.
abbrev pub well_formed : Letter → List ℕ → Bool
well_formed l c = fits l && (in_bounds l && length c == carries l)

-- The letter that bytes are by their places, whatever they are: for each tag.
abbrev pub tell_of : List ℕ → Letter
tell_of bs =
    Tell (slice_index bs 1) (number_at bs 2 8) (number_at bs 10 8) (number_at bs 18 8) (number_at bs 26 8) (slice_index bs 34 == 1) (slice_index bs 35)

abbrev pub lines_of : List ℕ → Letter
lines_of bs = Lines (slice_index bs 1) (number_at bs 2 8) (number_at bs 10 8) (number_at bs 18 4) (slice_index bs 22)

abbrev pub printed_of : List ℕ → Letter
printed_of bs = Printed (slice_index bs 1) (number_at bs 2 8)

-- A letter, if it is in bounds and takes so many bytes.
abbrev pub kept : ℕ → Letter → Option Letter
kept n l = cond (in_bounds l && n == size l) (Some l) None

-- A letter that tells, if its flag is 0 or 1.
abbrev pub told : List ℕ → Option Letter
told bs = cond (nat_lt (slice_index bs 34) 2) (kept (length bs) (tell_of bs)) None

-- The letter that bytes are, if they are one.
unfoldable pub letter_of : List ℕ → Option Letter
letter_of bs =
    cond (slice_index bs 0 == 1) (told bs) (cond (slice_index bs 0 == 2) (kept (length bs) (lines_of bs)) (cond (slice_index bs 0 == 3) (kept (length bs) (printed_of bs)) None))

-- The last bytes of some.
abbrev pub last : ℕ → List ℕ → List ℕ
last n bs = drop (length bs - n) bs

-- The bytes from one place to another.
abbrev pub part : List ℕ → ℕ → ℕ → List ℕ
part bs from to = slice_range bs from to

-- Bytes are a letter and what it carries, well formed.
pub record IsLetter (bs : List ℕ) (l : Letter) (c : List ℕ) : Type 0 where
  pub bytes : bs ≡ letter_bytes l c
  pub formed : well_formed l c ≡ true

-- The first byte of each kind of letter.
abbrev pub tag_byte : Tag → ℕ
tag_byte Tag.Tell = 1
tag_byte Tag.Lines = 2
tag_byte Tag.Printed = 3

-- The refusal of bytes that are no letter.
abbrev pub no_letter : Refusal
no_letter = record { rule = Rule.Letter; place = 0 }
