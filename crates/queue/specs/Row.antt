-- Messages that wait in a row: the first `len` places are in use, and the last in use is the first to be handled.
use Rattle.std.specs.Prelude.{◌≡◌, ℕ, ◌+◌, ◌<◌, ◌≤◌, true, cond, ◌⊎◌, List, [], ◌∷◌, reverse, length, take, drop, Some, None, Option, nat_le}
use Rattle.std.specs.List.{AllByRecursion}
use Rattle.meaning.specs.declared.Message.{Message}
use Rattle.meaning.specs.Model.{before, insert, insert_all}

-- Those that wait, the first to be handled first.
abbrev pub waiting : List Message → ℕ → List Message
waiting row len = reverse (take len row)

-- The first of a list, if there is one.
abbrev pub head_of : List Message → Option Message
head_of [] = None
head_of (x ∷ xs) = Some x

-- The first to be handled; none where nothing waits, or where more is said to be in use than there is.
abbrev pub first_of : List Message → ℕ → Option Message
first_of row len = cond (nat_le len (length row)) (head_of (waiting row len)) None

-- m comes before or after each of ys: none of them has its key.
abbrev pub Fresh : Message → List Message → Type 0
Fresh m ys = AllByRecursion (λ y. (before m y ≡ true) ⊎ (before y m ≡ true)) ys

-- m was put in among those that waited, and the places behind are as they were.
pub record Inserted (m : Message) (row : List Message) (len : ℕ) (row' : List Message) (len' : ℕ) : Type 0 where
  pub room : len + 1 ≤ length row
  pub one_more : len' ≡ len + 1
  pub in_place : waiting row' len' ≡ insert m (waiting row len)
  pub behind : drop len' row' ≡ drop len' row

-- All of xs were put in, one after the other, and the places behind are as they were.
pub record InsertedAll (xs row : List Message) (len : ℕ) (row' : List Message) (len' : ℕ) : Type 0 where
  pub room : len + length xs ≤ length row
  pub as_many_more : len' ≡ len + length xs
  pub in_place : waiting row' len' ≡ insert_all xs (waiting row len)
  pub behind : drop len' row' ≡ drop len' row

-- Fewer than n places are left, and nothing has changed.
pub record Refused (n : ℕ) (row : List Message) (len : ℕ) (row' : List Message) (len' : ℕ) : Type 0 where
  pub full : length row < len + n
  pub same_row : row' ≡ row
  pub same_len : len' ≡ len

-- x was the first to be handled, and waits no more.
pub record Taken (x : Message) (row : List Message) (len len' : ℕ) : Type 0 where
  pub in_row : len ≤ length row
  pub one_fewer : len ≡ len' + 1
  pub was_first : waiting row len ≡ x ∷ waiting row len'

-- Nothing waits, unless more is said to be in use than there is, and nothing has changed.
pub record Untaken (row : List Message) (len len' : ℕ) : Type 0 where
  pub none_waits : len ≤ length row → waiting row len ≡ []
  pub same_len : len' ≡ len
