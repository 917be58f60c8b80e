-- What a refusal of the form means, in the words of texts alone.
use Rattle.std.specs.Prelude.{ℕ, ◌+◌, ◌<◌, ◌≤◌, List, ◌++◌, length, take}
use Rattle.grammar.specs.Syntax.{Text, IsText}

-- The bytes before place p can go on to a text, with the byte at p they cannot, and they are no text themselves.
pub record StopsAt (bs : List ℕ) (p : ℕ) : Type 0 where
  pub inside : p ≤ length bs
  pub goes_on : (more : List ℕ) × (t : Text) × IsText (take p bs ++ more) t
  pub no_further : p < length bs → (more : List ℕ) (t : Text) → IsText (take (p + 1) bs ++ more) t → ⊥
  pub no_text : (t : Text) → IsText bs t → ⊥
