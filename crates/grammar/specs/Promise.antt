-- What is promised of texts. Each statement is a type, and some function's contract is that statement.
use Rattle.std.specs.Prelude.{◌≡◌, ℕ, List, [], ◌∷◌, ◌++◌}
use Rattle.grammar.specs.Syntax.{Text, IsText}
use Rattle.grammar.specs.Parse.{got, bad, parse}
use Rattle.grammar.specs.Check.{taken, refused, check}
use Rattle.grammar.specs.Rules.{Keeps}

-- A text is one tree at most.
abbrev pub OneTree : Type 0
OneTree = (bs : List ℕ) (t u : Text) → IsText bs t → IsText bs u → t ≡ u

-- What is read is the tree that the bytes show, and every text is read.
abbrev pub ReadShown : Type 0
ReadShown = (bs : List ℕ) (t : Text) → ((parse bs ≡ got t []) → IsText bs t) × (IsText bs t → parse bs ≡ got t [])

-- The bytes front can go on to a text; with the first of rest they cannot, and with all of rest they are none.
pub record Stops (front rest : List ℕ) : Type 0 where
  pub goes_on : (more : List ℕ) × (t : Text) × IsText (front ++ more) t
  pub no_further : (b : ℕ) (c more : List ℕ) (t : Text) → rest ≡ b ∷ c → IsText (front ++ b ∷ more) t → ⊥
  pub no_text : (t : Text) → IsText (front ++ rest) t → ⊥

-- Where reading stops, at the byte b or at the end of the bytes: those before it can go on to a text, and with b they cannot, or they are
-- no text themselves.
abbrev pub StopsFirst : Type 0
StopsFirst =
    (bs rest : List ℕ) → parse bs ≡ bad rest →
    (front : List ℕ) × (bs ≡ front ++ rest)
    × ((more : List ℕ) × (t : Text) × IsText (front ++ more) t)
    × ((b : ℕ) (c more : List ℕ) (t : Text) → rest ≡ b ∷ c → IsText (front ++ b ∷ more) t → ⊥)
    × ((t : Text) → IsText bs t → ⊥)

-- Bytes are taken exactly if they are a text that keeps all rules; what is taken is the tree that they show, and it is all of them.
abbrev pub TakenExactly : Type 0
TakenExactly =
    (bs rest : List ℕ) (t : Text) →
    (check bs ≡ taken t rest → (rest ≡ []) × IsText bs t × Keeps t) × (IsText bs t → Keeps t → check bs ≡ taken t [])

-- Where bytes are refused with 1, those before can go on to a text, before its rules are asked, and with the byte there they cannot.
abbrev pub RefusedForm : Type 0
RefusedForm = (bs rest : List ℕ) → check bs ≡ refused 1 rest → (front : List ℕ) × (bs ≡ front ++ rest) × Stops front rest
