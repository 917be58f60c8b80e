-- Lines as they are printed.
use Rattle.std.specs.Prelude.{ℕ, suc, ◌-◌, cond, List, [], ◌∷◌, ◌++◌, length, codes, nat_le}
use Rattle.meaning.specs.declared.Line.{Line}
use Rattle.text.specs.Named.{digits}

-- Time, process and number, with the end of the line.
abbrev pub printed_line : Line → List ℕ
printed_line l = digits l.time ++ (codes " " ++ (digits l.process ++ (codes " " ++ (digits l.number ++ 10 ∷ []))))

unfoldable pub printed : List Line → List ℕ
printed [] = []
printed (l ∷ ls) = printed_line l ++ printed ls

-- How many of the first lines have room in so many bytes.
unfoldable pub fitting : ℕ → List Line → ℕ
fitting room [] = 0
fitting room (l ∷ ls) = cond (nat_le (length (printed_line l)) room) (suc (fitting (room - length (printed_line l)) ls)) 0
