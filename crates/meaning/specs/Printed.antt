-- A line as it is printed.
use Rattle.std.specs.Prelude.{ℕ, List, ◌∷◌, ◌++◌}
use Rattle.std.specs.Fmt.{decimal}
use Rattle.meaning.specs.declared.Line.{Line}

-- Its time, process and number in decimals, parted by spaces.
abbrev pub line_text : Line → List ℕ
line_text l = decimal l.time ++ (32 ∷ (decimal l.process ++ (32 ∷ decimal l.number)))
