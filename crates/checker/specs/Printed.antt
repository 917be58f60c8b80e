-- A refusal as it is printed.
use Rattle.std.specs.Prelude.{ℕ, List, ◌++◌, codes}
use Rattle.std.specs.Fmt.{decimal}
use Rattle.checker.specs.declared.Refusal.{Refusal}
use Rattle.checker.specs.Refusals.{number_of}

-- Its number and its place in decimals.
abbrev pub refusal_text : Refusal → List ℕ
refusal_text r = codes "refused " ++ (decimal (number_of r.rule) ++ (codes " at " ++ decimal r.place))
