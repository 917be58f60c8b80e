-- What the table of models has to hold.
use Rattle.std.specs.Prelude.{ℕ, List, [], ◌∷◌, ◌++◌}
use Rattle.meaning.specs.Model.{Body, fixed, var, it, me, plus, stop, assign, draw, say, send, repeat}
use Rattle.body.specs.Encode.{encode}

-- The words of kinds' lines, one kind after the other.
abbrev pub all_words : List Body → List ℕ
all_words [] = []
all_words (b ∷ bs) = encode b ++ all_words bs

-- a = draw 6, say a, send 0 to me after 1
abbrev pub dice_lines : Body
dice_lines = draw 0 (fixed 6) (say (var 0) (send (fixed 1) me (fixed 0) stop))

-- again it, a = (a + 1), end, say a
abbrev pub count_lines : Body
count_lines = repeat it (assign 0 (plus (var 0) (fixed 1)) stop) (say (var 0) stop)
