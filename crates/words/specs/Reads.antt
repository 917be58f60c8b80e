-- What reading from the front of a text answers, in the grammar's words.
use Rattle.std.specs.Prelude.{ℕ, Bool, false, cond, List, [], ◌∷◌, Some, None, Ok, Err, Option, Result, ◌==◌, nat_lt}
use Rattle.std.specs.Borrow.{Bor}
use Rattle.grammar.specs.Syntax as grammar
use Rattle.grammar.specs.Syntax.{plus, minus, times, over, remains, less, equal}
use Rattle.grammar.specs.Parse.{Close, by_end, by_else, Got, got, bad}
use Rattle.grammar.specs.Check.{decimal, too_large}
use Rattle.words.specs.declared.Closing.{Closing}
use Rattle.words.specs.declared.Sign.{Sign}
use Rattle.words.specs.declared.Sign.TheVariants.{Plus, Minus, Times, Over, Remains, Less, Equal}

-- What was read and the bytes behind it, or the bytes at which no text goes on so.
abbrev pub read : {A : Type 0} → Result (A × Bor (List ℕ)) (Bor (List ℕ)) → Got A
read (Ok r) = got r.0 r.1.now
read (Err rest) = bad rest.now

-- Just the bytes behind.
abbrev pub behind : Result (Bor (List ℕ)) (Bor (List ℕ)) → Got (Unit {0})
behind (Ok rest) = got tt rest.now
behind (Err rest) = bad rest.now

-- Whether there is a first byte, and it passes a test.
abbrev pub first_is : (ℕ → Bool) → List ℕ → Bool
first_is p [] = false
first_is p (b ∷ bs) = p b

-- What was read, in other words.
abbrev pub map_got : {A B : Type 0} → (A → B) → Got A → Got B
map_got f (got a bs) = got (f a) bs
map_got f (bad bs) = bad bs

-- The number that digits stand for, if it is below 2^32.
abbrev pub small_number : List ℕ → Option ℕ
small_number ds = cond (nat_lt (decimal 0 ds) too_large) (Some (decimal 0 ds)) None

-- The grammar's name of a sign.
abbrev pub sign_of : Sign → grammar.Sign
sign_of Plus = plus
sign_of Minus = minus
sign_of Times = times
sign_of Over = over
sign_of Remains = remains
sign_of Less = less
sign_of Equal = equal

-- Which sign a byte is.
abbrev pub sign_by : ℕ → Option Sign
sign_by b =
    cond (b == 43) (Some Plus) (cond (b == 45) (Some Minus) (cond (b == 42) (Some Times) (cond (b == 47) (Some Over)
    (cond (b == 37) (Some Remains) (cond (b == 60) (Some Less) (cond (b == 61) (Some Equal) None))))))

-- How lines close.
abbrev pub close_of : Closing → Close
close_of Closing.End = by_end
close_of Closing.Else = by_else
