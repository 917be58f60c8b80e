-- What reading from the front of a text answers, where what was read does not matter: the bytes behind it, or those at which no text goes on so.
use Rattle.std.specs.Prelude.{ℕ, cond, List, [], Ok, Err, codes, Result}
use Rattle.std.specs.Borrow.{Bor}
use Rattle.words.specs.declared.Closing.{Closing}
use Rattle.words.specs.declared.Word.{Word}
use Rattle.words.specs.declared.Word.TheVariants.{Say, Send, Draw, Name}
use Rattle.words.specs.Words.{word_of, stands_for_number}
use Rattle.words.specs.Reads.{map_got, first_is, close_of}
use Rattle.grammar.specs.Syntax.{Term, newline, is_letter}
use Rattle.grammar.specs.Parse.{Close, Block, Got, got, bad, and_then, expect, read_word, read_expr, read_last}

-- What was read is left out.
abbrev pub forget : {A : Type 0} → Got A → Got (Unit {0})
forget (got a bs) = got tt bs
forget (bad bs) = bad bs

-- All was read, or no text goes on so.
abbrev pub whole : Result (Unit {0}) (Bor (List ℕ)) → Got (Unit {0})
whole (Ok u) = got tt []
whole (Err rest) = bad rest.now

-- A space and an expression that ends the line.
abbrev pub read_head : List ℕ → Got Term
read_head bs = and_then (expect (codes " ") bs) (λ _ c. read_last c)

-- Behind send: what, to whom, after how long; the last is answered.
abbrev pub read_sent : List ℕ → Got Term
read_sent bs =
    and_then (expect (codes " ") bs) (λ _ c. and_then (read_expr c) (λ t d. and_then (expect (codes " to ") d) (λ _ e. and_then (read_expr e) (λ u f.
    and_then (expect (codes " after ") f) (λ _ g. read_last g)))))

-- Behind the first word of what is assigned: a draw, or the end of the line if the word stands for a number.
abbrev pub read_drawn : Word → List ℕ → Got (Unit {0})
read_drawn Draw bs = forget (read_head bs)
read_drawn k bs = cond (stands_for_number k) (expect newline bs) (bad bs)

-- What is assigned: what begins with a word, or an expression that ends the line.
abbrev pub read_value : List ℕ → Got (Unit {0})
read_value bs = cond (first_is is_letter bs) (and_then (map_got word_of (read_word bs)) read_drawn) (forget (read_last bs))

-- Behind the name that is assigned.
abbrev pub read_put : List ℕ → Got (Unit {0})
read_put bs = and_then (expect (codes " = ") bs) (λ _ c. read_value c)

-- Behind the first word of a line with no lines in it.
abbrev pub read_simple : Word → List ℕ → Got (Unit {0})
read_simple Say bs = forget (read_head bs)
read_simple Send bs = forget (read_sent bs)
read_simple (Name n) bs = read_put bs
read_simple k bs = bad bs

-- Lines by what stands behind them and how they close.
abbrev pub shape : Got Block → Got Close
shape (got b bs) = got b.close bs
shape (bad bs) = bad bs

abbrev pub closed : Result (Closing × Bor (List ℕ)) (Bor (List ℕ)) → Got Close
closed (Ok c) = got (close_of c.0) c.1.now
closed (Err rest) = bad rest.now
