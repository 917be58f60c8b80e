use Rattle.std.proofs.Common.{◌≡◌, drop}
use Rattle.grammar.specs.Parse.{expect}
use Rattle.words.proofs.read_literal.Given as goal

abbrev pub invariant-loop-c : goal.invariant-loop-c
invariant-loop-c l = expect (drop l.c-index l.wanted) l.rest ≡ expect l.wanted l.text
