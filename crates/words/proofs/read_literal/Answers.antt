use Rattle.std.proofs.Common.{drop, sym, ap, ◌∙◌, arith}
use Rattle.grammar.specs.Parse.{expect, bad}
use Rattle.words.proofs.Fronts.{expect_more, expect_other, expect_short, expect_done}
use Rattle.words.proofs.read_literal.Goals as goal
use Rattle.words.proofs.read_literal.Goals.{in_default-via-in-Some+else-b-c, in_default-via-in_default}

pub returns-in_default : goal.returns-in_default
returns-in_default c =
    elim c.in_default.branch [
      | in_default-via-in-Some+else-b-c w ↦
          let cut = w.in-Some.ensures.cases.0 in
          sym c.loop-c.invariant ∙ ap (expect (drop c.loop-c.c-index c.args.wanted.now)) cut
          ∙ expect_other c.args.wanted.now c.loop-c.c-index w.in-Some.b.now w.in-Some.behind.now c.loop-c-test.true w.if-b-c.false ∙ ap bad (sym cut)
      | in_default-via-in_default w ↦
          sym c.loop-c.invariant ∙ expect_short c.args.wanted.now c.loop-c.c-index c.loop-c.rest.now c.loop-c-test.true w.in_default.ensures.cases
    ]

pub loop-c-preserved : goal.loop-c-preserved
loop-c-preserved c =
    let cut = c.in-Some.ensures.cases.0 in
    sym (expect_more c.args.wanted.now c.loop-c.c-index c.in-Some.b.now c.in-Some.behind.now c.loop-c-test.true c.if-b-c.true)
    ∙ ap (expect (drop c.loop-c.c-index c.args.wanted.now)) (sym cut) ∙ c.loop-c.invariant

pub returns : goal.returns
returns c = sym c.loop-c.invariant ∙ expect_done c.args.wanted.now c.loop-c.c-index c.loop-c.rest.now (omega arith)
