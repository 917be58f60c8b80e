use Rattle.std.proofs.Common.{sym, ◌∙◌, arith}
use Rattle.text.proofs.Things.{kind_here, kind_further, kind_none}
use Rattle.text.proofs.loader.kind_of.Goals as goal

pub returns-then-nth-name-clause-is : goal.returns-then-nth-name-clause-is
returns-then-nth-name-clause-is c =
    let z = kind_here c.args.name c.args.count c.loop-j.j c.loop-j.rows.now c.loop-j.rows.now c.loop-j-test.true (sym c.nth.ensures ∙ c.if-nth-name.true) in omega (arith, z)

pub loop-j-preserved : goal.loop-j-preserved
loop-j-preserved c =
    let z = kind_further c.args.name c.args.count c.loop-j.j c.loop-j.rows.now c.skip-rows.result.now c.loop-j-test.true (λ e. c.if-nth-name.false (c.nth.ensures ∙ e)) c.skip-rows.ensures in omega (arith, z)

pub returns-clause-is : goal.returns-clause-is
returns-clause-is c =
    let z = kind_none c.args.name c.args.count c.loop-j.j c.loop-j.rows.now c.loop-j-test.false in omega (arith, z)
