use Rattle.std.proofs.Common.{sym, ◌∙◌, arith}
use Rattle.checker.proofs.Tables.{counted_none, counted_here, counted_more}
use Rattle.checker.proofs.texts.count_of.Goals as goal

pub returns-then-kind-name : goal.returns-then-kind-name
returns-then-kind-name c =
    sym (counted_here c.args.name c.args.kinds.now c.loop-kind.kind-index (record { name = 0; count = 0 }) (omega arith) (omega arith) (omega arith) c.if-kind-name.true) ∙ c.loop-kind.invariant

pub loop-kind-preserved : goal.loop-kind-preserved
loop-kind-preserved c =
    sym (counted_more c.args.name c.args.kinds.now c.loop-kind.kind-index (record { name = 0; count = 0 }) (omega arith) (omega arith) (omega arith) c.if-kind-name.false) ∙ c.loop-kind.invariant

pub returns : goal.returns
returns c = sym (counted_none c.args.name c.args.kinds.now c.loop-kind.kind-index (omega arith)) ∙ c.loop-kind.invariant
