use Rattle.std.proofs.Common.{◌-◌, refl, ap, ◌∙◌, arith}
use Rattle.words.specs.Words.{unpack_upto}
use Rattle.text.proofs.Words.{unpack_zero, unpack_none, unpack_more}
use Rattle.text.proofs.Spills.{lost, ahead_all, ahead_more, ahead_passed, ahead_done}
use Rattle.text.proofs.writer.Out.write_name.Goals as goal

pub loop-turn-init : goal.loop-turn-init
loop-turn-init c =
    ahead_all refl

pub returns-in_err-put : goal.returns-in_err-put
returns-in_err-put c =
    lost _ c.from_residual.ensures (ahead_passed c.loop-turn.invariant _ (unpack_more c.loop-turn._turn c.loop-turn.p (omega arith) c.if-p-eq0.false) c.in_err-put.ensures)

pub loop-turn-preserved : goal.loop-turn-preserved
loop-turn-preserved c =
    ahead_more c.loop-turn.invariant (unpack_more c.loop-turn._turn c.loop-turn.p (omega arith) c.if-p-eq0.false) c.in_ok-put.ensures

pub returns : goal.returns
returns c =
    ahead_done c.loop-turn.invariant (unpack_none (8 - c.loop-turn._turn) c.loop-turn.p (omega arith))

pub returns-then-p-eq0 : goal.returns-then-p-eq0
returns-then-p-eq0 c =
    ahead_done c.loop-turn.invariant (ap (λ p. unpack_upto (8 - c.loop-turn._turn) p) c.if-p-eq0.true ∙ unpack_zero (8 - c.loop-turn._turn))
