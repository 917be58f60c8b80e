use Rattle.std.proofs.Common.{[], sym, ap, inl, inr, arith}
use Rattle.std.proofs.lemmas.Bool.{eqb-true}
use Rattle.text.specs.Written.{else_head}
use Rattle.text.proofs.Lines.{front_of, no_body, is_stop, else_some}
use Rattle.text.proofs.Spills.{spilled_none, told, writes_told}
use Rattle.text.proofs.writer.Out.write_else.Goals.{then-fuel-eq0-via-then-fuel-eq0, then-fuel-eq0-via-else-fuel-eq0+then-is_empty}
use Rattle.text.proofs.writer.Out.write_else.Goals as goal

pub returns-then-fuel-eq0 : goal.returns-then-fuel-eq0
returns-then-fuel-eq0 c =
    told (sym (ap else_head (no_body c.args.fuel c.args.code.now
    (elim c.then-fuel-eq0.branch [ then-fuel-eq0-via-then-fuel-eq0 w ↦ inl w.if-fuel-eq0.true | then-fuel-eq0-via-else-fuel-eq0+then-is_empty w ↦ inr (eqb-true _ _ (sym w.if-is_empty.ensures)) ]))))
    spilled_none

pub returns-in-Stop : goal.returns-in-Stop
returns-in-Stop c =
    told (sym (ap else_head (is_stop [] c.args.fuel c.args.code.now _ _ (omega (arith, c.if-fuel-eq0.false)) (front_of c.args.code.now c.if-is_empty.ensures) c.in-Stop.ensures)))
    spilled_none

pub returns-in_default : goal.returns-in_default
returns-in_default c =
    writes_told _ _ c.write_all.result
    (sym (else_some [] c.args.fuel c.args.code.now _ _ (omega (arith, c.if-fuel-eq0.false)) (front_of c.args.code.now c.if-is_empty.ensures) c.from.result c.from.ensures c.in_default.not-Stop))
    c.write_all.ensures
