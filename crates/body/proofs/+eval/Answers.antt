use Rattle.std.proofs.Common.{inl, inr, arith}
use Rattle.body.proofs.Words.{none_left, at_fixed, at_var, at_it, at_me, at_clock, at_nothing, at_two, same_vars}
use Rattle.body.proofs.+eval.Goals as goal
use Rattle.body.proofs.+eval.Goals.{then-fuel-eq0-via-then-fuel-eq0, then-fuel-eq0-via-else-fuel-eq0+then-is_empty}

pub returns-then-fuel-eq0 : goal.returns-then-fuel-eq0
returns-then-fuel-eq0 t c =
    none_left c.args.vars.now c.args.event c.args.fuel c.args.code.now
    (elim c.then-fuel-eq0.branch [ then-fuel-eq0-via-then-fuel-eq0 w ↦ inl w.if-fuel-eq0.true | then-fuel-eq0-via-else-fuel-eq0+then-is_empty w ↦ inr w.if-is_empty.ensures ])

pub returns-in-Fixed : goal.returns-in-Fixed
returns-in-Fixed t c =
    at_fixed c.args.vars.now c.args.event c.args.fuel c.args.code.now c.skip-rest.result.now c.if-fuel-eq0.false c.if-is_empty.ensures c.skip-rest.ensures
    c.in-Fixed.ensures c.word.result c.word.ensures (omega arith) c.skip.result.now c.skip.ensures

pub returns-in-Var : goal.returns-in-Var
returns-in-Var t c =
    at_var c.args.vars.now c.args.event c.args.fuel c.args.code.now c.skip-rest.result.now c.if-fuel-eq0.false c.if-is_empty.ensures c.skip-rest.ensures
    c.in-Var.ensures c.word-in-Var.result c.word-in-Var-2.result c.word-in-Var.ensures c.word-in-Var-2.ensures c.skip-in-Var.result.now c.skip-in-Var.ensures

pub returns-in-It : goal.returns-in-It
returns-in-It t c =
    at_it c.args.vars.now c.args.event c.args.fuel c.args.code.now c.skip-rest.result.now c.if-fuel-eq0.false c.if-is_empty.ensures c.skip-rest.ensures
    c.in-It.ensures (omega arith)

pub returns-in-Me : goal.returns-in-Me
returns-in-Me t c =
    at_me c.args.vars.now c.args.event c.args.fuel c.args.code.now c.skip-rest.result.now c.if-fuel-eq0.false c.if-is_empty.ensures c.skip-rest.ensures
    c.in-Me.ensures (omega arith)

pub returns-in-Clock : goal.returns-in-Clock
returns-in-Clock t c =
    at_clock c.args.vars.now c.args.event c.args.fuel c.args.code.now c.skip-rest.result.now c.if-fuel-eq0.false c.if-is_empty.ensures c.skip-rest.ensures
    c.in-Clock.ensures (omega arith)

pub returns-in-Nothing : goal.returns-in-Nothing
returns-in-Nothing t c =
    at_nothing c.args.vars.now c.args.event c.args.fuel c.args.code.now c.skip-rest.result.now c.if-fuel-eq0.false c.if-is_empty.ensures c.skip-rest.ensures
    c.in-Nothing.ensures

pub returns-in-Two : goal.returns-in-Two
returns-in-Two t c =
    at_two c.args.vars.now c.args.event c.args.fuel c.args.code.now c.skip-rest.result.now c.if-fuel-eq0.false c.if-is_empty.ensures c.skip-rest.ensures
    c.in-Two.op c.in-Two.ensures c.eval-a.result.0 c.eval-b.result.0 c.apply.result c.eval-a.result.1.now c.eval-b.result.1.now (same_vars c.skip-own.ensures c.eval-a.ensures) (same_vars c.skip-own.ensures c.eval-b.ensures) c.apply.ensures
