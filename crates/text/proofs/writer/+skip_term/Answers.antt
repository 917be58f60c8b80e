use Rattle.std.proofs.Common.{[], sym, ◌∙◌, inl, inr}
use Rattle.text.proofs.Terms.{rest_all, rest_one, rest_none, rest_two}
use Rattle.text.proofs.writer.+skip_term.Goals as goal
use Rattle.text.proofs.writer.+skip_term.Goals.{then-fuel-eq0-via-then-fuel-eq0, then-fuel-eq0-via-else-fuel-eq0+then-is_empty}

pub returns-then-fuel-eq0 : goal.returns-then-fuel-eq0
returns-then-fuel-eq0 t c =
    sym (rest_all c.args.fuel c.args.code.now
    (elim c.then-fuel-eq0.branch [ then-fuel-eq0-via-then-fuel-eq0 w ↦ inl w.if-fuel-eq0.true | then-fuel-eq0-via-else-fuel-eq0+then-is_empty w ↦ inr w.if-is_empty.ensures ]))

pub returns-in-Fixed : goal.returns-in-Fixed
returns-in-Fixed t c = c.skip.ensures ∙ sym (rest_one [] c.args.fuel c.args.code.now c.skip-rest.result.now c.if-fuel-eq0.false c.if-is_empty.ensures c.skip-rest.ensures c.from.result c.from.ensures c.in-Fixed.is)

pub returns-in-It : goal.returns-in-It
returns-in-It t c = sym (rest_none [] c.args.fuel c.args.code.now c.skip-rest.result.now c.if-fuel-eq0.false c.if-is_empty.ensures c.skip-rest.ensures c.from.result c.from.ensures c.in-It.is)

pub returns-in-Two : goal.returns-in-Two
returns-in-Two t c = rest_two [] c.args.fuel c.args.code.now c.skip-rest.result.now c.if-fuel-eq0.false c.if-is_empty.ensures c.skip-rest.ensures c.in-Two.ensures c.skip_term.ensures c.skip_term-in-Two.ensures
