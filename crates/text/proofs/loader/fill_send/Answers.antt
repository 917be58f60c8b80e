use Rattle.std.proofs.Common.{[], ◌∷◌, ap, ◌∙◌}
use Rattle.text.specs.Slots.{row_in}
use Rattle.text.specs.Writes.{writes}
use Rattle.text.proofs.Simple.{send_by}
use Rattle.text.proofs.loader.fill_send.Goals as goal

pub returns-clause-is : goal.returns-clause-is
returns-clause-is c =
    send_by c.args.names.now c.args.text.now c.skip-what.result.now c.skip_expr.result.now c.skip-to.result.now c.skip_expr-2.result.now c.skip-after.result.now _ _ _ _ (row_in c.args.code.now) (row_in c.push.new.self)
    c.fill_expr-behind.result.now (row_in c.fill_expr-behind.new.code) c.fill_expr.result.now (row_in c.fill_expr.new.code) c.fill_expr-2.result.now (row_in c.fill_expr-2.new.code) c.skip.result.now
    c.skip-what.ensures c.skip_expr.ensures c.skip-to.ensures c.skip_expr-2.ensures c.skip-after.ensures (c.push.ensures.is ∙ ap (λ x. writes (x ∷ []) (row_in c.args.code.now)) c.from.ensures) c.fill_expr-behind.ensures.is c.fill_expr.ensures.is c.fill_expr-2.ensures.is c.skip.ensures
