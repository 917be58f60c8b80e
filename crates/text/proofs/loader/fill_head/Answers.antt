use Rattle.text.specs.Slots.{row_in}
use Rattle.text.proofs.Simple.{head_by}
use Rattle.text.proofs.loader.fill_head.Goals as goal

pub returns-clause-is : goal.returns-clause-is
returns-clause-is c =
    head_by c.args.names.now c.args.text.now c.skip.result.now (row_in c.args.code.now) c.fill_expr-value.result.now (row_in c.fill_expr-value.new.code) c.skip-2.result.now c.skip.ensures c.fill_expr-value.ensures.is c.skip-2.ensures
