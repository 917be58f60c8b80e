use Rattle.text.specs.Slots.{row_in}
use Rattle.text.proofs.Simple.{expr_deep}
use Rattle.text.proofs.loader.fill_expr.Goals as goal

pub returns-clause-is : goal.returns-clause-is
returns-clause-is c =
    expr_deep c.args.names.now c.args.text.now (row_in c.args.code.now) c.fill_term.result.now (row_in c.fill_term.new.code) c.fill_term.ensures.is
