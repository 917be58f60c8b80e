use Rattle.text.specs.Slots.{row_in}
use Rattle.text.proofs.Wholes.{kind_by}
use Rattle.text.proofs.loader.fill_kind.Goals as goal

pub returns-clause-is : goal.returns-clause-is
returns-clause-is c =
    kind_by c.args.text.now (row_in c.args.names.now) (row_in c.args.code.now) c.skip.result.now c.name_at-name.result.0 c.name_at-name.result.1.now (row_in c.push.new.self) c.fill_row-width.result.1.now c.fill_row-width.result.0 (row_in c.fill_row-width.new.slots)
    c.part-own.result.now c.skip-lines.result.now c.fill_lines-end.result.now (row_in c.fill_lines-end.new.code) c.skip-2.result.now c.skip.ensures c.name_at-name.ensures c.push.ensures.is c.fill_row-width.ensures.is c.part-own.ensures.is c.skip-lines.ensures
    c.fill_lines-end.ensures.is c.skip-2.ensures
