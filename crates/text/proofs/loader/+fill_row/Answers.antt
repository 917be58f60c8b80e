use Rattle.std.proofs.Common.{sym, ◌∙◌}
use Rattle.text.specs.Slots.{row_in}
use Rattle.text.proofs.Lists.{row_none, row_over, row_more}
use Rattle.text.proofs.loader.+fill_row.Goals as goal

pub returns-then-left-eq0-clause-is : goal.returns-then-left-eq0-clause-is
returns-then-left-eq0-clause-is g t c = row_none g.T.Entry.good g.T.Entry.value c.args.none c.args.text.now c.args.left (row_in c.args.slots.now) c.if-left-eq0.true

pub returns-then-nth-ne32-clause-is : goal.returns-then-nth-ne32-clause-is
returns-then-nth-ne32-clause-is g t c =
    row_over g.T.Entry.good g.T.Entry.value c.args.none c.args.text.now c.args.left (row_in c.args.slots.now) (row_in c.push.new.self) c.fill_row.result.1.now c.fill_row.result.0 (row_in c.fill_row.new.slots) c.if-left-eq0.false
    (λ e. c.if-nth-ne32.true (c.nth.ensures ∙ e)) c.push.ensures.is c.fill_row.ensures.is

pub returns-clause-is : goal.returns-clause-is
returns-clause-is g t c =
    row_more g.T.Entry.good g.T.Entry.value c.args.none c.args.text.now c.args.left (row_in c.args.slots.now) (row_in c.push-2.new.self) c.skip.result.now c.read-entry.result.0 c.read-entry.result.1.now c.fill_row-width.result.1.now c.fill_row-width.result.0 (row_in c.fill_row-width.new.slots)
    c.if-left-eq0.false (sym c.nth.ensures ∙ c.if-nth-ne32.false) c.skip.ensures c.read-entry.ensures c.push-2.ensures.is c.fill_row-width.ensures.is
