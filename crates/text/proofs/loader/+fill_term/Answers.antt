use Rattle.std.proofs.Common.{sym, ap, ◌∙◌}
use Rattle.text.specs.Slots.{row_in}
use Rattle.text.specs.Parts.{sign_word}
use Rattle.text.proofs.FillTerms.{term_none, term_plain, term_two}
use Rattle.text.proofs.loader.+fill_term.Goals as goal

pub returns-then-depth-eq0-clause-is : goal.returns-then-depth-eq0-clause-is
returns-then-depth-eq0-clause-is t c =
    term_none c.args.names.now c.args.text.now c.args.depth _ _ _ c.if-depth-eq0.true

pub returns-then-nth-ne40-clause-is : goal.returns-then-nth-ne40-clause-is
returns-then-nth-ne40-clause-is t c =
    term_plain c.args.names.now c.args.text.now c.fill_plain.result.now (row_in c.args.code.now) (row_in c.fill_plain.new.code) c.args.depth (λ e. c.if-nth-ne40.true (c.nth.ensures ∙ e)) c.fill_plain.ensures.is

pub returns-clause-is : goal.returns-clause-is
returns-clause-is t c =
    term_two c.args.names.now c.args.text.now c.args.depth (row_in c.args.code.now) c.skip.result.now (row_in c.push.new.self) c.fill_term-first.result.now (row_in c.fill_term-first.new.code) c.skip-sign.result.now c.from.result (row_in c.set.new.self) c.skip-2.result.now c.fill_term-second.result.now (row_in c.fill_term-second.new.code) c.skip-3.result.now
    (sym c.nth.ensures ∙ c.if-nth-ne40.false) c.skip.ensures c.push.ensures.is c.fill_term-first.ensures.is c.skip-sign.ensures
    (c.from.ensures ∙ c.operation.ensures ∙ ap sign_word c.nth-2.ensures) c.set.ensures.is c.skip-2.ensures c.fill_term-second.ensures.is c.skip-3.ensures
