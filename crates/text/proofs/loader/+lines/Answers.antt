use Rattle.std.proofs.Common.{[], ◌∷◌, sym, ap, ◌∙◌}
use Rattle.text.specs.Slots.{row_in}
use Rattle.text.specs.Writes.{writes}
use Rattle.text.proofs.Blocks.{branch_else, branch_none, repeat_by, lines_none, lines_branch, lines_again, lines_simple, lines_close}
use Rattle.text.proofs.loader.+lines.Goals as goal

pub fill_branch-returns-then-nth-eq108-clause-is : goal.fill_branch-returns-then-nth-eq108-clause-is
fill_branch-returns-then-nth-eq108-clause-is t c =
    branch_else c.args.names.now c.args.text.now c.args.most (row_in c.args.code.now) (row_in c.push.new.self) (row_in c.push-2.new.self) (row_in c.push-3.new.self) c.fill_head-head.result.now (row_in c.fill_head-head.new.code) c.fill_lines-one.result.now (row_in c.fill_lines-one.new.code) c.between.result (row_in c.set.new.self)
    (c.push.ensures.is ∙ ap (λ x. writes (x ∷ []) (row_in c.args.code.now)) c.from.ensures) c.push-2.ensures.is c.push-3.ensures.is c.fill_head-head.ensures.is c.fill_lines-one.ensures.is c.between.ensures c.set.ensures.is (sym c.nth.ensures ∙ c.if-nth-eq108.true) c.skip.result.now c.fill_lines-two.result.now (row_in c.fill_lines-two.new.code)
    c.between-then-nth-eq108.result (row_in c.set-then-nth-eq108.new.self) c.skip-then-nth-eq108.result.now c.skip.ensures c.fill_lines-two.ensures.is c.between-then-nth-eq108.ensures c.set-then-nth-eq108.ensures.is c.skip-then-nth-eq108.ensures

pub fill_branch-returns-clause-is : goal.fill_branch-returns-clause-is
fill_branch-returns-clause-is t c =
    branch_none c.args.names.now c.args.text.now c.args.most (row_in c.args.code.now) (row_in c.push.new.self) (row_in c.push-2.new.self) (row_in c.push-3.new.self) c.fill_head-head.result.now (row_in c.fill_head-head.new.code) c.fill_lines-one.result.now (row_in c.fill_lines-one.new.code) c.between.result (row_in c.set.new.self)
    (c.push.ensures.is ∙ ap (λ x. writes (x ∷ []) (row_in c.args.code.now)) c.from.ensures) c.push-2.ensures.is c.push-3.ensures.is c.fill_head-head.ensures.is c.fill_lines-one.ensures.is c.between.ensures c.set.ensures.is (λ e. c.if-nth-eq108.false (c.nth.ensures ∙ e)) (row_in c.push-4.new.self) (row_in c.set-2.new.self) c.skip-2.result.now
    (c.push-4.ensures.is ∙ ap (λ x. writes (x ∷ []) (row_in c.set.new.self)) c.from-2.ensures) c.set-2.ensures.is c.skip-2.ensures

pub fill_repeat-returns-clause-is : goal.fill_repeat-returns-clause-is
fill_repeat-returns-clause-is t c =
    repeat_by c.args.names.now c.args.text.now c.args.most (row_in c.args.code.now) (row_in c.push.new.self) (row_in c.push-2.new.self) c.fill_head-head.result.now (row_in c.fill_head-head.new.code) c.fill_lines-inner.result.now (row_in c.fill_lines-inner.new.code) c.between.result (row_in c.set.new.self) c.skip.result.now
    (c.push.ensures.is ∙ ap (λ x. writes (x ∷ []) (row_in c.args.code.now)) c.from.ensures) c.push-2.ensures.is c.fill_head-head.ensures.is c.fill_lines-inner.ensures.is c.between.ensures c.set.ensures.is c.skip.ensures

pub fill_lines-returns-then-most-eq0-clause-is : goal.fill_lines-returns-then-most-eq0-clause-is
fill_lines-returns-then-most-eq0-clause-is t c =
    lines_none c.args.names.now c.args.text.now c.args.most _ _ _ c.if-most-eq0.true

pub fill_lines-returns-in-If-clause-is : goal.fill_lines-returns-in-If-clause-is
fill_lines-returns-in-If-clause-is t c =
    lines_branch c.args.names.now c.args.text.now c.args.most c.word_at-word.result.0 c.word_at-word.result.1.now (row_in c.args.code.now) c.fill_branch-next.result.now (row_in c.fill_branch-next.new.code) c.fill_lines.result.now (row_in c.fill_lines.new.code) c.word_at-word.ensures c.in-If.is c.fill_branch-next.ensures.is c.fill_lines.ensures.is

pub fill_lines-returns-in-Again-clause-is : goal.fill_lines-returns-in-Again-clause-is
fill_lines-returns-in-Again-clause-is t c =
    lines_again c.args.names.now c.args.text.now c.args.most c.word_at-word.result.0 c.word_at-word.result.1.now (row_in c.args.code.now) c.fill_repeat-next.result.now (row_in c.fill_repeat-next.new.code) c.fill_lines-in-Again.result.now (row_in c.fill_lines-in-Again.new.code) c.word_at-word.ensures c.in-Again.is c.fill_repeat-next.ensures.is c.fill_lines-in-Again.ensures.is

pub fill_lines-returns-in-End-clause-is : goal.fill_lines-returns-in-End-clause-is
fill_lines-returns-in-End-clause-is t c =
    lines_close c.args.names.now c.args.text.now c.args.most c.word_at-word.result.0 c.word_at-word.result.1.now (row_in c.args.code.now) (row_in c.push.new.self) c.word_at-word.ensures c.in-End.is (c.push.ensures.is ∙ ap (λ x. writes (x ∷ []) (row_in c.args.code.now)) c.from.ensures)

pub fill_lines-returns-in_default-clause-is : goal.fill_lines-returns-in_default-clause-is
fill_lines-returns-in_default-clause-is t c =
    lines_simple c.args.names.now c.args.text.now c.args.most c.word_at-word.result.1.now (row_in c.args.code.now) c.word_at-word.result.0 c.fill_simple-next.result.now (row_in c.fill_simple-next.new.code) c.fill_lines-in_default.result.now (row_in c.fill_lines-in_default.new.code) c.word_at-word.ensures
    c.in_default.not-If c.in_default.not-Again c.in_default.not-End c.in_default.not-Else c.fill_simple-next.ensures.is c.fill_lines-in_default.ensures.is
