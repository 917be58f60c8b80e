use Rattle.std.proofs.Common.{sym, ap, ◌∙◌}
use Rattle.std.proofs.lemmas.Result.{err_from_is_err_and}
use Rattle.grammar.specs.Check.{taken}
use Rattle.checker.specs.Refusals.{names_in}
use Rattle.checker.proofs.Heads.{head_by}
use Rattle.checker.proofs.lines.check_head.Goals as goal

pub returns-in_err-rest : goal.returns-in_err-rest
returns-in_err-rest c =
    let s = c.args.scope in
    let p = err_from_is_err_and c.from_residual-in_err-rest.result c.from_residual-in_err-rest.ensures.1 in
    rw (p.1, p.2) (head_by (names_in s.names.now) s.deep s.or_else c.args.text.now c.in_ok-word.rest.now c.in_ok-word.word c.in_ok-word.ensures _ c.in_err-rest.ensures)

pub returns : goal.returns
returns c =
    let s = c.args.scope in
    head_by (names_in s.names.now) s.deep s.or_else c.args.text.now c.in_ok-word.rest.now c.in_ok-word.word c.in_ok-word.ensures _ c.in_ok-rest.ensures
    ∙ ap (λ k. taken k c.in_ok-rest.rest.now) (sym c.from.ensures)
