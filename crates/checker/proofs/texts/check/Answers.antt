use Rattle.std.proofs.Common.{◌≡◌, subst, rules}
use Rattle.grammar.specs.Check.{check}
use Rattle.checker.specs.Texts.{Answered}
use Rattle.checker.proofs.Wholes.{placed, placed_by, answered}
use Rattle.checker.proofs.texts.check.Goals as goal

pub returns : goal.returns
returns c =
    let bs = c.args.bytes.now in
    let e : placed bs c.check_whole.result ≡ c.map_err.result = placed_by _ bs c.check_whole.result c.map_err.result c.map_err.ensures.cases (λ y f h. search rules) in
    subst (λ r. Answered bs r (check bs)) e (answered bs c.check_whole.result c.check_whole.ensures)
