use Rattle.grammar.specs.Check.{check_head}
use Rattle.checker.specs.Lines.{sort_of}
use Rattle.checker.specs.Refusals.{names_in}
use Rattle.checker.proofs.Longs.{one_over}
use Rattle.checker.proofs.lines.none_left.Goals as goal

pub returns : goal.returns
returns c =
    let s = c.args.scope in
    one_over sort_of c.args.text.now (check_head (names_in s.names.now) s.deep s.or_else c.args.text.now) c.check_head.result c.cut_off.result c.check_head.ensures c.cut_off.ensures
