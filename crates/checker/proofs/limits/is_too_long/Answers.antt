use Rattle.std.proofs.Common.{arith}
use Rattle.std.proofs.lemmas.List.{length-take}
use Rattle.checker.proofs.Longs.{long_line}
use Rattle.checker.proofs.limits.is_too_long.Goals as goal

pub slice_bounds-contains-end : goal.slice_bounds-contains-end
slice_bounds-contains-end c = omega (arith, length-take 1024 c.args.text.now)

pub returns-then-text-gt-LINE : goal.returns-then-text-gt-LINE
returns-then-text-gt-LINE c = long_line c.args.text.now c.contains.result c.if-text-gt-LINE.true c.contains.ensures.value
