use Rattle.std.proofs.Common.{◌+◌, ◌*◌}
use Rattle.checker.proofs.lines.+terms.Given as goal

abbrev pub decreases-check_term : goal.decreases-check_term
decreases-check_term l = 2 * l.depth

abbrev pub decreases-check_two : goal.decreases-check_two
decreases-check_two l = 2 * l.depth + 1
