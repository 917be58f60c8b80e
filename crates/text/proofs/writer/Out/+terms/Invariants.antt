use Rattle.std.proofs.Common.{◌+◌, ◌*◌}
use Rattle.text.proofs.writer.Out.+terms.Given as goal

abbrev pub decreases-write_term : goal.decreases-write_term
decreases-write_term l = 2 * l.fuel

abbrev pub decreases-write_two : goal.decreases-write_two
decreases-write_two l = 2 * l.fuel + 1
