use Rattle.std.proofs.Common.{◌+◌, ◌*◌}
use Rattle.text.proofs.loader.+lines.Given as goal

abbrev pub decreases-fill_branch : goal.decreases-fill_branch
decreases-fill_branch l = 2 * l.most + 1

abbrev pub decreases-fill_lines : goal.decreases-fill_lines
decreases-fill_lines l = 2 * l.most

abbrev pub decreases-fill_repeat : goal.decreases-fill_repeat
decreases-fill_repeat l = 2 * l.most + 1
