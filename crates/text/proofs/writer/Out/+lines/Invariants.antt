use Rattle.std.proofs.Common.{◌+◌, ◌*◌, ◌≤◌}
use Rattle.text.specs.Written.{Ahead, lines_bytes}
use Rattle.text.proofs.writer.Out.+lines.Given as goal

abbrev pub decreases-write_branch : goal.decreases-write_branch
decreases-write_branch l = 2 * l.fuel + 1

abbrev pub decreases-write_repeat : goal.decreases-write_repeat
decreases-write_repeat l = 2 * l.fuel + 1

abbrev pub decreases-write_lines : goal.decreases-write_lines
decreases-write_lines l = 2 * l.fuel

abbrev pub invariant-write_lines-loop-left : goal.invariant-write_lines-loop-left
invariant-write_lines-loop-left l =
    Ahead (lines_bytes l.names l.fuel l.initial.code) (lines_bytes l.names l.left l.code) l.initial.self l.self × (l.left ≤ l.fuel)
