use Rattle.checker.proofs.lines.+check_lines.Given as goal

abbrev pub decreases-check_lines : goal.decreases-check_lines
decreases-check_lines l = l.most
