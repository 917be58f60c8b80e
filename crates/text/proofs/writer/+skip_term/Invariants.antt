use Rattle.text.proofs.writer.+skip_term.Given as goal

abbrev pub decreases-skip_term : goal.decreases-skip_term
decreases-skip_term l = l.fuel
