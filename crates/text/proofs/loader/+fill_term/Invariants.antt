use Rattle.text.proofs.loader.+fill_term.Given as goal

abbrev pub decreases-fill_term : goal.decreases-fill_term
decreases-fill_term l = l.depth
