use Rattle.text.proofs.loader.+fill_row.Given as goal

abbrev pub decreases-fill_row : goal.decreases-fill_row
decreases-fill_row g l = l.left
