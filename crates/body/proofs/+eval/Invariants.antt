use Rattle.body.proofs.+eval.Given as goal

abbrev pub decreases-eval : goal.decreases-eval
decreases-eval l = l.fuel
