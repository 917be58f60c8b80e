use Rattle.body.proofs.Words.{wraps}
use Rattle.body.proofs.apply.Goals as goal

pub returns-in-Plus : goal.returns-in-Plus
returns-in-Plus c = simp (c.in-Plus.is, wraps)

pub returns-in-Minus : goal.returns-in-Minus
returns-in-Minus c = simp (c.in-Minus.is, wraps)

pub returns-in-Times : goal.returns-in-Times
returns-in-Times c = simp (c.in-Times.is, wraps)
