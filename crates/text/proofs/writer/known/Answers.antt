use Rattle.std.proofs.Common.{sym, ◌∙◌}
use Rattle.text.proofs.Texts.{known_some, known_none}
use Rattle.text.proofs.writer.known.Goals as goal

pub returns-in-Some : goal.returns-in-Some
returns-in-Some c = known_some c.args.names.now c.in-Some.k (sym c.position_of.ensures ∙ c.in-Some.is)

pub returns-in-None : goal.returns-in-None
returns-in-None c = known_none c.args.names.now (sym c.position_of.ensures ∙ c.in-None.is)
