use Rattle.std.proofs.Common.{length, ap, ◌∙◌}
use Rattle.std.specs.Prelude.{unwrap_or}
use Rattle.text.proofs.Leaves.{place_or}
use Rattle.text.proofs.loader.place_of.Goals as goal

pub returns-clause-is : goal.returns-clause-is
returns-clause-is c = c.unwrap_or.ensures ∙ ap (λ x. unwrap_or x (length c.args.names.now)) c.position_of.ensures ∙ place_or c.args.name c.args.names.now
