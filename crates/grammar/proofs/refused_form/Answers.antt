use Rattle.grammar.proofs.Taken.{refused_form}
use Rattle.grammar.proofs.refused_form.Goals as goal

pub returns : goal.returns
returns c = refused_form
