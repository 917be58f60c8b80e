use Rattle.grammar.proofs.Wrong.{refused_fault}
use Rattle.grammar.proofs.refused_fault.Goals as goal

pub returns : goal.returns
returns c = refused_fault
