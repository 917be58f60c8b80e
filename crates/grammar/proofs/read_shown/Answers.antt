use Rattle.grammar.proofs.Texts.{read_shown}
use Rattle.grammar.proofs.read_shown.Goals as goal

pub returns : goal.returns
returns c = read_shown
