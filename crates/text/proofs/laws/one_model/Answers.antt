use Rattle.text.proofs.LawTexts.{one_model}
use Rattle.text.proofs.laws.one_model.Goals as goal

pub returns : goal.returns
returns c = one_model
