use Rattle.text.proofs.LawTexts.{has_text}
use Rattle.text.proofs.laws.has_text.Goals as goal

pub returns : goal.returns
returns c = has_text
