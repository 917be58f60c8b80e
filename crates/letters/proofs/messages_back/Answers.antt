use Rattle.letters.specs.Back.{message_back}
use Rattle.letters.proofs.messages_back.Goals as goal

pub returns : goal.returns
returns c = message_back
