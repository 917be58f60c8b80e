use Rattle.text.proofs.Back.{digits_read}
use Rattle.text.proofs.digits_read.Goals as goal

pub returns : goal.returns
returns c = digits_read
