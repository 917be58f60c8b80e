use Rattle.std.proofs.Common.{arith}
use Rattle.net.proofs.pieces.Goals as goal

-- No letters are written.
pub returns : goal.returns
returns c = λ g ts w f l. omega arith
