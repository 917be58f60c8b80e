use Rattle.std.proofs.Common.{refl}
use Rattle.body.specs.Encode.{encode, encode_expr}
use Rattle.plain.proofs.table.rally.Goals as goal

pub returns : goal.returns
unfolding encode encode_expr
returns c = refl
