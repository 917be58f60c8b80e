use Rattle.meaning.specs.Model.{next_seed, in_whole}
use Rattle.std.proofs.Common.{refl}
use Rattle.body.proofs.next_seed.Goals as goal

pub returns : goal.returns
unfolding next_seed in_whole
returns c = refl
