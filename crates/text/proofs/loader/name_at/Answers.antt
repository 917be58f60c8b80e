use Rattle.text.proofs.Leaves.{name_or}
use Rattle.text.proofs.loader.name_at.Goals as goal

pub returns : goal.returns
returns c = name_or c.args.text.now c.read_name.result c.unwrap_or_else.result _ c.read_name.ensures c.unwrap_or_else.ensures
