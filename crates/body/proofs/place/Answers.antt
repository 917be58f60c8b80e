use Rattle.std.proofs.Common.{sym}
use Rattle.std.proofs.lemmas.List.{set_past}
use Rattle.body.proofs.place.Goals as goal

pub returns-else-at-row : goal.returns-else-at-row
returns-else-at-row g c = sym (set_past c.args.row.now c.args.at c.args.x c.if-at-row.false)
