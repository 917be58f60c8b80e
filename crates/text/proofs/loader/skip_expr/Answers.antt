use Rattle.std.proofs.Common.{sym}
use Rattle.text.proofs.Rows.{nothing_written}
use Rattle.text.proofs.loader.skip_expr.Goals as goal

pub returns : goal.returns
returns c = λ ns t k b pk e s g n. (let q = c.fill_expr.ensures.is ns t k b pk e s g n in (q.0, sym (nothing_written _)))
