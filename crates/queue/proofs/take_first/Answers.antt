use Rattle.std.proofs.Common.{subst}
use Rattle.meaning.specs.Promise.{Sorted}
use Rattle.queue.proofs.take_first.Goals as goal
use Rattle.queue.proofs.Order.{sorted_rest}
use Rattle.queue.proofs.Take.{taken}

pub returns : goal.returns
returns c =
    let t = taken c.args.row.now c.args.len.now c.in_ok-x.x c.in_ok-x.ensures in
    record {
      first = c.in_ok-x.ensures;
      left = t;
      in_order = λ s. sorted_rest _ _ (subst Sorted t.was_first s);
    }
