use Rattle.std.proofs.Common.{sym, subst}
use Rattle.meaning.specs.Promise.{Sorted}
use Rattle.queue.proofs.insert.Goals as goal
use Rattle.queue.proofs.Order.{sorted_insert}

pub returns : goal.returns
returns c =
    record {
      inserted = c.place.ensures;
      in_order = λ s f. subst Sorted (sym c.place.ensures.in_place) (sorted_insert _ _ s f);
    }
