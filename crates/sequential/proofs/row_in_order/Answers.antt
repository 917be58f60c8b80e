use Rattle.std.proofs.Common.{sym, subst}
use Rattle.meaning.specs.Model.{State}
use Rattle.meaning.specs.Promise.{Sorted}
use Rattle.meaning.proofs.States.{in_order}
use Rattle.sequential.proofs.row_in_order.Goals as goal

pub returns : goal.returns
returns c m luck end k xs y p o e = subst (λ (s : State). Sorted s.pending) (sym e) (in_order m luck end k xs p o)
