use Rattle.std.proofs.Common.{◌∙◌, ap}
use Rattle.std.specs.Prelude.{unwrap_or}
use Rattle.text.proofs.Leaves.{number_is, number_not}
use Rattle.text.proofs.loader.number_at.Goals as goal

pub returns-in-Ok : goal.returns-in-Ok
returns-in-Ok c =
    number_is c.args.text.now _ _ c.in-Ok.digits.now c.in-Ok.ensures (c.unwrap_or.ensures ∙ ap (λ x. unwrap_or x 0) c.number_of.ensures)

pub returns-in-Err : goal.returns-in-Err
returns-in-Err c =
    number_not c.args.text.now _ _ _ c.in-Err.ensures
