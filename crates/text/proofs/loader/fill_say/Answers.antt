use Rattle.std.proofs.Common.{[], ◌∷◌, ap, ◌∙◌}
use Rattle.text.specs.Slots.{row_in}
use Rattle.text.specs.Writes.{writes}
use Rattle.text.proofs.Simple.{say_by}
use Rattle.text.proofs.loader.fill_say.Goals as goal

pub returns-clause-is : goal.returns-clause-is
returns-clause-is c =
    say_by c.args.names.now c.args.text.now (row_in c.args.code.now) (row_in c.push.new.self) c.fill_head.result.now (row_in c.fill_head.new.code) (c.push.ensures.is ∙ ap (λ x. writes (x ∷ []) (row_in c.args.code.now)) c.from.ensures) c.fill_head.ensures.is
