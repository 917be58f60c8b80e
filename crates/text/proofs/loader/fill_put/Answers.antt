use Rattle.std.proofs.Common.{[], ◌∷◌, ap, ◌∙◌}
use Rattle.text.specs.Slots.{row_in}
use Rattle.text.specs.Writes.{writes}
use Rattle.text.proofs.Simple.{put_draw, put_assign}
use Rattle.text.proofs.loader.fill_put.Goals as goal

pub returns-then-is_draw-clause-is : goal.returns-then-is_draw-clause-is
returns-then-is_draw-clause-is c =
    put_draw c.args.names.now c.args.text.now c.args.name c.skip-value.result.now c.skip.result.now c.place_of-place.result (row_in c.args.code.now) (row_in c.push.new.self) (row_in c.push-then-is_draw.new.self) c.fill_head.result.now (row_in c.fill_head.new.code) c.place_of-place.ensures.is c.skip-value.ensures c.if-is_draw.ensures c.skip.ensures
    (c.push.ensures.is ∙ ap (λ x. writes (x ∷ []) (row_in c.args.code.now)) c.from.ensures) c.push-then-is_draw.ensures.is c.fill_head.ensures.is

pub returns-clause-is : goal.returns-clause-is
returns-clause-is c =
    put_assign c.args.names.now c.args.text.now c.args.name c.skip-value.result.now c.skip-2.result.now c.place_of-place.result (row_in c.args.code.now) (row_in c.push-2.new.self) (row_in c.push-3.new.self) c.fill_head-2.result.now (row_in c.fill_head-2.new.code) c.place_of-place.ensures.is c.skip-value.ensures c.if-is_draw.ensures c.skip-2.ensures
    (c.push-2.ensures.is ∙ ap (λ x. writes (x ∷ []) (row_in c.args.code.now)) c.from-2.ensures) c.push-3.ensures.is c.fill_head-2.ensures.is
