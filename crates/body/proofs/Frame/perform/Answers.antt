-- Each arm is one of the lemmas of Acts, at what the arm's calls gave.
use Rattle.std.proofs.Common.{◌∙◌}
use Rattle.body.specs.Play.{room_in}
use Rattle.body.proofs.Acts.{did_assign, did_draw, did_say, did_send}
use Rattle.body.proofs.Frame.perform.Goals as goal

pub returns-in-Assign-clause-acts : goal.returns-in-Assign-clause-acts
returns-in-Assign-clause-acts c =
    did_assign c.args.fuel c.args.self.now.event c.args.op c.args.code.now (room_in c.args.self.now)
    c.skip.result.now c.eval-value.result.0 c.eval-value.result.1.now c.from.result c.place.new.row c.in-Assign.is c.skip.ensures c.eval-value.ensures
    (c.from.ensures ∙ c.word.ensures) c.place.ensures

pub returns-in-Draw-clause-acts : goal.returns-in-Draw-clause-acts
returns-in-Draw-clause-acts c =
    did_draw c.args.fuel c.args.self.now.event c.args.op c.args.code.now (room_in c.args.self.now)
    c.skip-in-Draw.result.now c.eval-n.result.0 c.eval-n.result.1.now c.from-in-Draw.result c.next_seed-self.result c.drawn_below.result c.place-in-Draw.new.row
    c.in-Draw.is c.skip-in-Draw.ensures c.eval-n.ensures (c.from-in-Draw.ensures ∙ c.word-in-Draw.ensures) c.next_seed-self.ensures c.drawn_below.ensures c.place-in-Draw.ensures

pub returns-in-Say-clause-acts : goal.returns-in-Say-clause-acts
returns-in-Say-clause-acts c =
    did_say c.args.fuel c.args.self.now.event c.args.op c.args.code.now (room_in c.args.self.now)
    c.eval-number.result.0 c.eval-number.result.1.now (room_in c.say.new.self) c.in-Say.is c.eval-number.ensures c.say.ensures.says

pub returns-in-Send-clause-acts : goal.returns-in-Send-clause-acts
returns-in-Send-clause-acts c =
    did_send c.args.fuel c.args.self.now.event c.args.op c.args.code.now (room_in c.args.self.now)
    c.eval-delay.result.0 c.eval-to.result.0 c.eval-number-in-Send.result.0 c.eval-delay.result.1.now c.eval-to.result.1.now c.eval-number-in-Send.result.1.now
    (room_in c.send.new.self) c.in-Send.is c.eval-delay.ensures c.eval-to.ensures c.eval-number-in-Send.ensures c.send.ensures.sends
