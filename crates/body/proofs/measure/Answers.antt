use Rattle.std.proofs.Common.{[], length, ◌≡◌, ap, subst, ◌∙◌, arith}
use Rattle.body.specs.declared.Tally.{Tally}
use Rattle.body.specs.Code.{body_of}
use Rattle.body.specs.Play.{Room, room, room_in, plays}
use Rattle.body.proofs.Events.{played}
use Rattle.body.proofs.measure.Goals as goal

tally_in : Room → Tally
tally_in r = record { seed = r.seed; sends = r.sent; lines = r.said }

pub returns : goal.returns
unfolding tally_in
returns c =
    ap tally_in
    (played c.args.event c.args.code.now c.args.seed c.args.vars.now [] [] (omega arith) (omega arith)
    (room_in c.play.new.self)
    (subst (λ t. room_in c.play.new.self ≡ plays c.args.event (body_of (length c.args.code.now) c.args.code.now) (room c.copy_from_slice.new.self t [] [])) c.new.ensures c.play.ensures.plays
    ∙ ap (λ v. plays c.args.event (body_of (length c.args.code.now) c.args.code.now) (room v (record { seed = c.args.seed; sends = 0; lines = 0 }) [] []))
    c.copy_from_slice.ensures.after))
