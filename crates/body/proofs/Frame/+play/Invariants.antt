use Rattle.std.proofs.Common.{◌≡◌, ◌-◌, ◌≤◌}
use Rattle.meaning.specs.Model.{iterate}
use Rattle.body.specs.Code.{body_of}
use Rattle.body.specs.Play.{SameLent, room_in, plays}
use Rattle.body.proofs.Frame.+play.Given as goal

abbrev pub decreases-play : goal.decreases-play
decreases-play l = l.fuel

abbrev pub invariant-loop-left : goal.invariant-loop-left
invariant-loop-left l =
    SameLent l.initial.self l.self
    × (plays l.initial.self.event (body_of l.left l.code) (room_in l.self) ≡ plays l.initial.self.event (body_of l.fuel l.initial.code) (room_in l.initial.self))
    × (l.left ≤ l.fuel)

abbrev pub invariant-loop-turn : goal.invariant-loop-turn
invariant-loop-turn l =
    SameLent l.initial.self l.self
    × (iterate (l.turns - l._turn) (plays l.initial.self.event (body_of l.left l.body)) (room_in l.self)
    ≡ iterate l.turns (plays l.initial.self.event (body_of l.left l.body)) (room_in l.initial.self))
