-- Each arm is one of the lemmas of Blocks, at what the arm's calls gave.
use Rattle.std.proofs.Common.{◌≡◌, ◌-◌, sym, ap, subst, ◌∙◌, inl, inr, arith}
use Rattle.meaning.specs.Model.{iterate}
use Rattle.body.specs.Code.{body_of, Evaluated}
use Rattle.body.specs.Play.{room_in, plays, Acted}
use Rattle.body.proofs.Blocks.{ended, at_stop, at_act, at_branch, at_repeat, iterate_more, iterate_none, same_then}
use Rattle.body.proofs.Frame.+play.Goals as goal
use Rattle.body.proofs.Frame.+play.Goals.{then-x-eq0, else-x-eq0}

pub returns-in-Stop-clause-plays : goal.returns-in-Stop-clause-plays
returns-in-Stop-clause-plays t c =
    sym (at_stop c.args.self.now.event (room_in c.loop-left.self) c.loop-left.left c.loop-left.code.now c.in-Some.first.now c.in-Some.rest.now
    c.loop-left-test.true c.in-Some.ensures.cases.0 c.in-Stop.ensures)
    ∙ c.loop-left.invariant.1

pub loop-left-preserved-in-Do : goal.loop-left-preserved-in-Do
loop-left-preserved-in-Do t c = (
  same_then c.loop-left.invariant.0 c.perform-code.ensures.same,
  at_act c.args.self.now.event (room_in c.loop-left.self) c.loop-left.left c.loop-left.code.now c.in-Some.first.now c.in-Some.rest.now
      c.loop-left-test.true c.in-Some.ensures.cases.0 c.in-Do.act c.in-Do.ensures c.perform-code.result.now
      (room_in c.perform-code.new.self)
      (subst (λ e. Acted c.in-Do.act (c.loop-left.left - 1) e c.in-Some.rest.now (room_in c.loop-left.self) c.perform-code.result.now (room_in c.perform-code.new.self)) c.loop-left.invariant.0.event c.perform-code.ensures.acts)
      ∙ c.loop-left.invariant.1,
  omega (arith, c.loop-left.invariant.2),
)

pub loop-left-preserved-in-Branch : goal.loop-left-preserved-in-Branch
loop-left-preserved-in-Branch t c = (
  same_then c.loop-left.invariant.0 c.play.ensures.same,
  at_branch c.args.self.now.event (room_in c.loop-left.self) c.loop-left.left c.loop-left.code.now c.in-Some.first.now c.in-Some.rest.now
      c.loop-left-test.true c.in-Some.ensures.cases.0 c.in-Branch.ensures
      c.eval-x.result.0 c.skip.result.now c.eval-x.result.1.now c.skip-otherwise.result.now c.skip-code.result.now c.word.result c.word-in-Branch.result c.if-x-eq0.chosen.now
      (room_in c.play.new.self)
      c.skip.ensures (subst (λ e. Evaluated c.loop-left.self.vars.now e (c.loop-left.left - 1) c.skip.result.now c.eval-x.result.0 c.eval-x.result.1.now) c.loop-left.invariant.0.event c.eval-x.ensures)
      c.word.ensures c.skip-otherwise.ensures
      (elim c.if-x-eq0.branch [ then-x-eq0 w ↦ inl (w.if-x-eq0.true, ap (λ x. x.now) w.chosen-is) | else-x-eq0 w ↦ inr (w.if-x-eq0.false, ap (λ x. x.now) w.chosen-is) ])
      (subst (λ e. room_in c.play.new.self ≡ plays e (body_of (c.loop-left.left - 1) c.if-x-eq0.chosen.now) (room_in c.loop-left.self)) c.loop-left.invariant.0.event c.play.ensures.plays)
      c.word-in-Branch.ensures c.skip-code.ensures
      ∙ c.loop-left.invariant.1,
  omega (arith, c.loop-left.invariant.2),
)

pub loop-left-preserved : goal.loop-left-preserved
loop-left-preserved t c = (
  same_then c.loop-left.invariant.0 c.loop-turn.invariant.0,
  at_repeat c.args.self.now.event (room_in c.loop-left.self) c.loop-left.left c.loop-left.code.now c.in-Some.first.now c.in-Some.rest.now
      c.loop-left-test.true c.in-Some.ensures.cases.0 c.in-Repeat.ensures
      c.eval-x-in-Repeat.result.0 c.min-turns.result c.skip-in-Repeat.result.now c.eval-x-in-Repeat.result.1.now c.skip-code-in-Repeat.result.now c.word-in-Repeat.result
      (room_in c.loop-turn.self)
      c.skip-in-Repeat.ensures (subst (λ e. Evaluated c.loop-left.self.vars.now e (c.loop-left.left - 1) c.skip-in-Repeat.result.now c.eval-x-in-Repeat.result.0 c.eval-x-in-Repeat.result.1.now) c.loop-left.invariant.0.event c.eval-x-in-Repeat.ensures)
      c.min-turns.ensures
      (subst (λ e. room_in c.loop-turn.self ≡ iterate c.min-turns.result (plays e (body_of (c.loop-left.left - 1) c.eval-x-in-Repeat.result.1.now)) (room_in c.loop-left.self)) c.loop-left.invariant.0.event
      (sym (iterate_none (plays c.loop-left.self.event (body_of (c.loop-left.left - 1) c.eval-x-in-Repeat.result.1.now)) (c.min-turns.result - c.loop-turn._turn) _ (omega arith)) ∙ c.loop-turn.invariant.1))
      c.word-in-Repeat.ensures c.skip-code-in-Repeat.ensures
      ∙ c.loop-left.invariant.1,
  omega (arith, c.loop-left.invariant.2),
)

pub loop-turn-preserved : goal.loop-turn-preserved
loop-turn-preserved t c = (
  same_then c.loop-turn.invariant.0 c.play-in-loop-turn.ensures.same,
  iterate_more (plays c.loop-left.self.event (body_of (c.loop-left.left - 1) c.eval-x-in-Repeat.result.1.now)) c.min-turns.result c.loop-turn._turn
      (room_in c.loop-turn.self) (room_in c.play-in-loop-turn.new.self) c.loop-turn-test.true
      (subst (λ e. room_in c.play-in-loop-turn.new.self ≡ plays e (body_of (c.loop-left.left - 1) c.eval-x-in-Repeat.result.1.now) (room_in c.loop-turn.self)) c.loop-turn.invariant.0.event c.play-in-loop-turn.ensures.plays)
      ∙ c.loop-turn.invariant.1,
)

pub returns-in_default-clause-plays : goal.returns-in_default-clause-plays
returns-in_default-clause-plays t c =
    sym (ended c.args.self.now.event (room_in c.loop-left.self) c.loop-left.left c.loop-left.code.now (inr c.in_default.ensures.cases))
    ∙ c.loop-left.invariant.1

pub returns-clause-plays : goal.returns-clause-plays
returns-clause-plays t c =
    sym (ended c.args.self.now.event (room_in c.loop-left.self) c.loop-left.left c.loop-left.code.now (inl (omega arith)))
    ∙ c.loop-left.invariant.1
