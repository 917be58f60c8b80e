use Rattle.std.proofs.Common.{◌∷◌, ◌≡◌, ◌≢◌, ◌∙◌, ◌+◌, ap, not, Bool, true, false, refl, arith, rules, length, subst, sym}
use denote.Enum.Bare.{sameb, same_true}
use Rattle.sequential.specs.contracts.Outcome.{the_type}
use Rattle.sequential.specs.declared.Outcome.TheVariants.{Paused}
use Rattle.sequential.specs.Memory.{memory_in}
use Rattle.text.specs.Played.{PlayedOn}
use Rattle.sequential.proofs.Runs.{same_at_first, same_then}
use Rattle.text.proofs.Onward.{forgotten, Going, ran_with, going_first, going_on, going_no_more, going_out}
use Rattle.text.proofs.play.play_on.Goals as goal

not_false : (b : Bool) → false ≡ not b → b ≡ true
not_false true h = refl
not_false false h = cc

pub loop-piece-init : goal.loop-piece-init
loop-piece-init g c = (
  c.requires.callable,
  same_at_first c.args.lent.now,
  going_first c.args.program.code.now c.args.program.kinds.now c.args.end (length c.args.sends.now) (memory_in c.args.lent.now) c.requires.unsaid,
)

pub returns-then-ne-clause-plays : goal.returns-then-ne-clause-plays
returns-then-ne-clause-plays g c =
    let n : c.run-report.result.outcome ≢ Paused =
    λ e. let t : true ≡ false = sym c.if-ne.true ∙ c.ne.ensures ∙ ap (λ o. not (sameb the_type o Paused)) e in cc in
    let g' = c.loop-piece.invariant.2 in
    let s = c.loop-piece.invariant.1 in
    let run = ran_with _ _ _ _ _ _ _ _ _ _ _ _ g' _ c.loop-piece.auto.sends c.run-report.ensures.runs in
    subst (λ y. PlayedOn c.args.program.code.now c.args.program.kinds.now c.args.end (length c.args.sends.now) (memory_in c.args.lent.now) y c.run-report.result.outcome) {x = forgotten (memory_in c.run-report.new.self)} (sym c.forget.ensures.forgets)
    (going_no_more _ _ _ _ _ _ _ _ _ _ _ _ g' n s.row_places s.line_places _ refl run)

pub loop-piece-preserved : goal.loop-piece-preserved
loop-piece-preserved g c = (
  record { at = λ xs. (c.loop-piece.invariant.0.at ((c.saturating_add-count.result, tt) ∷ xs)).1 c.handled.result c.handled.new.self c.handled.ensures },
  same_then (same_then c.loop-piece.invariant.1 c.run-report.ensures.same) c.forget.ensures.same,
  (
      let p : c.run-report.result.outcome ≡ Paused = same_true the_type (search rules) _ _ (not_false _ (sym c.if-ne.false ∙ c.ne.ensures)) in
      let g' = c.loop-piece.invariant.2 in
      let s = c.loop-piece.invariant.1 in
      let run = ran_with _ _ _ _ _ _ _ _ _ _ _ _ g' _ c.loop-piece.auto.sends c.run-report.ensures.runs in
      subst (λ y. Going c.args.program.code.now c.args.program.kinds.now c.args.end (length c.args.sends.now) (c.loop-piece._piece + 1) (memory_in c.args.lent.now) y) {x = forgotten (memory_in c.run-report.new.self)} (sym c.forget.ensures.forgets)
      (going_on _ _ _ _ _ _ _ _ _ _ _ _ g' (omega arith) p s.row_places s.line_places _ refl run)),
)

pub returns-clause-plays : goal.returns-clause-plays
returns-clause-plays g c = going_out _ _ _ _ _ _ _ c.loop-piece-test.false c.loop-piece.invariant.2
