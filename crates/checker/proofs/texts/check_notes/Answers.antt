use Rattle.std.proofs.Common.{◌≡◌, ℕ, ◌+◌, ◌-◌, [], length, sym, ap, ◌∙◌, arith}
use Rattle.std.proofs.lemmas.Bool.{eqb-true, eqb-false}
use Rattle.std.proofs.lemmas.Result.{err_from_is_err_and}
use Rattle.grammar.specs.Check.{taken, check_notes, most_notes}
use Rattle.checker.specs.Refusals.{map_checked, refused_by}
use Rattle.checker.specs.Texts.{sized}
use Rattle.checker.proofs.Wholes.{notes_end, notes_full, notes_other, notes_refused, notes_more}
use Rattle.checker.proofs.texts.check_notes.Goals as goal

pub returns-then-is_empty : goal.returns-then-is_empty
returns-then-is_empty c =
    sym c.loop-count.invariant ∙ notes_end c.args.things (most_notes - c.loop-count.count) c.loop-count.count c.loop-count.rest.now (eqb-true (length c.loop-count.rest.now) 0 (sym c.if-is_empty.ensures))

pub returns-in_err-rest : goal.returns-in_err-rest
returns-in_err-rest c =
    let p = err_from_is_err_and c.from_residual.result c.from_residual.ensures.1 in
    rw (p.1, p.2)
    (sym c.loop-count.invariant
    ∙ notes_refused c.args.things (most_notes - c.loop-count.count) c.loop-count.count c.loop-count.rest.now (λ z. omega (arith, z, c.loop-count-test.true)) (eqb-false (length c.loop-count.rest.now) 0 (sym c.if-is_empty.ensures)) _ _ c.in_err-rest.ensures)

pub loop-count-preserved : goal.loop-count-preserved
loop-count-preserved c =
    let n = most_notes - c.loop-count.count in
    let m : n - 1 ≡ most_notes - (c.loop-count.count + 1) = omega arith in
    ap (λ n. map_checked (sized (c.loop-count.count + 1)) (check_notes c.args.things n c.in_ok-rest.rest.now)) (sym m)
    ∙ sym (notes_more c.args.things n c.loop-count.count c.loop-count.rest.now (λ z. omega (arith, z, c.loop-count-test.true)) (eqb-false (length c.loop-count.rest.now) 0 (sym c.if-is_empty.ensures)) c.in_ok-rest.rest.now c.in_ok-rest.ensures)
    ∙ c.loop-count.invariant

pub returns-then-is_empty-2 : goal.returns-then-is_empty-2
returns-then-is_empty-2 c =
    let k : c.loop-count.count ≡ 65536 = omega (arith, c.loop-count-test.false, c.loop-count.auto.count-end) in
    sym c.loop-count.invariant
    ∙ notes_end c.args.things (most_notes - c.loop-count.count) c.loop-count.count c.loop-count.rest.now (eqb-true (length c.loop-count.rest.now) 0 (sym c.if-is_empty-2.ensures))
    ∙ ap (λ m. taken m []) k

pub returns-then-begins_with : goal.returns-then-begins_with
returns-then-begins_with c =
    sym c.loop-count.invariant
    ∙ notes_full c.args.things (most_notes - c.loop-count.count) c.loop-count.count c.loop-count.rest.now (omega (arith, c.loop-count-test.false)) c.if-begins_with.ensures
    ∙ ap (λ f. refused_by {A = ℕ} f) (sym c.at.ensures)

pub returns : goal.returns
returns c =
    sym c.loop-count.invariant
    ∙ notes_other c.args.things (most_notes - c.loop-count.count) c.loop-count.count c.loop-count.rest.now (omega (arith, c.loop-count-test.false))
    (eqb-false (length c.loop-count.rest.now) 0 (sym c.if-is_empty-2.ensures)) c.if-begins_with.ensures
    ∙ ap (λ f. refused_by {A = ℕ} f) (sym c.at-2.ensures)
