use Rattle.std.proofs.Common.{◌≡◌, ◌+◌, ◌-◌, sym, ap, ◌∙◌, arith}
use Rattle.grammar.specs.Check.{broken, check_row}
use Rattle.checker.specs.Refusals.{map_checked, number_of, refused_by}
use Rattle.checker.specs.Texts.{Length, row_length, rest_of}
use Rattle.checker.proofs.Rows.{broken_same, row_zero, row_none, row_end, row_other, row_bad, row_more}
use Rattle.checker.proofs.texts.check_row.Goals as goal

pub returns-in_default : goal.returns-in_default
returns-in_default c =
    sym c.loop-count.invariant
    ∙ row_none (c.args.most - c.loop-count.count) c.loop-count.count (rest_of c.loop-count.large) (λ z. omega (arith, z, c.loop-count-test.true)) c.loop-count.rest.now c.in_default.ensures.cases
    ∙ broken_same (rest_of c.loop-count.large) c.loop-count.rest.now (number_of c.broken.result.rule) c.broken.result.from.now c.broken.ensures

pub returns-then-first-eq10 : goal.returns-then-first-eq10
returns-then-first-eq10 c =
    let n = c.args.most - c.loop-count.count in
    sym c.loop-count.invariant ∙ ap (λ r. map_checked (row_length c.loop-count.count) (check_row n (rest_of c.loop-count.large) r)) c.in-Some.ensures.cases.0
    ∙ row_end n c.loop-count.count (rest_of c.loop-count.large) (λ z. omega (arith, z, c.loop-count-test.true)) c.in-Some.first.now c.in-Some.behind.now c.if-first-eq10.true

pub returns-then-first-ne32 : goal.returns-then-first-ne32
returns-then-first-ne32 c =
    let n = c.args.most - c.loop-count.count in
    let f = c.broken-then-first-ne32 in
    sym c.loop-count.invariant ∙ ap (λ r. map_checked (row_length c.loop-count.count) (check_row n (rest_of c.loop-count.large) r)) c.in-Some.ensures.cases.0
    ∙ row_other n c.loop-count.count (rest_of c.loop-count.large) (λ z. omega (arith, z, c.loop-count-test.true)) c.in-Some.first.now c.in-Some.behind.now c.if-first-eq10.false c.if-first-ne32.true
    ∙ ap (λ r. broken {A = Length} (rest_of c.loop-count.large) r) (sym c.in-Some.ensures.cases.0)
    ∙ broken_same (rest_of c.loop-count.large) c.loop-count.rest.now (number_of f.result.rule) f.result.from.now f.ensures

pub returns-in-Err : goal.returns-in-Err
returns-in-Err c =
    let n = c.args.most - c.loop-count.count in
    let f = c.broken-in-Err in
    sym c.loop-count.invariant ∙ ap (λ r. map_checked (row_length c.loop-count.count) (check_row n (rest_of c.loop-count.large) r)) c.in-Some.ensures.cases.0
    ∙ row_bad n c.loop-count.count (rest_of c.loop-count.large) (λ z. omega (arith, z, c.loop-count-test.true)) c.in-Some.first.now c.in-Some.behind.now c.if-first-ne32.false c.in-Err.next.now c.in-Err.ensures
    ∙ broken_same (rest_of c.loop-count.large) c.in-Err.next.now (number_of f.result.rule) f.result.from.now f.ensures

pub loop-count-preserved : goal.loop-count-preserved
loop-count-preserved c =
    let n = c.args.most - c.loop-count.count in
    let m : n - 1 ≡ c.args.most - (c.loop-count.count + 1) = omega arith in
    ap (λ n. map_checked (row_length (c.loop-count.count + 1)) (check_row n (rest_of c.first_large-large.result) c.in-Ok.next.now)) (sym m)
    ∙ sym (row_more n c.loop-count.count (rest_of c.loop-count.large) (λ z. omega (arith, z, c.loop-count-test.true)) c.in-Some.first.now c.in-Some.behind.now c.if-first-ne32.false c.in-Ok.digits.now c.in-Ok.next.now
    (rest_of c.first_large-large.result) c.in-Ok.ensures c.first_large-large.ensures)
    ∙ ap (λ r. map_checked (row_length c.loop-count.count) (check_row n (rest_of c.loop-count.large) r)) (sym c.in-Some.ensures.cases.0) ∙ c.loop-count.invariant

pub returns : goal.returns
returns c =
    sym c.loop-count.invariant
    ∙ row_zero (c.args.most - c.loop-count.count) c.loop-count.count (rest_of c.loop-count.large) c.loop-count.rest.now (omega (arith, c.loop-count-test.false))
    ∙ ap (λ f. refused_by {A = Length} f) (sym c.at.ensures)
