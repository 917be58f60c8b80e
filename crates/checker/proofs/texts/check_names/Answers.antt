use Rattle.std.proofs.Common.{◌≡◌, ℕ, ◌+◌, ◌-◌, List, take, sym, ap, ◌∙◌, ap₂, arith}
use Rattle.std.proofs.lemmas.List.{take_more_set, map_push, length-set}
use Rattle.std.proofs.lemmas.Result.{err_from_is_err_and}
use Rattle.grammar.specs.Check.{taken, refused, check_names, most_names}
use Rattle.words.specs.Words.{unpack}
use Rattle.checker.specs.Refusals.{names_in, refused_by}
use Rattle.checker.proofs.Tables.{before, names_last, names_no_last, names_none, names_end, names_other, names_refused, names_more}
use Rattle.checker.proofs.texts.check_names.Goals as goal

pub returns-in_default-clause-answers : goal.returns-in_default-clause-answers
returns-in_default-clause-answers c =
    let ps = names_in (take c.loop-count.count c.loop-count.names) in
    sym c.loop-count.invariant.0
    ∙ names_none ps (most_names - c.loop-count.count) c.loop-count.rest.now (λ z. omega (arith, z, c.loop-count-test.true)) c.in_default.ensures.cases
    ∙ ap (λ f. refused_by {A = List (List ℕ)} f) (sym c.at.ensures)

pub returns-then-first-eq10-clause-answers : goal.returns-then-first-eq10-clause-answers
returns-then-first-eq10-clause-answers c =
    let ps = names_in (take c.loop-count.count c.loop-count.names) in
    let n = most_names - c.loop-count.count in
    sym c.loop-count.invariant.0 ∙ ap (λ r. before ps (check_names ps n r)) c.in-Some.ensures.cases.0
    ∙ names_end ps n c.in-Some.first.now c.in-Some.behind.now (λ z. omega (arith, z, c.loop-count-test.true)) c.if-first-eq10.true

pub returns-then-first-ne32-clause-answers : goal.returns-then-first-ne32-clause-answers
returns-then-first-ne32-clause-answers c =
    let ps = names_in (take c.loop-count.count c.loop-count.names) in
    let n = most_names - c.loop-count.count in
    sym c.loop-count.invariant.0 ∙ ap (λ r. before ps (check_names ps n r)) c.in-Some.ensures.cases.0
    ∙ names_other ps n c.in-Some.first.now c.in-Some.behind.now (λ z. omega (arith, z, c.loop-count-test.true)) c.if-first-eq10.false c.if-first-ne32.true
    ∙ ap (λ r. refused 1 r) (sym c.in-Some.ensures.cases.0) ∙ ap (λ f. refused_by {A = List (List ℕ)} f) (sym c.at-then-first-ne32.ensures)

pub returns-in_err-name-clause-answers : goal.returns-in_err-name-clause-answers
returns-in_err-name-clause-answers c =
    let ps = names_in (take c.loop-count.count c.loop-count.names) in
    let n = most_names - c.loop-count.count in
    let p = err_from_is_err_and c.from_residual.result c.from_residual.ensures.1 in
    rw (p.1, p.2)
    (sym c.loop-count.invariant.0 ∙ ap (λ r. before ps (check_names ps n r)) c.in-Some.ensures.cases.0
    ∙ names_refused ps n c.in-Some.first.now c.in-Some.behind.now (λ z. omega (arith, z, c.loop-count-test.true)) c.if-first-ne32.false _ _ c.in_err-name.ensures)

pub loop-count-preserved : goal.loop-count-preserved
loop-count-preserved c =
    let ps = names_in (take c.loop-count.count c.loop-count.names) in
    let n = most_names - c.loop-count.count in
    let some = c.in-Some in
    let new = c.in_ok-name in
    let m : n - 1 ≡ most_names - (c.loop-count.count + 1) = omega arith in
    let t =
    ap (λ ps. names_in ps) (take_more_set c.loop-count.names c.loop-count.count new.name (omega (arith, c.loop-count.invariant.1, c.loop-count-test.true)))
    ∙ map_push unpack (take c.loop-count.count c.loop-count.names) new.name
    in (
      ap₂ (λ ps n. before ps (check_names ps n new.next.now)) t (sym m)
          ∙ sym (names_more ps n some.first.now some.behind.now (λ z. omega (arith, z, c.loop-count-test.true)) c.if-first-ne32.false (unpack new.name) new.next.now new.ensures)
          ∙ ap (λ r. before ps (check_names ps n r)) (sym some.ensures.cases.0) ∙ c.loop-count.invariant.0,
      length-set c.loop-count.names c.loop-count.count new.name ∙ c.loop-count.invariant.1,
    )

pub returns-in_err-rest-clause-answers : goal.returns-in_err-rest-clause-answers
returns-in_err-rest-clause-answers c =
    let ps = names_in (take c.loop-count.count c.loop-count.names) in
    let n = most_names - c.loop-count.count in
    let p = err_from_is_err_and c.from_residual-in_err-rest.result c.from_residual-in_err-rest.ensures.1 in
    rw (p.1, p.2)
    (sym c.loop-count.invariant.0 ∙ names_no_last ps n c.loop-count.rest.now _ (omega (arith, c.loop-count-test.false)) c.in_err-rest.ensures)

pub returns-clause-answers : goal.returns-clause-answers
returns-clause-answers c =
    let ps = names_in (take c.loop-count.count c.loop-count.names) in
    let n = most_names - c.loop-count.count in
    let k : c.loop-count.count ≡ 64 = omega (arith, c.loop-count-test.false, c.loop-count.auto.count-end) in
    sym c.loop-count.invariant.0 ∙ names_last ps n c.loop-count.rest.now c.in_ok-rest.rest.now (omega (arith, c.loop-count-test.false)) c.in_ok-rest.ensures
    ∙ ap (λ m. taken (names_in (take m c.loop-count.names)) c.in_ok-rest.rest.now) k
