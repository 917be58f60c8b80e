use Rattle.std.proofs.Common.{◌≡◌, ◌+◌, ◌-◌, ◌≤◌, [], length, take, refl, sym, ap, ◌∙◌, ap₂, arith}
use Rattle.std.proofs.lemmas.List.{take_more_set, map_push, length-set, length-take-le}
use Rattle.std.proofs.lemmas.Result.{err_from_is_err_and}
use Rattle.grammar.specs.Check.{check_kinds}
use Rattle.checker.specs.Refusals.{map_checked, refused_by}
use Rattle.checker.specs.Texts.{Sizes, known_by, known_in, sizes}
use Rattle.checker.proofs.Wholes.{kinds_things, kinds_things_refused, kinds_refused, kind_shorter, kinds_more, kinds_full}
use Rattle.checker.proofs.texts.check_kinds.Goals as goal

pub loop-table-init : goal.loop-table-init
loop-table-init c =
    let z : length c.args.text.now - length c.args.text.now ≡ 0 = omega arith in
    (ap (λ n. map_checked (sizes n 0) (check_kinds 4097 [] 4096 c.args.text.now)) z, omega arith, omega arith, refl)

pub slice_bounds-table-end : goal.slice_bounds-table-end
slice_bounds-table-end c = omega (arith, c.loop-table.invariant.2, c.loop-table.invariant.3)

pub slice_bounds-check_kind-end : goal.slice_bounds-check_kind-end
slice_bounds-check_kind-end c =
    let n : c.loop-table.kinds ≤ length c.loop-table.table = omega (arith, c.loop-table.invariant.2, c.loop-table.invariant.3) in
    sym (length-take-le c.loop-table.kinds c.loop-table.table n)

pub returns-in_err-kind : goal.returns-in_err-kind
returns-in_err-kind c =
    let ks = known_in (take c.loop-table.kinds c.loop-table.table) in
    let n = 4097 - c.loop-table.kinds in
    let bs = c.loop-table.rest.now in
    let at = length c.args.text.now - length bs in
    let some : n ≡ 0 → ⊥ = λ z. omega (arith, z, c.loop-table.invariant.2) in
    let p = err_from_is_err_and c.from_residual.result c.from_residual.ensures.1 in
    rw (p.1, p.2) (sym c.loop-table.invariant.0 ∙ kinds_refused n ks c.loop-table.left c.loop-table.kinds at bs some c.loop-table-test.ensures _ _ c.in_err-kind.ensures)

pub returns-then-kinds-eq-LINES : goal.returns-then-kinds-eq-LINES
returns-then-kinds-eq-LINES c =
    let ks = known_in (take c.loop-table.kinds c.loop-table.table) in
    let n = 4097 - c.loop-table.kinds in
    let bs = c.loop-table.rest.now in
    let at = length c.args.text.now - length bs in
    let some : n ≡ 0 → ⊥ = λ z. omega (arith, z, c.loop-table.invariant.2) in
    sym c.loop-table.invariant.0
    ∙ kinds_full n ks c.loop-table.left c.loop-table.kinds at bs some c.loop-table-test.ensures (known_by c.in_ok-kind.kind) c.in_ok-kind.behind c.in_ok-kind.next.now c.in_ok-kind.ensures
    (omega (arith, c.if-kinds-eq-LINES.true)) (length c.args.text.now) refl c.loop-table.invariant.1
    ∙ ap (λ f. refused_by {A = Sizes} f) (sym c.at.ensures)

pub loop-table-preserved : goal.loop-table-preserved
loop-table-preserved c =
    let ks = known_in (take c.loop-table.kinds c.loop-table.table) in
    let n = 4097 - c.loop-table.kinds in
    let bs = c.loop-table.rest.now in
    let at = length c.args.text.now - length bs in
    let some : n ≡ 0 → ⊥ = λ z. omega (arith, z, c.loop-table.invariant.2) in
    let m : n - 1 ≡ 4097 - (c.loop-table.kinds + 1) = omega arith in
    let next = c.in_ok-kind.next.now in
    let here : c.loop-table.kinds + 1 ≤ length c.loop-table.table = omega (arith, c.loop-table.invariant.2, c.loop-table.invariant.3, c.if-kinds-eq-LINES.false) in
    let t = ap (λ ks. known_in ks) (take_more_set c.loop-table.table c.loop-table.kinds c.in_ok-kind.kind (omega (arith, here))) ∙ map_push known_by (take c.loop-table.kinds c.loop-table.table) c.in_ok-kind.kind in
    let s = kind_shorter n ks c.loop-table.left c.loop-table.kinds at bs some c.loop-table-test.ensures (known_by c.in_ok-kind.kind) c.in_ok-kind.behind next c.in_ok-kind.ensures in (
      ap₂ (λ ks n. map_checked (sizes (length c.args.text.now - length next) (c.loop-table.kinds + 1)) (check_kinds n ks c.in_ok-kind.behind next)) t (sym m)
          ∙ sym (kinds_more n ks c.loop-table.left c.loop-table.kinds at bs some c.loop-table-test.ensures (known_by c.in_ok-kind.kind) c.in_ok-kind.behind next c.in_ok-kind.ensures
          (length c.args.text.now - length next) (length c.args.text.now) refl refl c.loop-table.invariant.1)
          ∙ c.loop-table.invariant.0,
      omega (arith, s, c.loop-table.invariant.1),
      omega (arith, here, c.loop-table.invariant.3),
      length-set c.loop-table.table c.loop-table.kinds c.in_ok-kind.kind ∙ c.loop-table.invariant.3,
    )

pub slice_bounds-table-end-2 : goal.slice_bounds-table-end-2
slice_bounds-table-end-2 c = omega (arith, c.loop-table.invariant.2, c.loop-table.invariant.3)

pub slice_bounds-check_things-end : goal.slice_bounds-check_things-end
slice_bounds-check_things-end c =
    let n : c.loop-table.kinds ≤ length c.loop-table.table = omega (arith, c.loop-table.invariant.2, c.loop-table.invariant.3) in
    sym (length-take-le c.loop-table.kinds c.loop-table.table n)

pub returns-in_err-things : goal.returns-in_err-things
returns-in_err-things c =
    let ks = known_in (take c.loop-table.kinds c.loop-table.table) in
    let n = 4097 - c.loop-table.kinds in
    let bs = c.loop-table.rest.now in
    let at = length c.args.text.now - length bs in
    let some : n ≡ 0 → ⊥ = λ z. omega (arith, z, c.loop-table.invariant.2) in
    let p = err_from_is_err_and c.from_residual-in_err-things.result c.from_residual-in_err-things.ensures.1 in
    rw (p.1, p.2) (sym c.loop-table.invariant.0 ∙ kinds_things_refused n ks c.loop-table.left c.loop-table.kinds at bs some c.loop-table-test.ensures _ _ c.in_err-things.ensures)

pub overflow_sub-result : goal.overflow_sub-result
overflow_sub-result c = c.loop-table.invariant.1

pub returns : goal.returns
returns c =
    let ks = known_in (take c.loop-table.kinds c.loop-table.table) in
    let n = 4097 - c.loop-table.kinds in
    let bs = c.loop-table.rest.now in
    let at = length c.args.text.now - length bs in
    let some : n ≡ 0 → ⊥ = λ z. omega (arith, z, c.loop-table.invariant.2) in
    let counts = c.in_ok-things.field-0 in
    sym c.loop-table.invariant.0 ∙ kinds_things n ks c.loop-table.left c.loop-table.kinds at bs some c.loop-table-test.ensures counts.things counts.notes c.in_ok-things.ensures
