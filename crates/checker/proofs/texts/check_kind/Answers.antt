use Rattle.std.proofs.Common.{◌≤◌, length, take, ap, sym, ◌∙◌, arith}
use Rattle.std.proofs.lemmas.List.{length-map, length-take-le}
use Rattle.std.proofs.lemmas.Result.{err_from_is_err_and, IfOk-at_ok}
use Rattle.grammar.specs.Check.{taken, check_first}
use Rattle.words.specs.Words.{unpack}
use Rattle.checker.specs.Refusals.{map_checked, read}
use Rattle.checker.specs.Texts.{known_in, first_from}
use Rattle.checker.proofs.Longs.{line_kept, line_refused, left_same, map_same, refused_of}
use Rattle.checker.proofs.Tables.{kind_refused, kind_broken, kind_whole}
use Rattle.checker.proofs.texts.check_kind.Goals as goal

pub returns-in_err-kind : goal.returns-in_err-kind
returns-in_err-kind c =
    let ks = known_in c.args.kinds.now in
    let bs = c.args.text.now in
    let ps = c.check_first-first.new.names in
    let R = c.check_first-first.result in
    let p = err_from_is_err_and c.from_residual.result c.from_residual.ensures.1 in
    let x = c.in_err-kind.field-0.0 in
    let e = left_same (λ x. x) (first_from ps) (check_first ks bs) (read R) (map_same (check_first ks bs) ∙ c.check_first-first.ensures.answers) in
    let r = line_refused (λ _. tt {0}) (λ _. tt {0}) bs (check_first ks bs) R x e c.in_err-kind.ensures in
    rw (p.1, p.2) (kind_refused ks c.args.left bs _ _ c.if-left-eq0.false (refused_of _ _ _ r))

pub slice_bounds-names-end : goal.slice_bounds-names-end
slice_bounds-names-end c =
    let k = line_kept c.args.text.now c.check_first-first.result (c.in_ok-kind.kind, c.in_ok-kind.rest) c.in_ok-kind.ensures (check_first (known_in c.args.kinds.now) c.args.text.now) in
    let f = IfOk-at_ok (λ k. k.0.count ≤ 64) k.0 c.check_first-first.ensures.fits in
    omega (arith, f, c.check_first-first.auto.names)

pub slice_bounds-scope-end : goal.slice_bounds-scope-end
slice_bounds-scope-end c =
    let k = line_kept c.args.text.now c.check_first-first.result (c.in_ok-kind.kind, c.in_ok-kind.rest) c.in_ok-kind.ensures (check_first (known_in c.args.kinds.now) c.args.text.now) in
    let f = IfOk-at_ok (λ k. k.0.count ≤ 64) k.0 c.check_first-first.ensures.fits in
    let n : c.in_ok-kind.kind.count ≤ length c.check_first-first.new.names = omega (arith, f, c.check_first-first.auto.names) in
    sym (length-take-le c.in_ok-kind.kind.count c.check_first-first.new.names n)

pub returns-in_err-left : goal.returns-in_err-left
returns-in_err-left c =
    let ks = known_in c.args.kinds.now in
    let bs = c.args.text.now in
    let ps = c.check_first-first.new.names in
    let k = line_kept bs c.check_first-first.result (c.in_ok-kind.kind, c.in_ok-kind.rest) c.in_ok-kind.ensures (check_first ks bs) in
    let h = k.1 ∙ c.check_first-first.ensures.answers ∙ ap (λ r. map_checked (first_from ps) (read r)) k.0 in
    let p = err_from_is_err_and c.from_residual-in_err-left.result c.from_residual-in_err-left.ensures.1 in
    rw (p.1, p.2) (kind_broken ks c.args.left bs (first_from ps c.in_ok-kind.kind) c.in_ok-kind.rest.now _ _ c.if-left-eq0.false h c.in_err-left.ensures)

pub returns : goal.returns
returns c =
    let ks = known_in c.args.kinds.now in
    let bs = c.args.text.now in
    let ps = c.check_first-first.new.names in
    let kind = c.in_ok-kind.kind in
    let k = line_kept bs c.check_first-first.result (kind, c.in_ok-kind.rest) c.in_ok-kind.ensures (check_first ks bs) in
    let h = k.1 ∙ c.check_first-first.ensures.answers ∙ ap (λ r. map_checked (first_from ps) (read r)) k.0 in
    let f = IfOk-at_ok (λ k. k.0.count ≤ 64) k.0 c.check_first-first.ensures.fits in
    let n : kind.count ≤ length ps = omega (arith, f, c.check_first-first.auto.names) in
    kind_whole ks c.args.left bs (first_from ps kind) c.in_ok-kind.rest.now _ c.in_ok-left.left c.in_ok-left.rest.now c.if-left-eq0.false h c.in_ok-left.ensures
    ∙ ap (λ m. taken (record { kind = record { name = unpack kind.name; count = m }; left = c.in_ok-left.left }) c.in_ok-left.rest.now) (length-map (take kind.count ps) unpack ∙ length-take-le kind.count ps n)
