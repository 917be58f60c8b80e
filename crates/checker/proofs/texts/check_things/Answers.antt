use Rattle.std.proofs.Common.{◌≡◌, ◌+◌, ◌-◌, [], sym, ap, ◌∙◌, arith}
use Rattle.std.proofs.lemmas.Result.{err_from_is_err_and}
use Rattle.grammar.specs.Check.{taken, check_thing, check_notes, check_things, most_notes, most_things}
use Rattle.checker.specs.Refusals.{map_checked}
use Rattle.checker.specs.Texts.{Amounts, amounts, sized, known_in}
use Rattle.checker.proofs.Wholes.{things_notes, things_notes_refused, things_full, things_refused, things_more, cut_same}
use Rattle.checker.proofs.texts.check_things.Goals as goal

pub returns-in_err-notes : goal.returns-in_err-notes
returns-in_err-notes c =
    let ks = known_in c.args.kinds.now in
    let n = most_things - c.loop-things.things in
    let t = c.loop-things.things in
    let bs = c.loop-things.rest.now in
    let p = err_from_is_err_and c.from_residual.result c.from_residual.ensures.1 in
    rw (p.1, p.2) (sym c.loop-things.invariant ∙ things_notes_refused ks t n t bs c.if-not-begins_with.ensures _ _ c.in_err-notes.ensures)

pub returns-then-not-begins_with : goal.returns-then-not-begins_with
returns-then-not-begins_with c =
    let ks = known_in c.args.kinds.now in
    let n = most_things - c.loop-things.things in
    let t = c.loop-things.things in
    let bs = c.loop-things.rest.now in
    sym c.loop-things.invariant ∙ things_notes ks t n t bs c.if-not-begins_with.ensures c.in_ok-notes.notes c.in_ok-notes.ensures

pub returns-in_err-rest : goal.returns-in_err-rest
returns-in_err-rest c =
    let ks = known_in c.args.kinds.now in
    let n = most_things - c.loop-things.things in
    let t = c.loop-things.things in
    let bs = c.loop-things.rest.now in
    let p = err_from_is_err_and c.from_residual-in_err-rest.result c.from_residual-in_err-rest.ensures.1 in
    rw (p.1, p.2) (sym c.loop-things.invariant ∙ things_refused ks t n t bs (λ z. omega (arith, z, c.loop-things-test.true)) c.if-not-begins_with.ensures _ _ c.in_err-rest.ensures)

pub loop-things-preserved : goal.loop-things-preserved
loop-things-preserved c =
    let ks = known_in c.args.kinds.now in
    let n = most_things - c.loop-things.things in
    let t = c.loop-things.things in
    let bs = c.loop-things.rest.now in
    let m : n - 1 ≡ most_things - (t + 1) = omega arith in
    ap (λ n. map_checked (amounts (t + 1)) (check_things ks (t + 1) n c.in_ok-rest.rest.now)) (sym m)
    ∙ sym (things_more ks t n t bs (λ z. omega (arith, z, c.loop-things-test.true)) c.if-not-begins_with.ensures c.in_ok-rest.rest.now c.in_ok-rest.ensures) ∙ c.loop-things.invariant

pub returns-then-begins_with : goal.returns-then-begins_with
returns-then-begins_with c =
    let ks = known_in c.args.kinds.now in
    let n = most_things - c.loop-things.things in
    let t = c.loop-things.things in
    let bs = c.loop-things.rest.now in
    let f = c.cut_off.result in
    let r = cut_same bs (check_thing ks bs) c.check_thing-then-begins_with.result f c.check_thing-then-begins_with.ensures c.cut_off.ensures in
    sym c.loop-things.invariant ∙ things_full ks t n t bs (omega (arith, c.loop-things-test.false)) c.if-begins_with.ensures _ _ r

pub returns-in_err-notes-2 : goal.returns-in_err-notes-2
returns-in_err-notes-2 c =
    let ks = known_in c.args.kinds.now in
    let n = most_things - c.loop-things.things in
    let t = c.loop-things.things in
    let bs = c.loop-things.rest.now in
    let k : t ≡ 65536 = omega (arith, c.loop-things-test.false, c.loop-things.auto.things-end) in
    let e = ap (λ m. map_checked (sized 0) (check_notes m most_notes bs)) k ∙ c.in_err-notes-2.ensures in
    let p = err_from_is_err_and c.from_residual-in_err-notes-2.result c.from_residual-in_err-notes-2.ensures.1 in
    rw (p.1, p.2) (sym c.loop-things.invariant ∙ things_notes_refused ks t n t bs c.if-begins_with.ensures _ _ e)

pub returns : goal.returns
returns c =
    let ks = known_in c.args.kinds.now in
    let n = most_things - c.loop-things.things in
    let t = c.loop-things.things in
    let bs = c.loop-things.rest.now in
    let k : t ≡ 65536 = omega (arith, c.loop-things-test.false, c.loop-things.auto.things-end) in
    let e = ap (λ m. map_checked (sized 0) (check_notes m most_notes bs)) k ∙ c.in_ok-notes-2.ensures in
    sym c.loop-things.invariant ∙ things_notes ks t n t bs c.if-begins_with.ensures c.in_ok-notes-2.notes e
    ∙ ap (λ m. let a : Amounts = record { things = m; notes = c.in_ok-notes-2.notes } in taken a []) k
