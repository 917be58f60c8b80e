use Rattle.std.proofs.Common.{◌≡◌, ◌+◌, ◌-◌, ◌*◌, get_or, drop, sym, ap, ◌∙◌, arith, rules}
use Rattle.grammar.specs.Check.{decimal}
use Rattle.words.proofs.Decimals.{decimal_grows, decimal_more, decimal_none, too_much, not_too_much}
use Rattle.words.proofs.number_of.Goals as goal

pub returns-in_err-checked_mul : goal.returns-in_err-checked_mul
returns-in_err-checked_mul c =
    let d = get_or c.args.digits.now c.loop-d.d-index 0 in
    let m = decimal_more c.loop-d.n c.args.digits.now c.loop-d.d-index c.loop-d-test.true in
    let g = decimal_grows (c.loop-d.n * 10 + (d - 48)) (drop (c.loop-d.d-index + 1) c.args.digits.now) in
    c.from_residual.ensures ∙ too_much c.args.digits.now (omega (arith, m, g, c.loop-d.invariant.0, c.in_err-checked_mul.ensures))

pub returns-in_err-n : goal.returns-in_err-n
returns-in_err-n c =
    let d = get_or c.args.digits.now c.loop-d.d-index 0 in
    let m = decimal_more c.loop-d.n c.args.digits.now c.loop-d.d-index c.loop-d-test.true in
    let g = decimal_grows (c.loop-d.n * 10 + (d - 48)) (drop (c.loop-d.d-index + 1) c.args.digits.now) in
    let e : c.from.result ≡ d - 48 = search rules in
    c.from_residual-in_err-n.ensures
    ∙ too_much c.args.digits.now (omega (arith, m, g, e, c.loop-d.invariant.0, c.in_ok-checked_mul.ensures, c.in_err-n.ensures))

pub loop-d-preserved : goal.loop-d-preserved
loop-d-preserved c =
    let d = get_or c.args.digits.now c.loop-d.d-index 0 in
    let e : c.from.result ≡ d - 48 = search rules in
    let n : c.in_ok-n.n ≡ c.loop-d.n * 10 + (d - 48) = omega (arith, e, c.in_ok-checked_mul.ensures, c.in_ok-n.ensures) in (
      ap (λ x. decimal x (drop (c.loop-d.d-index + 1) c.args.digits.now)) n ∙ sym (decimal_more c.loop-d.n c.args.digits.now c.loop-d.d-index c.loop-d-test.true) ∙ c.loop-d.invariant.0,
      omega (arith, c.in_ok-n.ensures),
    )

pub returns : goal.returns
returns c = not_too_much c.args.digits.now c.loop-d.n (sym (decimal_none c.loop-d.n c.args.digits.now c.loop-d.d-index (omega arith)) ∙ c.loop-d.invariant.0) c.loop-d.invariant.1
