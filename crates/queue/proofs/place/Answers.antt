use Rattle.std.proofs.Common.{◌≡◌, ◌+◌, ◌-◌, set, get_or, sym, subst, arith}
use Rattle.queue.specs.Row.{Inserted}
use Rattle.queue.proofs.place.Goals as goal
use Rattle.queue.proofs.Shift.{Shifted, shifted_none, shifted_more, shifted_all, front_where_none, front_where_later}

pub loop-at-init : goal.loop-at-init
loop-at-init c = shifted_none _ _ _

pub loop-at-preserved : goal.loop-at-preserved
loop-at-preserved c =
    let e : c.loop-at.at ≡ c.loop-at.at - 1 + 1 = omega arith in
    subst (λ n. Shifted c.args.m c.args.row.now c.args.len (set c.loop-at.row n (get_or c.loop-at.row (c.loop-at.at - 1) (record { time = 0; to = 0; from = 0; count = 0; number = 0 }))) (c.loop-at.at - 1)) e
    (shifted_more c.args.m c.args.row.now c.args.len c.loop-at.row (omega arith) c.loop-at.at _ c.loop-at-test.true
    (sym c.if-is_before.ensures) c.loop-at.invariant)

pub returns-then-is_before : goal.returns-then-is_before
returns-then-is_before c =
    let e : c.loop-at.at ≡ c.loop-at.at - 1 + 1 = omega arith in
    subst (λ n. Inserted c.args.m c.args.row.now c.args.len (set c.loop-at.row n c.args.m) (c.args.len + 1)) e
    (shifted_all c.args.m c.args.row.now c.args.len c.loop-at.row (omega arith) c.loop-at.at c.loop-at.auto.row
    (front_where_later _ _ _ _ c.loop-at-test.true (omega arith) (sym c.if-is_before.ensures)) c.loop-at.invariant)

pub returns : goal.returns
returns c =
    let e : c.loop-at.at ≡ 0 = omega arith in
    subst (λ n. Inserted c.args.m c.args.row.now c.args.len (set c.loop-at.row n c.args.m) (c.args.len + 1)) e
    (shifted_all c.args.m c.args.row.now c.args.len c.loop-at.row (omega arith) c.loop-at.at c.loop-at.auto.row
    (front_where_none c.args.m c.loop-at.row c.loop-at.at (omega arith)) c.loop-at.invariant)
