use Rattle.std.proofs.Common.{rules, refl, ap, ◌∙◌}
use Rattle.text.specs.Slots.{row_in}
use Rattle.text.specs.Writes.{row_of}
use Rattle.text.proofs.Things.{things_begin, things_more, things_done}
use Rattle.text.proofs.loader.fill_things.Goals as goal

pub loop-i-init : goal.loop-i-init
loop-i-init c =
    (refl, refl, λ ks xs k pk h e s g l. things_begin c.args.text.now c.args.count ks xs k _ _ refl refl e s g l)

pub loop-i-preserved : goal.loop-i-preserved
loop-i-preserved c = (
  c.push.ensures.same ∙ c.loop-i.invariant.0,
  c.fill_row-width.ensures.same ∙ c.loop-i.invariant.1,
  λ ks xs k pk h e s g l.
      things_more c.loop-i.rest.now c.loop-i._i c.args.count ks xs k (row_in c.loop-i.things) (row_of 0 c.args.processes.now) (row_in c.loop-i.rows) (row_of 0 c.args.vars.now) c.args.kinds c.args.names.now c.skip.result.now c.name_at-name.result.0 c.name_at-name.result.1.now
      c.fill_row-width.result.1.now c.fill_row-width.result.0 (row_in c.fill_row-width.new.slots) c.kind_of.result (row_in c.push.new.self) c.skip-rest.result.now pk h c.loop-i-test.true c.skip.ensures
      c.name_at-name.ensures c.fill_row-width.ensures.is c.kind_of.ensures.is c.kind_of.ensures.inside c.push.ensures.is c.skip-rest.ensures (c.loop-i.invariant.2 ks xs k pk h e s g l),
)

pub returns : goal.returns
returns c =
    let a = c.loop-i.invariant.0 in
    let b = c.loop-i.invariant.1 in
    λ ks xs k pk h e s g l.
    (let q = things_done c.loop-i.rest.now c.loop-i._i c.args.count ks xs k (row_in c.loop-i.things) (row_of 0 c.args.processes.now) (row_in c.loop-i.rows) (row_of 0 c.args.vars.now) c.loop-i-test.false (c.loop-i.invariant.2 ks xs k pk h e s g l) in
    record { goes_on = q.0; processes_are = ◌∙◌ {b = c.loop-i.things.items.now} (search rules) (ap (λ r. r.items) q.1); vars_are = ◌∙◌ {b = c.loop-i.rows.items.now} (search rules) (ap (λ r. r.items) q.2) })
