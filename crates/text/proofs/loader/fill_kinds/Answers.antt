use Rattle.std.proofs.Common.{rules, refl, ap, ◌∙◌}
use Rattle.text.specs.Slots.{row_in}
use Rattle.text.specs.Writes.{row_of}
use Rattle.text.proofs.Wholes.{kinds_begin, kinds_more, kinds_done}
use Rattle.text.proofs.loader.fill_kinds.Goals as goal

pub loop-i-init : goal.loop-i-init
loop-i-init c =
    (refl, refl, refl, λ ks k e s r h m n l. kinds_begin c.args.text.now c.args.count ks k _ _ _ refl refl refl e s r h m n l)

pub loop-i-preserved : goal.loop-i-preserved
loop-i-preserved c = (
  c.fill_kind-rest.ensures.same_code ∙ c.loop-i.invariant.0,
  c.push.ensures.same ∙ c.loop-i.invariant.1,
  c.fill_kind-rest.ensures.same ∙ c.loop-i.invariant.2,
  λ ks k e s r h m n l.
      kinds_more c.loop-i.rest.now c.loop-i._i c.args.count ks k (row_in c.loop-i.words) (row_of 0 c.args.code.now) (row_in c.loop-i.starts) (row_of 0 c.args.kinds.now) (row_in c.loop-i.rows) (row_of 0 c.args.names.now)
      c.fill_kind-rest.result.now (row_in c.fill_kind-rest.new.names) (row_in c.fill_kind-rest.new.code) (row_in c.push.new.self) c.loop-i-test.true c.fill_kind-rest.ensures.is c.push.ensures.is
      (c.loop-i.invariant.3 ks k e s r h m n l),
)

pub returns : goal.returns
returns c =
    let a = c.loop-i.invariant.0 in
    let b = c.loop-i.invariant.1 in
    let d = c.loop-i.invariant.2 in
    λ ks k e s r h m n l.
    (let q = kinds_done c.loop-i.rest.now c.loop-i._i c.args.count ks k (row_in c.loop-i.words) (row_of 0 c.args.code.now) (row_in c.loop-i.starts) (row_of 0 c.args.kinds.now) (row_in c.loop-i.rows) (row_of 0 c.args.names.now) c.loop-i-test.false (c.loop-i.invariant.3 ks k e s r h m n l) in
    record { goes_on = q.0; code_is = ◌∙◌ {b = c.loop-i.words.items.now} (search rules) (ap (λ x. x.items) q.1); kinds_are = ◌∙◌ {b = c.loop-i.starts.items.now} (search rules) (ap (λ x. x.items) q.2); names_are = ◌∙◌ {b = c.loop-i.rows.items.now} (search rules) (ap (λ x. x.items) q.3) })
