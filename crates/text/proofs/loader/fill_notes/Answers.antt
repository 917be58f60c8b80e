use Rattle.std.proofs.Common.{rules, ◌%◌, refl, ap, ◌∙◌}
use Rattle.text.specs.Slots.{row_in}
use Rattle.text.specs.Writes.{row_of}
use Rattle.text.proofs.Notes.{notes_begin, notes_more, notes_done}
use Rattle.text.proofs.loader.fill_notes.Goals as goal

pub loop-k-init : goal.loop-k-init
loop-k-init c =
    (refl, λ ns e s g h l. notes_begin c.args.text.now c.args.things c.args.count ns _ refl e s g l)

pub loop-k-preserved : goal.loop-k-preserved
loop-k-preserved c = (
  c.push.ensures.same ∙ c.loop-k.invariant.0,
  λ ns e s g h l.
      notes_more c.loop-k.rest.now c.args.things c.loop-k.k c.args.count ns (row_in c.loop-k.notes) (row_of 0 c.args.messages.now) (row_in c.push.new.self) c.note_at-time.result.0 c.note_at-time.result.1
      (c.args.things % 4294967296) c.note_at-time.result.2 c.note_at-time.result.3.now h refl c.loop-k-test.true c.note_at-time.ensures c.push.ensures.is (c.loop-k.invariant.1 ns e s g h l),
)

pub returns : goal.returns
returns c =
    let same = c.loop-k.invariant.0 in
    λ ns e s g h l. ◌∙◌ {b = c.loop-k.notes.items.now} (search rules) (ap (λ r. r.items) (notes_done c.loop-k.rest.now c.args.things c.loop-k.k c.args.count ns (row_in c.loop-k.notes) (row_of 0 c.args.messages.now) c.loop-k-test.false (c.loop-k.invariant.1 ns e s g h l)))
