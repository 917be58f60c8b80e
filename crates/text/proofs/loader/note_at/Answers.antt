use Rattle.text.proofs.Notes.{note_by}
use Rattle.text.proofs.loader.note_at.Goals as goal

pub returns : goal.returns
returns c =
    note_by c.args.text.now c.skip.result.now c.number_at-time.result.0 c.number_at-time.result.1.now c.skip-2.result.now c.number_at-to.result.0 c.number_at-to.result.1.now c.skip-3.result.now
    c.number_at-number.result.0 c.number_at-number.result.1.now c.skip-4.result.now c.skip.ensures c.number_at-time.ensures c.skip-2.ensures c.number_at-to.ensures c.skip-3.ensures c.number_at-number.ensures c.skip-4.ensures
