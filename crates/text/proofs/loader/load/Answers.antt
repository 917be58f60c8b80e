use Rattle.std.proofs.Common.{Err, sym, subst}
use Rattle.text.specs.Loaded.{Loaded, slices_in}
use Rattle.text.proofs.Loads.{text_of, kinds_few, things_few, too_short, takes}
use Rattle.text.proofs.loader.load.Goals as goal

pub is_roomy-requires-clause-kinds : goal.is_roomy-requires-clause-kinds
is_roomy-requires-clause-kinds c =
    kinds_few c.args.bytes.now c.in_ok-extent.extent (text_of c.args.bytes.now c.in_ok-extent.extent c.in_ok-extent.ensures)

pub is_roomy-requires-clause-things : goal.is_roomy-requires-clause-things
is_roomy-requires-clause-things c =
    things_few c.args.bytes.now c.in_ok-extent.extent (text_of c.args.bytes.now c.in_ok-extent.extent c.in_ok-extent.ensures)

pub returns-then-not-is_roomy-clause-is : goal.returns-then-not-is_roomy-clause-is
returns-then-not-is_roomy-clause-is c =
    subst (λ f. Loaded c.args.bytes.now (slices_in c.args.lent.now) (slices_in c.args.lent.now) (Err f)) (sym c.refusal.ensures)
    (too_short c.args.bytes.now c.in_ok-extent.extent (slices_in c.args.lent.now) (text_of c.args.bytes.now c.in_ok-extent.extent c.in_ok-extent.ensures) c.if-not-is_roomy.ensures)

pub returns-clause-is : goal.returns-clause-is
returns-clause-is c =
    let x = text_of c.args.bytes.now c.in_ok-extent.extent c.in_ok-extent.ensures in
    takes c.args.bytes.now c.in_ok-extent.extent (slices_in c.args.lent.now) (slices_in c.fill.new.lent) x c.if-not-is_roomy.ensures
    (λ r. c.fill.ensures.is x.tree x.is_text x.keeps (sym x.measures.kinds) (sym x.measures.things) (sym x.measures.notes) r)
