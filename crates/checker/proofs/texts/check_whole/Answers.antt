use Rattle.std.proofs.Common.{ap, sym, ◌∙◌}
use Rattle.std.proofs.lemmas.List.{take_rest}
use Rattle.grammar.specs.Check.{refused, overrun, text_bytes}
use Rattle.checker.specs.declared.texts.Extent.{Extent}
use Rattle.checker.specs.Refusals.{map_checked, outcome, refused_by}
use Rattle.checker.specs.Texts.{sizes}
use Rattle.checker.proofs.Wholes.{short_text, long_text}
use Rattle.checker.proofs.texts.check_whole.Goals as goal

pub returns-then-text-le-BYTES : goal.returns-then-text-le-BYTES
returns-then-text-le-BYTES c = ap (λ g. map_checked (sizes 0 0) g) (short_text c.args.text.now c.if-text-le-BYTES.true) ∙ c.check_kinds-whole.ensures

pub returns-in-Ok : goal.returns-in-Ok
returns-in-Ok c =
    long_text c.args.text.now c.check_kinds-whole.result c.at.result c.if-text-le-BYTES.false c.check_kinds-whole.ensures
    (ap (refused_by {A = Extent}) c.at.ensures ∙ ap (refused 4) (take_rest c.args.text.now text_bytes) ∙ ap (λ r. overrun text_bytes c.args.text.now (outcome r)) (sym c.in-Ok.is))

pub returns-in-Err : goal.returns-in-Err
returns-in-Err c = long_text c.args.text.now c.check_kinds-whole.result c.cut_off.result c.if-text-le-BYTES.false c.check_kinds-whole.ensures c.cut_off.ensures
