use Rattle.std.proofs.Common.{[], length, subst}
use Rattle.text.specs.Written.{WritesText, text_bytes}
use Rattle.text.proofs.Spills.{written_all}
use Rattle.text.proofs.writer.write.Goals as goal

pub returns : goal.returns
returns c =
    let m = c.args.model in
    let counted =
    subst (λ r. WritesText (text_bytes m.code.now m.kinds.now m.names.now m.processes.now m.vars.now m.messages.now) (length c.args.out.now) [] c.write_text.new.bytes r)
    c.in_ok-n.ensures.ok_part c.write_text.ensures in
    written_all c.write_text-2.result counted.0 counted.1 c.write_text-2.ensures
