use Rattle.std.proofs.Common.{◌+◌, sym, ap, ◌∙◌}
use Rattle.std.proofs.lemmas.List.{set_past}
use Rattle.text.proofs.Spills.{spilled_one}
use Rattle.text.proofs.writer.Out.put.Goals as goal
use Rattle.text.proofs.writer.Out.put.Goals.{then-self-2, else-self-2}

pub returns : goal.returns
returns c =
    let o = c.args.self.now in
    elim c.if-self-2.branch [
      | then-self-2 w ↦ spilled_one o _ c.args.b (ap (λ x. x.bytes.ghost_name) w.self-is) (ap (λ x. x.bytes.now) w.self-is) (ap (λ x. x.limit) w.self-is) (ap (λ x. x.end + 1) w.self-is) c.if-self.false
      | else-self-2 w ↦ spilled_one o _ c.args.b (ap (λ x. x.bytes.ghost_name) w.self-is)
          (ap (λ x. x.bytes.now) w.self-is ∙ sym (set_past o.bytes.now o.end c.args.b w.if-self-2.false)) (ap (λ x. x.limit) w.self-is) (ap (λ x. x.end + 1) w.self-is) c.if-self.false
    ]
