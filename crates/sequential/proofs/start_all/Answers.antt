use Rattle.std.proofs.Common.{◌≡◌, ◌+◌, get_or, sym, ap, ◌∙◌, arith}
use Rattle.meaning.specs.Model.{next_seed}
use Rattle.sequential.proofs.Stored.{absent}
use Rattle.sequential.proofs.Starts.{one_started, all_started}
use Rattle.sequential.proofs.start_all.Goals as goal

pub loop-k-preserved : goal.loop-k-preserved
loop-k-preserved c =
    let seed : c.next_seed-process.result ≡ next_seed (next_seed (c.args.luck + c.loop-k.k)) = c.next_seed-process.ensures ∙ ap next_seed c.next_seed.ensures in
    one_started c.args.luck c.loop-k.k c.loop-k.processes _ (omega (arith, c.loop-k-test.true, c.loop-k.auto.processes))
    (λ i. record { kind = (get_or c.loop-k.processes c.loop-k.k absent).kind; width = (get_or c.loop-k.processes c.loop-k.k absent).width; seed = seed i; sent = 0 })
    ∙ c.loop-k.invariant

pub returns : goal.returns
returns c =
    sym (all_started c.args.luck c.loop-k.k c.loop-k.processes (omega (arith, c.loop-k-test.false, c.loop-k.auto.processes))) ∙ c.loop-k.invariant
