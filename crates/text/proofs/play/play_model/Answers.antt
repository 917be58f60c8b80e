use Rattle.std.proofs.Common.{refl, rules}
use Rattle.sequential.specs.Memory.{memory_in}
use Rattle.text.proofs.Onward.{played_at, unsaid_first}
use Rattle.text.proofs.play.play_model.Goals as goal

pub play_on-requires-clause-unsaid : goal.play_on-requires-clause-unsaid
play_on-requires-clause-unsaid g c = unsaid_first _ _ _ _ _ _ _ c.in-Ok.ensures.holds

pub returns-clause-played : goal.returns-clause-played
returns-clause-played g c =
    played_at c.args.program.code.now c.args.program.kinds.now c.args.settings c.args.outside.now c.args.processes.now c.args.vars.now
    c.as_mut_slice-row.result.now c.begin.new.row c.begin.new.row c.as_mut_slice.result.now c.begin.new.processes c.begin.new.progress
    (memory_in c.play_on.new.lent) c.in_ok-outcome.outcome _ _ _ c.in-Ok.ensures.answers (search rules) (search rules) (search rules) (search rules) c.in-Ok.ensures.holds refl c.in_ok-outcome.ensures.plays (search rules) (search rules)
