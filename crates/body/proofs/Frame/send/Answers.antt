use Rattle.std.proofs.Common.{rules}
use Rattle.body.specs.Play.{put_sent}
use Rattle.body.proofs.Frame.send.Goals as goal

pub returns-then-to-self-clause-sends : goal.returns-then-to-self-clause-sends
unfolding put_sent
returns-then-to-self-clause-sends c = search rules

pub returns-else-to-self-clause-sends : goal.returns-else-to-self-clause-sends
unfolding put_sent
returns-else-to-self-clause-sends c = search rules
