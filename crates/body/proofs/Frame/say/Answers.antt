use Rattle.std.proofs.Common.{rules}
use Rattle.body.specs.Play.{put_line}
use Rattle.body.proofs.Frame.say.Goals as goal

pub returns-clause-says : goal.returns-clause-says
unfolding put_line
returns-clause-says c = search rules
