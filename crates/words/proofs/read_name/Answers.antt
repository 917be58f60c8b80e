use Rattle.std.proofs.Common.{◌∙◌, ap}
use Rattle.grammar.specs.Parse.{got}
use Rattle.words.proofs.Packs.{name_read, no_name_read}
use Rattle.words.proofs.read_name.Goals as goal

pub returns-in-Name : goal.returns-in-Name
returns-in-Name c = name_read c.args.text.now c.in-Name.name c.in_ok-word.rest.now (c.in_ok-word.ensures ∙ ap (λ k. got k c.in_ok-word.rest.now) c.in-Name.is)

pub returns-in_default : goal.returns-in_default
returns-in_default c = no_name_read c.args.text.now c.in_ok-word.word c.in_ok-word.rest.now c.in_ok-word.ensures c.in_default.not-Name
