use Rattle.text.specs.Slots.{row_in}
use Rattle.text.proofs.Simple.{simple_say, simple_send, simple_put, simple_none}
use Rattle.text.proofs.loader.fill_simple.Goals as goal

pub returns-in-Say-clause-is : goal.returns-in-Say-clause-is
returns-in-Say-clause-is c =
    simple_say c.args.text.now c.args.names.now c.args.word (row_in c.args.code.now) c.fill_say.result.now (row_in c.fill_say.new.code) c.in-Say.is c.fill_say.ensures.is

pub returns-in-Send-clause-is : goal.returns-in-Send-clause-is
returns-in-Send-clause-is c =
    simple_send c.args.text.now c.args.names.now c.args.word (row_in c.args.code.now) c.fill_send.result.now (row_in c.fill_send.new.code) c.in-Send.is c.fill_send.ensures.is

pub returns-in-Name-clause-is : goal.returns-in-Name-clause-is
returns-in-Name-clause-is c =
    simple_put c.args.text.now c.args.names.now c.args.word (row_in c.args.code.now) c.fill_put.result.now (row_in c.fill_put.new.code) c.in-Name.name c.in-Name.is c.fill_put.ensures.is

pub returns-in_default-clause-is : goal.returns-in_default-clause-is
returns-in_default-clause-is c =
    simple_none c.args.text.now c.args.names.now c.args.word _ _ _ c.in_default.not-Say c.in_default.not-Send c.in_default.not-Name
