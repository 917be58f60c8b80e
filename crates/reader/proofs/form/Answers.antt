use Rattle.std.proofs.Common.{◌+◌, length, refl}
use Rattle.reader.proofs.Forms.{is_text, stops_at}
use Rattle.reader.proofs.form.Goals as goal

pub returns-in-Ok : goal.returns-in-Ok
returns-in-Ok c = is_text c.args.bytes.now (length c.args.bytes.now + 1) refl c.in-Ok.ensures

pub overflow_sub-result : goal.overflow_sub-result
overflow_sub-result c = (stops_at c.args.bytes.now c.in-Err.rest.now (length c.args.bytes.now + 1) refl c.in-Err.ensures).0

pub returns-in-Err : goal.returns-in-Err
returns-in-Err c = (stops_at c.args.bytes.now c.in-Err.rest.now (length c.args.bytes.now + 1) refl c.in-Err.ensures).1
