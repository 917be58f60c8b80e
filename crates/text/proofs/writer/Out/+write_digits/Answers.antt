use Rattle.std.proofs.Common.{sym, refl}
use Rattle.text.proofs.Words.{no_digits, one_digit, more_digits}
use Rattle.text.proofs.Spills.{spilled_none, told, writes_told, lost, ahead_all, ahead_more, ahead_passed, ahead_writes}
use Rattle.text.proofs.writer.Out.+write_digits.Goals as goal

pub returns-then-k-eq0 : goal.returns-then-k-eq0
returns-then-k-eq0 t c =
    told (sym (no_digits c.args.k c.args.n c.if-k-eq0.true)) spilled_none

pub returns-then-n-lt10 : goal.returns-then-n-lt10
returns-then-n-lt10 t c =
    writes_told _ _ c.put.result (sym (one_digit c.args.k c.args.n c.if-k-eq0.false c.if-n-lt10.true)) c.put.ensures

pub returns-in_err-write_digits : goal.returns-in_err-write_digits
returns-in_err-write_digits t c =
    lost _ c.from_residual.ensures (ahead_passed (ahead_all (more_digits c.args.k c.args.n c.if-k-eq0.false c.if-n-lt10.false)) _ refl c.in_err-write_digits.ensures)

pub returns : goal.returns
returns t c =
    ahead_writes (ahead_more (ahead_all (more_digits c.args.k c.args.n c.if-k-eq0.false c.if-n-lt10.false)) refl c.in_ok-write_digits.ensures) _ c.put-2.result c.put-2.ensures
