use Rattle.std.proofs.Common.{ℕ, ◌<◌, get_or, subst, sym, arith}
use Rattle.letters.proofs.Reading.{IsReadPart, read_part}
use Rattle.letters.proofs.read_letter.Goals as goal

pub returns : goal.returns
returns c =
    let bs = c.args.bytes.now in
    let good : (i : ℕ) → get_or bs i 0 < 256 = λ i. omega (arith, c.type_inv.bytes i) in
    subst (IsReadPart bs c.args.from c.args.to good) (sym c.ok_or.ensures.value) (read_part bs c.args.from c.args.to good c.get.result c.and_then.result c.get.ensures.lookup c.and_then.ensures)
