use Rattle.std.proofs.Common.{◌≡◌, ◌+◌, ◌≤◌, true, length, sym, ◌∙◌, arith}
use Rattle.letters.specs.Letters.{carries, in_bounds}
use Rattle.letters.proofs.Writing.{letter_written, answered}
use Rattle.letters.proofs.write_letter.Goals as goal

pub returns : goal.returns
returns c =
    let o = c.args.out.now in
    let at = c.args.at in
    let l = c.args.letter in
    let d = c.args.carried.now in
    let n = c.size-size.result in
    let k : length d ≡ carries l = omega (arith, c.carried.ensures, c.if-carried.false) in
    let h : at + n ≤ length o = omega (arith, c.if-at-out.false, c.if-out-at.false) in
    let b : in_bounds l ≡ true = sym c.is_in_bounds.ensures.answers ∙ c.if-not-is_in_bounds.false in
    record {
      answers = answered o at l d n c.is_in_bounds.ensures.typed b k c.size-size.ensures h;
      writes = letter_written o c.write_head.new.out c.copy_from_slice.new.self at l d n c.size-size.ensures k h c.write_head.ensures c.copy_from_slice.ensures.after;
    }
