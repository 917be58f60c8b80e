use Rattle.std.proofs.Common.{◌≡◌, ◌+◌, ◌-◌, take, drop, ap, ◌∙◌, arith}
use Rattle.std.specs.Int.{w32, from_le_bytes}
use Rattle.std.proofs.lemmas.Nat.{le_bytes_4}
use Rattle.letters.proofs.Numbers.{number_read}
use Rattle.letters.proofs.Fields.{part_length, part_byte}
use Rattle.letters.proofs.wire.U32Wire.read.Goals as goal

pub returns : goal.returns
returns c =
    let at = c.args.at in
    let bs = c.args.bytes.now in
    let part = take 4 (drop at bs) in
    let n = c.from_le_bytes.result in
    let z : at + 4 - at ≡ 4 = omega arith in
    let taken = rw c.unwrap.ensures at c.try_into.ensures in
    let e = c.from_le_bytes.ensures ∙ ap (λ x. from_le_bytes w32 x) (taken.1.same ∙ ap (λ k. take k (drop at bs)) z) in
    let g = number_read part n 4 (le_bytes_4 part n (part_length bs at 4 c.requires) (part_byte bs at 4 (λ i. omega (arith, c.type_inv.bytes i))) e) (omega arith) in
    record { reads = g.0; exact = g.1 }
