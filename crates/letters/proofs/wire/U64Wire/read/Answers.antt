use Rattle.std.proofs.Common.{◌≡◌, ◌+◌, ◌-◌, take, drop, ap, ◌∙◌, arith}
use Rattle.std.specs.Int.{w64, from_le_bytes}
use Rattle.std.proofs.lemmas.Nat.{le_bytes_8}
use Rattle.letters.proofs.Numbers.{number_read}
use Rattle.letters.proofs.Fields.{part_length, part_byte}
use Rattle.letters.proofs.wire.U64Wire.read.Goals as goal

pub returns : goal.returns
returns c =
    let at = c.args.at in
    let bs = c.args.bytes.now in
    let part = take 8 (drop at bs) in
    let n = c.from_le_bytes.result in
    let z : at + 8 - at ≡ 8 = omega arith in
    let taken = rw c.unwrap.ensures at c.try_into.ensures in
    let e = c.from_le_bytes.ensures ∙ ap (λ x. from_le_bytes w64 x) (taken.1.same ∙ ap (λ k. take k (drop at bs)) z) in
    let g = number_read part n 8 (le_bytes_8 part n (part_length bs at 8 c.requires) (part_byte bs at 8 (λ i. omega (arith, c.type_inv.bytes i))) e) (omega arith) in
    record { reads = g.0; exact = g.1 }
