use Rattle.std.proofs.Common.{◌≡◌, ℕ, ◌+◌, ◌-◌, take, drop, ap, ◌∙◌, arith}
use Rattle.meaning.specs.declared.Message.{Message}
use Rattle.letters.specs.Letters.{number_at, message_bytes, message_of}
use Rattle.letters.proofs.Fields.{message_exact, part_length, part_bytes}
use Rattle.letters.proofs.wire.MessageWire.read.Goals as goal

pub returns : goal.returns
returns c =
    let bs = c.args.bytes.now in
    let at = c.args.at in
    let z : at + 28 - at ≡ 28 = omega arith in
    let cut : (i k : ℕ) → number_at (take (at + 28 - at) (drop at bs)) i k ≡ number_at (take 28 (drop at bs)) i k =
    λ i k. ap (λ n. number_at (take n (drop at bs)) i k) z in
    let e0 = c.read.ensures.reads ∙ cut 0 8 in
    let e8 = c.read-2.ensures.reads ∙ cut 8 4 in
    let e12 = c.read-3.ensures.reads ∙ cut 12 4 in
    let e16 = c.read-4.ensures.reads ∙ cut 16 8 in
    let e24 = c.read-5.ensures.reads ∙ cut 24 4 in
    let e : ◌≡◌ {A = Message} _ (message_of (take 28 (drop at bs))) = λ i. record { time = e0 i; to = e8 i; from = e12 i; count = e16 i; number = e24 i } in
    record {
      reads = e;
      exact = ap message_bytes e ∙ message_exact (take 28 (drop at bs)) (part_bytes bs at 28 (λ i. omega (arith, c.type_inv.bytes i))) (part_length bs at 28 c.requires);
    }
