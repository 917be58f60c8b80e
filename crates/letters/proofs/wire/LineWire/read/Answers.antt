use Rattle.std.proofs.Common.{◌≡◌, ℕ, ◌+◌, ◌-◌, take, drop, ap, ◌∙◌, arith}
use Rattle.meaning.specs.declared.Line.{Line}
use Rattle.letters.specs.Letters.{number_at, line_bytes, line_of}
use Rattle.letters.proofs.Fields.{line_exact, part_length, part_bytes}
use Rattle.letters.proofs.wire.LineWire.read.Goals as goal

pub returns : goal.returns
returns c =
    let bs = c.args.bytes.now in
    let at = c.args.at in
    let z : at + 16 - at ≡ 16 = omega arith in
    let cut : (i k : ℕ) → number_at (take (at + 16 - at) (drop at bs)) i k ≡ number_at (take 16 (drop at bs)) i k =
    λ i k. ap (λ n. number_at (take n (drop at bs)) i k) z in
    let e0 = c.read.ensures.reads ∙ cut 0 8 in
    let e8 = c.read-2.ensures.reads ∙ cut 8 4 in
    let e12 = c.read-3.ensures.reads ∙ cut 12 4 in
    let e : ◌≡◌ {A = Line} _ (line_of (take 16 (drop at bs))) = λ i. record { time = e0 i; process = e8 i; number = e12 i } in
    record {
      reads = e;
      exact = ap line_bytes e ∙ line_exact (take 16 (drop at bs)) (part_bytes bs at 16 (λ i. omega (arith, c.type_inv.bytes i))) (part_length bs at 16 c.requires);
    }
