use Rattle.std.proofs.Common.{◌∙◌, ap, length, replicate, w64}
use Rattle.std.specs.Int.{from_le_bytes}
use borrow.Rule.Slice.PartMut.{put_mid}
use Rattle.words.proofs.Packs.{bytes_packed}
use Rattle.words.proofs.packed.Goals as goal

pub returns : goal.returns
returns c =
    c.from_le_bytes.ensures ∙ ap (λ x. from_le_bytes w64 (put_mid 0 (length c.args.word.now) (replicate 8 0) x)) c.copy_from_slice.ensures.after
    ∙ bytes_packed c.args.word.now c.requires
