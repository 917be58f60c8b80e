use Rattle.std.proofs.Common.{arith}
use Rattle.std.proofs.lemmas.List.{append_assoc}
use Rattle.letters.specs.Letters.{little, message_bytes}
use Rattle.letters.proofs.Fields.{Written, number, and_number, in_all}
use Rattle.letters.proofs.wire.MessageWire.write.Goals as goal

pub returns : goal.returns
unfolding message_bytes
returns c =
    let h = c.requires in
    let m = c.args.self in
    let a : Written c.args.out.now c.args.at 8 (little m.time 8) c.write.new.out = number c.write.new.out m.time 8 c.write.ensures in
    let b = and_number c.write-2.new.out m.to 4 a (omega arith) c.write-2.ensures in
    let d = and_number c.write-3.new.out m.from 4 b (omega arith) c.write-3.ensures in
    let e = and_number c.write-4.new.out m.count 8 d (omega arith) c.write-4.ensures in
    let f = and_number c.write-5.new.out m.number 4 e (omega arith) c.write-5.ensures in
    in_all (message_bytes m) (simp append_assoc) f
