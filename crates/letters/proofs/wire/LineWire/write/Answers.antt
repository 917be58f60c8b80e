use Rattle.std.proofs.Common.{arith}
use Rattle.std.proofs.lemmas.List.{append_assoc}
use Rattle.letters.specs.Letters.{little, line_bytes}
use Rattle.letters.proofs.Fields.{Written, number, and_number, in_all}
use Rattle.letters.proofs.wire.LineWire.write.Goals as goal

pub returns : goal.returns
unfolding line_bytes
returns c =
    let h = c.requires in
    let l = c.args.self in
    let a : Written c.args.out.now c.args.at 8 (little l.time 8) c.write.new.out = number c.write.new.out l.time 8 c.write.ensures in
    let b = and_number c.write-2.new.out l.process 4 a (omega arith) c.write-2.ensures in
    let d = and_number c.write-3.new.out l.number 4 b (omega arith) c.write-3.ensures in
    in_all (line_bytes l) (simp append_assoc) d
