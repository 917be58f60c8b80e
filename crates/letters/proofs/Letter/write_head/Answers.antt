use Rattle.std.proofs.Common.{suc, ◌+◌, ◌≤◌, ◌∷◌, length, sym, ap, ◌∙◌, arith}
use Rattle.letters.specs.Letters.{little, put, head, head_bytes}
use Rattle.letters.specs.Back.{length_little}
use Rattle.letters.proofs.Fields.{Written, and_number}
use Rattle.letters.proofs.Writing.{and_byte, flag_byte, tell_head, lines_head}
use Rattle.letters.proofs.Letter.write_head.Goals as goal

pub returns-in-Tell : goal.returns-in-Tell
unfolding head_bytes
returns-in-Tell c =
    let o = c.args.out.now in
    let at = c.args.at in
    let t = c.in-Tell in
    let h : at + 36 ≤ length o = omega (arith, c.requires, ap head t.is) in
    let a : Written o at 10 (1 ∷ t.from ∷ little t.epoch 8) c.write_start.new.out =
    record { is = c.write_start.ensures; long = ap (λ n. suc (suc n)) (length_little t.epoch 8) } in
    let b = and_number c.write.new.out t.earliest 8 a (omega arith) c.write.ensures in
    let d = and_number c.write-in-Tell.new.out t.heard 8 b (omega arith) c.write-in-Tell.ensures in
    let e = and_number c.write-in-Tell-2.new.out t.start 8 d (omega arith) c.write-in-Tell-2.ensures in
    let f = and_byte c.from.result e (omega arith) in
    let g = and_byte t.count f (omega arith) in
    g.is ∙ ap (put o at) (tell_head t.from t.epoch t.earliest t.heard t.start c.from.result t.finished t.count (c.from.ensures ∙ flag_byte t.finished)) ∙ ap (λ l. put o at (head_bytes l)) (sym t.is)

pub returns-in-Lines : goal.returns-in-Lines
unfolding head_bytes
returns-in-Lines c =
    let o = c.args.out.now in
    let at = c.args.at in
    let t = c.in-Lines in
    let h : at + 23 ≤ length o = omega (arith, c.requires, ap head t.is) in
    let a : Written o at 10 (2 ∷ t.from ∷ little t.first 8) c.write_start-in-Lines.new.out =
    record { is = c.write_start-in-Lines.ensures; long = ap (λ n. suc (suc n)) (length_little t.first 8) } in
    let b = and_number c.write-in-Lines.new.out t.time 8 a (omega arith) c.write-in-Lines.ensures in
    let d = and_number c.write-in-Lines-2.new.out t.process 4 b (omega arith) c.write-in-Lines-2.ensures in
    let f = and_byte t.count d (omega arith) in
    f.is ∙ ap (put o at) (lines_head t.from t.first t.time t.process t.count) ∙ ap (λ l. put o at (head_bytes l)) (sym t.is)

pub returns-in-Printed : goal.returns-in-Printed
unfolding head_bytes
returns-in-Printed c =
    c.write_start-in-Printed.ensures ∙ ap (λ l. put c.args.out.now c.args.at (head_bytes l)) (sym c.in-Printed.is)
