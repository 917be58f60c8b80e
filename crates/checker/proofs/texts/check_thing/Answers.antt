use Rattle.std.proofs.Common.{◌≡◌, suc, ◌+◌, length, sym, ap, ◌∙◌, arith}
use Rattle.std.proofs.lemmas.Result.{err_from_is_err_and}
use Rattle.words.specs.Words.{unpack}
use Rattle.checker.specs.Refusals.{refused_by}
use Rattle.checker.specs.Texts.{known_in, rest_of}
use Rattle.checker.proofs.Tables.{name_back, absent, present}
use Rattle.checker.proofs.Rows.{thing_unknown, thing_refused, thing_count, thing_large, thing_whole}
use Rattle.checker.proofs.texts.check_thing.Goals as goal

pub returns-in_default : goal.returns-in_default
returns-in_default c =
    let ks = known_in c.args.kinds.now in
    let start = c.in_ok-start.start.now in
    let w = unpack c.in_ok-name.name in
    let e = (name_back start c.in_ok-name.name c.in_ok-name.rest.now c.in_ok-name.ensures).0 in
    thing_unknown ks c.args.text.now start c.in_ok-start.ensures w c.in_ok-name.rest.now e (absent w ks c.in_default.ensures) ∙ ap (λ f. refused_by {A = Unit {0}} f) (sym c.at.ensures)

pub returns-in_err-row : goal.returns-in_err-row
returns-in_err-row c =
    let ks = known_in c.args.kinds.now in
    let start = c.in_ok-start.start.now in
    let w = unpack c.in_ok-name.name in
    let d = c.in_ok-name.rest.now in
    let e = (name_back start c.in_ok-name.name d c.in_ok-name.ensures).0 in
    let p = present w ks c.in-Some.count c.in-Some.ensures in
    let f : length d + 1 ≡ suc (length d) = omega arith in
    let q = err_from_is_err_and c.from_residual-in_err-row.result c.from_residual-in_err-row.ensures.1 in
    rw (q.1, q.2) (thing_refused ks c.args.text.now start c.in_ok-start.ensures w d e p.0 (length d + 1) f _ _ c.in_err-row.ensures)

pub returns-then-row-count : goal.returns-then-row-count
returns-then-row-count c =
    let ks = known_in c.args.kinds.now in
    let start = c.in_ok-start.start.now in
    let w = unpack c.in_ok-name.name in
    let d = c.in_ok-name.rest.now in
    let e = (name_back start c.in_ok-name.name d c.in_ok-name.ensures).0 in
    let p = present w ks c.in-Some.count c.in-Some.ensures in
    let f : length d + 1 ≡ suc (length d) = omega arith in
    thing_count ks c.args.text.now start c.in_ok-start.ensures w d e p.0 (length d + 1) f c.in_ok-row.row.count (rest_of c.in_ok-row.row.large) c.in_ok-row.rest.now c.in_ok-row.ensures (λ z. c.if-row-count.true (z ∙ p.1))
    ∙ ap (λ f. refused_by {A = Unit {0}} f) (sym c.at-then-row-count.ensures)

pub returns-in-None : goal.returns-in-None
returns-in-None c =
    let ks = known_in c.args.kinds.now in
    let start = c.in_ok-start.start.now in
    let w = unpack c.in_ok-name.name in
    let d = c.in_ok-name.rest.now in
    let e = (name_back start c.in_ok-name.name d c.in_ok-name.ensures).0 in
    let p = present w ks c.in-Some.count c.in-Some.ensures in
    let f : length d + 1 ≡ suc (length d) = omega arith in
    thing_whole ks c.args.text.now start c.in_ok-start.ensures w d e p.0 (length d + 1) f c.in_ok-row.row.count (rest_of c.in_ok-row.row.large) c.in_ok-row.rest.now c.in_ok-row.ensures (c.if-row-count.false ∙ sym p.1) (ap rest_of c.in-None.is)

pub returns-in-Some-large : goal.returns-in-Some-large
returns-in-Some-large c =
    let ks = known_in c.args.kinds.now in
    let start = c.in_ok-start.start.now in
    let w = unpack c.in_ok-name.name in
    let d = c.in_ok-name.rest.now in
    let e = (name_back start c.in_ok-name.name d c.in_ok-name.ensures).0 in
    let p = present w ks c.in-Some.count c.in-Some.ensures in
    let f : length d + 1 ≡ suc (length d) = omega arith in
    thing_large ks c.args.text.now start c.in_ok-start.ensures w d e p.0 (length d + 1) f c.in_ok-row.row.count (rest_of c.in_ok-row.row.large) c.in_ok-row.rest.now c.in_ok-row.ensures (c.if-row-count.false ∙ sym p.1) c.in-Some-large.number.now (ap rest_of c.in-Some-large.is)
    ∙ ap (λ f. refused_by {A = Unit {0}} f) (sym c.at-in-Some-large.ensures)
