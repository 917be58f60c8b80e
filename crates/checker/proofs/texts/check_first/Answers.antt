use Rattle.std.proofs.Common.{ap, sym, ◌∙◌}
use Rattle.std.proofs.lemmas.Result.{err_from_is_err_and}
use Rattle.grammar.specs.Check.{First}
use Rattle.words.specs.Words.{unpack}
use Rattle.checker.specs.Refusals.{refused_by}
use Rattle.checker.specs.Texts.{known_in, names_from}
use Rattle.checker.proofs.Tables.{name_back, absent, present, is_there, is_absent, first_known, first_refused, first_whole}
use Rattle.checker.proofs.texts.check_first.Goals as goal

pub returns-then-is_some-clause-answers : goal.returns-then-is_some-clause-answers
returns-then-is_some-clause-answers c =
    let ks = known_in c.args.kinds.now in
    let start = c.in_ok-start.start.now in
    let w = unpack c.in_ok-name.name in
    let e = (name_back start c.in_ok-name.name c.in_ok-name.rest.now c.in_ok-name.ensures).0 in
    let o = is_there c.count_of.result c.if-is_some.ensures in
    first_known ks c.args.text.now start c.in_ok-start.ensures w c.in_ok-name.rest.now e (present w ks o.0 (o.1 ∙ c.count_of.ensures)).0
    ∙ ap (λ f. refused_by {A = First} f) (sym c.at.ensures)

pub returns-in_err-count-clause-answers : goal.returns-in_err-count-clause-answers
returns-in_err-count-clause-answers c =
    let ks = known_in c.args.kinds.now in
    let start = c.in_ok-start.start.now in
    let w = unpack c.in_ok-name.name in
    let e = (name_back start c.in_ok-name.name c.in_ok-name.rest.now c.in_ok-name.ensures).0 in
    let o = is_absent c.count_of.result c.if-is_some.ensures in
    let p = err_from_is_err_and c.from_residual-in_err-count.result c.from_residual-in_err-count.ensures.1 in
    rw (p.1, p.2)
    (first_refused ks c.args.text.now start c.in_ok-start.ensures w c.in_ok-name.rest.now e (absent w ks (o ∙ c.count_of.ensures)) _ _ c.in_err-count.ensures.answers)

pub returns-clause-answers : goal.returns-clause-answers
returns-clause-answers c =
    let ks = known_in c.args.kinds.now in
    let start = c.in_ok-start.start.now in
    let w = unpack c.in_ok-name.name in
    let e = (name_back start c.in_ok-name.name c.in_ok-name.rest.now c.in_ok-name.ensures).0 in
    let o = is_absent c.count_of.result c.if-is_some.ensures in
    first_whole ks c.args.text.now start c.in_ok-start.ensures w c.in_ok-name.rest.now e (absent w ks (o ∙ c.count_of.ensures)) (names_from c.check_names.new.names c.in_ok-count.count)
    c.in_ok-count.rest.now c.in_ok-count.ensures.answers
