use Rattle.std.proofs.Common.{◌∙◌, ap, sym, ⊎_elim}
use Rattle.grammar.specs.Check.{check_assign, check_by, says, whens, agains}
use Rattle.words.specs.Words.{spelling}
use Rattle.words.proofs.Packs.{named, read_back}
use Rattle.checker.specs.Refusals.{names_in, left_out, refused_by}
use Rattle.checker.proofs.Heads.{by_end, by_else, by_say, by_send, by_if, by_again, by_name, by_none}
use Rattle.checker.proofs.lines.check_by.Goals as goal

pub returns-in-End : goal.returns-in-End
returns-in-End c =
    let s = c.args.scope in
    ap (λ k. left_out (check_by (names_in s.names.now) s.deep s.or_else c.args.text.now (spelling k) c.args.rest.now)) c.in-End.is
    ∙ by_end (names_in s.names.now) s.deep s.or_else c.args.text.now c.args.rest.now ∙ c.check_close.ensures

pub returns-in-Else : goal.returns-in-Else
returns-in-Else c =
    let s = c.args.scope in
    ap (λ k. left_out (check_by (names_in s.names.now) s.deep s.or_else c.args.text.now (spelling k) c.args.rest.now)) c.in-Else.is
    ∙ by_else (names_in s.names.now) s.deep s.or_else c.args.text.now c.args.rest.now ∙ c.check_close-in-Else.ensures

pub returns-in-Say : goal.returns-in-Say
returns-in-Say c =
    let s = c.args.scope in
    ap (λ k. left_out (check_by (names_in s.names.now) s.deep s.or_else c.args.text.now (spelling k) c.args.rest.now)) c.in-Say.is
    ∙ ap (λ g. left_out g) (by_say (names_in s.names.now) s.deep s.or_else c.args.text.now c.args.rest.now) ∙ c.check_rest.ensures says

pub returns-in-Send : goal.returns-in-Send
returns-in-Send c =
    let s = c.args.scope in
    ap (λ k. left_out (check_by (names_in s.names.now) s.deep s.or_else c.args.text.now (spelling k) c.args.rest.now)) c.in-Send.is
    ∙ ap (λ g. left_out g) (by_send (names_in s.names.now) s.deep s.or_else c.args.text.now c.args.rest.now) ∙ c.check_send.ensures

pub returns-in-If : goal.returns-in-If
returns-in-If c =
    let s = c.args.scope in
    ⊎_elim
    (λ q. ap (λ k. left_out (check_by (names_in s.names.now) s.deep s.or_else c.args.text.now (spelling k) c.args.rest.now)) q
    ∙ ap (λ g. left_out g) (by_if (names_in s.names.now) s.deep s.or_else c.args.text.now c.args.rest.now) ∙ c.check_deeper.ensures whens)
    (λ q. ap (λ k. left_out (check_by (names_in s.names.now) s.deep s.or_else c.args.text.now (spelling k) c.args.rest.now)) q
    ∙ ap (λ g. left_out g) (by_again (names_in s.names.now) s.deep s.or_else c.args.text.now c.args.rest.now) ∙ c.check_deeper.ensures agains)
    c.in-If.is

pub returns-in-Name : goal.returns-in-Name
returns-in-Name c =
    let s = c.args.scope in
    let n = ap (λ k. named k) c.in-Name.is in
    let b = read_back c.args.text.now c.args.word c.args.rest.now c.requires in
    ap (λ g. left_out g) (by_name (names_in s.names.now) s.deep s.or_else c.args.text.now c.args.rest.now (spelling c.args.word) (b.1 ∙ n))
    ∙ ap (λ k. left_out (check_assign (names_in s.names.now) c.args.text.now (spelling k) c.args.rest.now)) c.in-Name.is ∙ c.check_assign.ensures

pub returns-in_default : goal.returns-in_default
returns-in_default c =
    let s = c.args.scope in
    ap (λ g. left_out g)
    (by_none (names_in s.names.now) s.deep s.or_else c.args.text.now c.args.rest.now c.args.word c.in_default.not-End c.in_default.not-Else c.in_default.not-Say c.in_default.not-Send c.in_default.not-If c.in_default.not-Again c.in_default.not-Name)
    ∙ ap (λ f. refused_by {A = Unit {0}} f) (sym c.at.ensures)
