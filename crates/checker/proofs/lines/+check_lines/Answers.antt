use Rattle.std.proofs.Common.{◌≡◌, ◌-◌, sym, ap, ◌∙◌, rules}
use Rattle.std.proofs.lemmas.Result.{err_from_is_err_and}
use Rattle.grammar.specs.Check.{check_head, check_lines}
use Rattle.checker.specs.declared.lines.Sort.TheVariants.{End, Else, Simple, Again, If}
use Rattle.checker.specs.declared.limits.Refused.{Refused}
use Rattle.checker.specs.Lines.{Shape, sort_of}
use Rattle.words.specs.Reads.{close_of}
use Rattle.checker.specs.Refusals.{names_in, read, refused_by}
use Rattle.checker.proofs.Longs.{line_taken, line_refused, map_same}
use Rattle.checker.proofs.Blocks.{Go, shaped, lines_deep, lines_left, lines_refused, lines_behind, again_bad, again_whole, if_bad, if_whole, if_second, if_both}
use Rattle.checker.proofs.lines.+check_lines.Goals as goal

pub returns-then-most-eq0 : goal.returns-then-most-eq0
returns-then-most-eq0 t c =
    let s = c.args.scope in
    lines_deep (names_in s.names.now) c.args.left s.deep s.or_else c.args.text.now c.args.most c.if-most-eq0.true
    ∙ ap (λ (f : Refused). refused_by {A = Shape} f) (sym c.at.ensures)

pub returns-then-left-eq0 : goal.returns-then-left-eq0
returns-then-left-eq0 t c =
    let s = c.args.scope in
    lines_left (names_in s.names.now) c.args.left s.deep s.or_else c.args.text.now c.args.most c.if-most-eq0.false c.if-left-eq0.true
    ∙ ap shaped c.none_left.ensures

pub returns-in_err-sort : goal.returns-in_err-sort
returns-in_err-sort t c =
    let s = c.args.scope in
    let p = err_from_is_err_and c.from_residual.result c.from_residual.ensures.1 in
    let e =
    line_refused sort_of (λ x. x) c.args.text.now (check_head (names_in s.names.now) s.deep s.or_else c.args.text.now) c.check_head.result c.in_err-sort.field-0.0 (c.check_head.ensures ∙ sym (map_same (read c.check_head.result))) c.in_err-sort.ensures
    in
    rw (p.1, p.2) (lines_refused (names_in s.names.now) c.args.left s.deep s.or_else c.args.text.now c.args.most _ _ c.if-most-eq0.false c.if-left-eq0.false e)

pub returns-in-End : goal.returns-in-End
returns-in-End t c =
    let s = c.args.scope in
    let names = names_in s.names.now in
    let bs = c.args.text.now in
    let e = line_taken sort_of (λ x. x) bs (check_head names s.deep s.or_else bs) c.check_head.result c.in_ok-sort.sort c.in_ok-sort.rest (c.check_head.ensures ∙ sym (map_same (read c.check_head.result))) c.in_ok-sort.ensures in
    let head = lines_behind names c.args.left s.deep s.or_else bs c.args.most c.in_ok-sort.sort End c.in_ok-sort.rest.now c.if-most-eq0.false c.if-left-eq0.false e c.in-End.is in
    head

pub returns-in-Else : goal.returns-in-Else
returns-in-Else t c =
    let s = c.args.scope in
    let names = names_in s.names.now in
    let bs = c.args.text.now in
    let e = line_taken sort_of (λ x. x) bs (check_head names s.deep s.or_else bs) c.check_head.result c.in_ok-sort.sort c.in_ok-sort.rest (c.check_head.ensures ∙ sym (map_same (read c.check_head.result))) c.in_ok-sort.ensures in
    let head = lines_behind names c.args.left s.deep s.or_else bs c.args.most c.in_ok-sort.sort Else c.in_ok-sort.rest.now c.if-most-eq0.false c.if-left-eq0.false e c.in-Else.is in
    head

pub returns-in-Simple : goal.returns-in-Simple
returns-in-Simple t c =
    let s = c.args.scope in
    let names = names_in s.names.now in
    let bs = c.args.text.now in
    let e = line_taken sort_of (λ x. x) bs (check_head names s.deep s.or_else bs) c.check_head.result c.in_ok-sort.sort c.in_ok-sort.rest (c.check_head.ensures ∙ sym (map_same (read c.check_head.result))) c.in_ok-sort.ensures in
    let head = lines_behind names c.args.left s.deep s.or_else bs c.args.most c.in_ok-sort.sort Simple c.in_ok-sort.rest.now c.if-most-eq0.false c.if-left-eq0.false e c.in-Simple.is in
    head ∙ c.check_lines.ensures

pub returns-in_err-left-in-Again : goal.returns-in_err-left-in-Again
returns-in_err-left-in-Again t c =
    let s = c.args.scope in
    let names = names_in s.names.now in
    let bs = c.args.text.now in
    let e = line_taken sort_of (λ x. x) bs (check_head names s.deep s.or_else bs) c.check_head.result c.in_ok-sort.sort c.in_ok-sort.rest (c.check_head.ensures ∙ sym (map_same (read c.check_head.result))) c.in_ok-sort.ensures in
    let head = lines_behind names c.args.left s.deep s.or_else bs c.args.most c.in_ok-sort.sort Again c.in_ok-sort.rest.now c.if-most-eq0.false c.if-left-eq0.false e c.in-Again.is in
    let go : Go = λ l d e q. shaped (check_lines names (c.args.most - 1) l d e q) in
    let i : c.saturating_sub.result ≡ s.deep - 1 = search rules in
    let p = err_from_is_err_and c.from_residual-in_err-left-in-Again.result c.from_residual-in_err-left-in-Again.ensures.1 in
    rw (p.1, p.2) (head ∙ again_bad go (c.args.left - 1) s.deep c.saturating_sub.result s.or_else c.in_ok-sort.rest.now i _ _ c.in_err-left-in-Again.ensures)

pub returns-in_ok-left-in-Again : goal.returns-in_ok-left-in-Again
returns-in_ok-left-in-Again t c =
    let s = c.args.scope in
    let names = names_in s.names.now in
    let bs = c.args.text.now in
    let e = line_taken sort_of (λ x. x) bs (check_head names s.deep s.or_else bs) c.check_head.result c.in_ok-sort.sort c.in_ok-sort.rest (c.check_head.ensures ∙ sym (map_same (read c.check_head.result))) c.in_ok-sort.ensures in
    let head = lines_behind names c.args.left s.deep s.or_else bs c.args.most c.in_ok-sort.sort Again c.in_ok-sort.rest.now c.if-most-eq0.false c.if-left-eq0.false e c.in-Again.is in
    let go : Go = λ l d e q. shaped (check_lines names (c.args.most - 1) l d e q) in
    let i : c.saturating_sub.result ≡ s.deep - 1 = search rules in
    head
    ∙ again_whole go (c.args.left - 1) s.deep c.saturating_sub.result s.or_else c.in_ok-sort.rest.now i _ c.in_ok-left-in-Again.rest.now _ c.in_ok-left-in-Again.ensures
    c.check_lines-in-Again-2.ensures

pub returns-in_err-by-in-If : goal.returns-in_err-by-in-If
returns-in_err-by-in-If t c =
    let s = c.args.scope in
    let names = names_in s.names.now in
    let bs = c.args.text.now in
    let e = line_taken sort_of (λ x. x) bs (check_head names s.deep s.or_else bs) c.check_head.result c.in_ok-sort.sort c.in_ok-sort.rest (c.check_head.ensures ∙ sym (map_same (read c.check_head.result))) c.in_ok-sort.ensures in
    let head = lines_behind names c.args.left s.deep s.or_else bs c.args.most c.in_ok-sort.sort If c.in_ok-sort.rest.now c.if-most-eq0.false c.if-left-eq0.false e c.in-If.is in
    let go : Go = λ l d e q. shaped (check_lines names (c.args.most - 1) l d e q) in
    let i : c.saturating_sub.result ≡ s.deep - 1 = search rules in
    let p = err_from_is_err_and c.from_residual-in_err-by-in-If.result c.from_residual-in_err-by-in-If.ensures.1 in
    rw (p.1, p.2) (head ∙ if_bad go (c.args.left - 1) s.deep c.saturating_sub.result s.or_else c.in_ok-sort.rest.now i _ _ c.in_err-by-in-If.ensures)

pub returns-in-End-by : goal.returns-in-End-by
returns-in-End-by t c =
    let s = c.args.scope in
    let names = names_in s.names.now in
    let bs = c.args.text.now in
    let e = line_taken sort_of (λ x. x) bs (check_head names s.deep s.or_else bs) c.check_head.result c.in_ok-sort.sort c.in_ok-sort.rest (c.check_head.ensures ∙ sym (map_same (read c.check_head.result))) c.in_ok-sort.ensures in
    let head = lines_behind names c.args.left s.deep s.or_else bs c.args.most c.in_ok-sort.sort If c.in_ok-sort.rest.now c.if-most-eq0.false c.if-left-eq0.false e c.in-If.is in
    let go : Go = λ l d e q. shaped (check_lines names (c.args.most - 1) l d e q) in
    let i : c.saturating_sub.result ≡ s.deep - 1 = search rules in
    head
    ∙ if_whole go (c.args.left - 1) s.deep c.saturating_sub.result s.or_else c.in_ok-sort.rest.now i (close_of c.in_ok-by-in-If.by) c.in_ok-by-in-If.left c.in_ok-by-in-If.rest.now c.in_ok-by-in-If.ensures _ (ap close_of c.in-End-by.is)
    c.check_lines-in-End-by.ensures

pub returns-in_err-left-in-Else-by : goal.returns-in_err-left-in-Else-by
returns-in_err-left-in-Else-by t c =
    let s = c.args.scope in
    let names = names_in s.names.now in
    let bs = c.args.text.now in
    let e = line_taken sort_of (λ x. x) bs (check_head names s.deep s.or_else bs) c.check_head.result c.in_ok-sort.sort c.in_ok-sort.rest (c.check_head.ensures ∙ sym (map_same (read c.check_head.result))) c.in_ok-sort.ensures in
    let head = lines_behind names c.args.left s.deep s.or_else bs c.args.most c.in_ok-sort.sort If c.in_ok-sort.rest.now c.if-most-eq0.false c.if-left-eq0.false e c.in-If.is in
    let go : Go = λ l d e q. shaped (check_lines names (c.args.most - 1) l d e q) in
    let i : c.saturating_sub.result ≡ s.deep - 1 = search rules in
    let p = err_from_is_err_and c.from_residual-in_err-left-in-Else-by.result c.from_residual-in_err-left-in-Else-by.ensures.1 in
    rw (p.1, p.2)
    (head
    ∙ if_second go (c.args.left - 1) s.deep c.saturating_sub.result s.or_else c.in_ok-sort.rest.now i (close_of c.in_ok-by-in-If.by) c.in_ok-by-in-If.left c.in_ok-by-in-If.rest.now c.in_ok-by-in-If.ensures _ _ (ap close_of c.in-Else-by.is)
    c.in_err-left-in-Else-by.ensures)

pub returns-in_ok-left-in-Else-by : goal.returns-in_ok-left-in-Else-by
returns-in_ok-left-in-Else-by t c =
    let s = c.args.scope in
    let names = names_in s.names.now in
    let bs = c.args.text.now in
    let e = line_taken sort_of (λ x. x) bs (check_head names s.deep s.or_else bs) c.check_head.result c.in_ok-sort.sort c.in_ok-sort.rest (c.check_head.ensures ∙ sym (map_same (read c.check_head.result))) c.in_ok-sort.ensures in
    let head = lines_behind names c.args.left s.deep s.or_else bs c.args.most c.in_ok-sort.sort If c.in_ok-sort.rest.now c.if-most-eq0.false c.if-left-eq0.false e c.in-If.is in
    let go : Go = λ l d e q. shaped (check_lines names (c.args.most - 1) l d e q) in
    let i : c.saturating_sub.result ≡ s.deep - 1 = search rules in
    head
    ∙ if_both go (c.args.left - 1) s.deep c.saturating_sub.result s.or_else c.in_ok-sort.rest.now i (close_of c.in_ok-by-in-If.by) c.in_ok-by-in-If.left c.in_ok-by-in-If.rest.now c.in_ok-by-in-If.ensures _
    c.in_ok-left-in-Else-by.rest.now _ (ap close_of c.in-Else-by.is) c.in_ok-left-in-Else-by.ensures c.check_lines-in-Else-by-2.ensures
