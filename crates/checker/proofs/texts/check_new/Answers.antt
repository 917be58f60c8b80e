use Rattle.std.proofs.Common.{ℕ, List, sym, ap, ◌∙◌, arith}
use Rattle.checker.specs.Refusals.{names_in, refused_by}
use Rattle.checker.proofs.Terms.{known}
use Rattle.checker.proofs.Tables.{name_back, new_there, new_taken}
use Rattle.checker.proofs.texts.check_new.Goals as goal

pub returns-then-contains : goal.returns-then-contains
returns-then-contains c =
    let p = c.in_ok-name.name in
    let back = name_back c.args.text.now p c.in_ok-name.rest.now c.in_ok-name.ensures in
    let k = known p c.args.seen.now back.1 (λ i. omega (arith, c.type_inv.seen i)) in
    new_there (names_in c.args.seen.now) c.args.text.now p c.in_ok-name.rest.now c.in_ok-name.ensures (sym k ∙ sym c.if-contains.ensures.value)
    ∙ ap (λ f. refused_by {A = List ℕ} f) (sym c.at.ensures)

pub returns : goal.returns
returns c =
    let p = c.in_ok-name.name in
    let back = name_back c.args.text.now p c.in_ok-name.rest.now c.in_ok-name.ensures in
    let k = known p c.args.seen.now back.1 (λ i. omega (arith, c.type_inv.seen i)) in
    new_taken (names_in c.args.seen.now) c.args.text.now p c.in_ok-name.rest.now c.in_ok-name.ensures (sym k ∙ sym c.if-contains.ensures.value)
