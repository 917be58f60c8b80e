use Rattle.std.proofs.Common.{take, sym, refl, ap, ◌∙◌}
use Rattle.text.specs.Slices.{names_of}
use Rattle.text.proofs.Texts.{kind_is}
use Rattle.text.proofs.Spills.{lost, ahead_all, ahead_more, ahead_passed, ahead_writes}
use Rattle.text.proofs.writer.Out.write_kind.Goals as goal

pub returns-in_err-write_all : goal.returns-in_err-write_all
returns-in_err-write_all c =
    lost _ c.from_residual.ensures (ahead_passed (ahead_all (sym (kind_is c.args.code.now c.args.start c.args.names.now c.known-numbers.result.now c.skip-own.result.now _
    (c.known-numbers.ensures ∙ ap names_of (c.first.ensures ∙ ap (λ x. take 64 x) c.skip.ensures)) c.skip-own.ensures refl))) _ refl c.in_err-write_all.ensures)

pub returns-in_err-write_name : goal.returns-in_err-write_name
returns-in_err-write_name c =
    lost _ c.from_residual-in_err-write_name.ensures (ahead_passed (ahead_more (ahead_all (sym (kind_is c.args.code.now c.args.start c.args.names.now c.known-numbers.result.now c.skip-own.result.now _
    (c.known-numbers.ensures ∙ ap names_of (c.first.ensures ∙ ap (λ x. take 64 x) c.skip.ensures)) c.skip-own.ensures c.nth.ensures))) refl c.in_ok-write_all.ensures) _ refl c.in_err-write_name.ensures)

pub returns-in_err-write_row : goal.returns-in_err-write_row
returns-in_err-write_row c =
    lost _ c.from_residual-in_err-write_row.ensures (ahead_passed (ahead_more (ahead_more (ahead_all (sym (kind_is c.args.code.now c.args.start c.args.names.now c.known-numbers.result.now c.skip-own.result.now _
    (c.known-numbers.ensures ∙ ap names_of (c.first.ensures ∙ ap (λ x. take 64 x) c.skip.ensures)) c.skip-own.ensures c.nth.ensures))) refl c.in_ok-write_all.ensures) refl c.in_ok-write_name.ensures) _ refl c.in_err-write_row.ensures)

pub returns-in_err-put : goal.returns-in_err-put
returns-in_err-put c =
    lost _ c.from_residual-in_err-put.ensures (ahead_passed (ahead_more (ahead_more (ahead_more (ahead_all (sym (kind_is c.args.code.now c.args.start c.args.names.now c.known-numbers.result.now c.skip-own.result.now _
    (c.known-numbers.ensures ∙ ap names_of (c.first.ensures ∙ ap (λ x. take 64 x) c.skip.ensures)) c.skip-own.ensures c.nth.ensures))) refl c.in_ok-write_all.ensures) refl c.in_ok-write_name.ensures) refl c.in_ok-write_row.ensures) _ refl c.in_err-put.ensures)

pub returns-in_err-write_lines : goal.returns-in_err-write_lines
returns-in_err-write_lines c =
    lost _ c.from_residual-in_err-write_lines.ensures (ahead_passed (ahead_more (ahead_more (ahead_more (ahead_more (ahead_all (sym (kind_is c.args.code.now c.args.start c.args.names.now c.known-numbers.result.now c.skip-own.result.now _
    (c.known-numbers.ensures ∙ ap names_of (c.first.ensures ∙ ap (λ x. take 64 x) c.skip.ensures)) c.skip-own.ensures c.nth.ensures))) refl c.in_ok-write_all.ensures) refl c.in_ok-write_name.ensures) refl c.in_ok-write_row.ensures) refl c.in_ok-put.ensures) _ refl c.in_err-write_lines.ensures)

pub returns : goal.returns
returns c =
    ahead_writes (ahead_more (ahead_more (ahead_more (ahead_more (ahead_more (ahead_all (sym (kind_is c.args.code.now c.args.start c.args.names.now c.known-numbers.result.now c.skip-own.result.now _
    (c.known-numbers.ensures ∙ ap names_of (c.first.ensures ∙ ap (λ x. take 64 x) c.skip.ensures)) c.skip-own.ensures c.nth.ensures))) refl c.in_ok-write_all.ensures) refl c.in_ok-write_name.ensures) refl c.in_ok-write_row.ensures) refl c.in_ok-put.ensures) refl c.in_ok-write_lines.ensures) _ c.write_all-2.result c.write_all-2.ensures
