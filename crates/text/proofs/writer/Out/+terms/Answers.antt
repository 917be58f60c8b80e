use Rattle.std.proofs.Common.{ap, subst, ◌≡◌, true, eqb, ◌⊎◌, length, sym, refl, ◌∙◌, inl, inr}
use Rattle.body.specs.declared.ExprOp.TheVariants.{Fixed, Var, It, Me, Clock, Two, Nothing}
use Rattle.body.specs.Code.{expr_of}
use Rattle.text.specs.Written.{Wrote}
use Rattle.text.proofs.Terms.{none_bytes, fixed_bytes, var_bytes, it_bytes, me_bytes, clock_bytes, nothing_bytes, two_bytes, eq_of, rest_all, rest_one, rest_none}
use Rattle.text.proofs.Spills.{told, passed_told, lost, ahead_all, ahead_more, ahead_passed, ahead_done}
use Rattle.text.proofs.writer.Out.+terms.Goals.{write_term-then-fuel-eq0-via-then-fuel-eq0, write_term-then-fuel-eq0-via-else-fuel-eq0+then-is_empty}
use Rattle.text.proofs.writer.Out.+terms.Goals as goal

pub write_term-returns-in_err-write_number : goal.write_term-returns-in_err-write_number
write_term-returns-in_err-write_number t c =
    let none : (c.args.fuel ≡ 0) ⊎ (true ≡ eqb (length c.args.code.now) 0) = elim c.then-fuel-eq0.branch [ write_term-then-fuel-eq0-via-then-fuel-eq0 w ↦ inl w.if-fuel-eq0.true | write_term-then-fuel-eq0-via-else-fuel-eq0+then-is_empty w ↦ inr w.if-is_empty.ensures ] in
    lost _ c.from_residual.ensures (passed_told (none_bytes c.args.names.now c.args.fuel c.args.code.now none) c.in_err-write_number.ensures)

pub write_term-returns-then-fuel-eq0 : goal.write_term-returns-then-fuel-eq0
write_term-returns-then-fuel-eq0 t c =
    let none : (c.args.fuel ≡ 0) ⊎ (true ≡ eqb (length c.args.code.now) 0) = elim c.then-fuel-eq0.branch [ write_term-then-fuel-eq0-via-then-fuel-eq0 w ↦ inl w.if-fuel-eq0.true | write_term-then-fuel-eq0-via-else-fuel-eq0+then-is_empty w ↦ inr w.if-is_empty.ensures ] in
    record { spilled = told (none_bytes c.args.names.now c.args.fuel c.args.code.now none) c.in_ok-write_number.ensures; rest_is = sym (rest_all c.args.fuel c.args.code.now none) }

pub write_term-returns-in_err-write_number-in-Fixed : goal.write_term-returns-in_err-write_number-in-Fixed
write_term-returns-in_err-write_number-in-Fixed t c =
    lost _ c.from_residual-in_err-write_number-in-Fixed.ensures (passed_told (fixed_bytes c.args.names.now c.args.fuel c.args.code.now c.skip-rest.result.now c.if-fuel-eq0.false c.if-is_empty.ensures c.skip-rest.ensures c.in-Fixed.ensures c.nth.ensures) c.in_err-write_number-in-Fixed.ensures)

pub write_term-returns-in_ok-write_number-in-Fixed : goal.write_term-returns-in_ok-write_number-in-Fixed
write_term-returns-in_ok-write_number-in-Fixed t c =
    record { spilled = told (fixed_bytes c.args.names.now c.args.fuel c.args.code.now c.skip-rest.result.now c.if-fuel-eq0.false c.if-is_empty.ensures c.skip-rest.ensures c.in-Fixed.ensures c.nth.ensures) c.in_ok-write_number-in-Fixed.ensures; rest_is = c.skip.ensures ∙ sym (rest_one c.args.names.now c.args.fuel c.args.code.now c.skip-rest.result.now c.if-fuel-eq0.false c.if-is_empty.ensures c.skip-rest.ensures Fixed c.in-Fixed.ensures (inl refl)) }

pub write_term-returns-in_err-write_name-in-Var : goal.write_term-returns-in_err-write_name-in-Var
write_term-returns-in_err-write_name-in-Var t c =
    lost _ c.from_residual-in_err-write_name-in-Var.ensures (passed_told (var_bytes c.args.names.now c.args.fuel c.args.code.now c.skip-rest.result.now c.if-fuel-eq0.false c.if-is_empty.ensures c.skip-rest.ensures c.in-Var.ensures c.nth-in-Var.ensures c.nth-in-Var-2.ensures) c.in_err-write_name-in-Var.ensures)

pub write_term-returns-in_ok-write_name-in-Var : goal.write_term-returns-in_ok-write_name-in-Var
write_term-returns-in_ok-write_name-in-Var t c =
    record { spilled = told (var_bytes c.args.names.now c.args.fuel c.args.code.now c.skip-rest.result.now c.if-fuel-eq0.false c.if-is_empty.ensures c.skip-rest.ensures c.in-Var.ensures c.nth-in-Var.ensures c.nth-in-Var-2.ensures) c.in_ok-write_name-in-Var.ensures; rest_is = c.skip-in-Var.ensures ∙ sym (rest_one c.args.names.now c.args.fuel c.args.code.now c.skip-rest.result.now c.if-fuel-eq0.false c.if-is_empty.ensures c.skip-rest.ensures Var c.in-Var.ensures (inr refl)) }

pub write_term-returns-in_err-write_all-in-It : goal.write_term-returns-in_err-write_all-in-It
write_term-returns-in_err-write_all-in-It t c =
    lost _ c.from_residual-in_err-write_all-in-It.ensures (passed_told (it_bytes c.args.names.now c.args.fuel c.args.code.now c.skip-rest.result.now c.if-fuel-eq0.false c.if-is_empty.ensures c.skip-rest.ensures c.in-It.ensures) c.in_err-write_all-in-It.ensures)

pub write_term-returns-in_ok-write_all-in-It : goal.write_term-returns-in_ok-write_all-in-It
write_term-returns-in_ok-write_all-in-It t c =
    record { spilled = told (it_bytes c.args.names.now c.args.fuel c.args.code.now c.skip-rest.result.now c.if-fuel-eq0.false c.if-is_empty.ensures c.skip-rest.ensures c.in-It.ensures) c.in_ok-write_all-in-It.ensures; rest_is = sym (rest_none c.args.names.now c.args.fuel c.args.code.now c.skip-rest.result.now c.if-fuel-eq0.false c.if-is_empty.ensures c.skip-rest.ensures It c.in-It.ensures (inl refl)) }

pub write_term-returns-in_err-write_all-in-Me : goal.write_term-returns-in_err-write_all-in-Me
write_term-returns-in_err-write_all-in-Me t c =
    lost _ c.from_residual-in_err-write_all-in-Me.ensures (passed_told (me_bytes c.args.names.now c.args.fuel c.args.code.now c.skip-rest.result.now c.if-fuel-eq0.false c.if-is_empty.ensures c.skip-rest.ensures c.in-Me.ensures) c.in_err-write_all-in-Me.ensures)

pub write_term-returns-in_ok-write_all-in-Me : goal.write_term-returns-in_ok-write_all-in-Me
write_term-returns-in_ok-write_all-in-Me t c =
    record { spilled = told (me_bytes c.args.names.now c.args.fuel c.args.code.now c.skip-rest.result.now c.if-fuel-eq0.false c.if-is_empty.ensures c.skip-rest.ensures c.in-Me.ensures) c.in_ok-write_all-in-Me.ensures; rest_is = sym (rest_none c.args.names.now c.args.fuel c.args.code.now c.skip-rest.result.now c.if-fuel-eq0.false c.if-is_empty.ensures c.skip-rest.ensures Me c.in-Me.ensures (inr (inl refl))) }

pub write_term-returns-in_err-write_all-in-Clock : goal.write_term-returns-in_err-write_all-in-Clock
write_term-returns-in_err-write_all-in-Clock t c =
    lost _ c.from_residual-in_err-write_all-in-Clock.ensures (passed_told (clock_bytes c.args.names.now c.args.fuel c.args.code.now c.skip-rest.result.now c.if-fuel-eq0.false c.if-is_empty.ensures c.skip-rest.ensures c.in-Clock.ensures) c.in_err-write_all-in-Clock.ensures)

pub write_term-returns-in_ok-write_all-in-Clock : goal.write_term-returns-in_ok-write_all-in-Clock
write_term-returns-in_ok-write_all-in-Clock t c =
    record { spilled = told (clock_bytes c.args.names.now c.args.fuel c.args.code.now c.skip-rest.result.now c.if-fuel-eq0.false c.if-is_empty.ensures c.skip-rest.ensures c.in-Clock.ensures) c.in_ok-write_all-in-Clock.ensures; rest_is = sym (rest_none c.args.names.now c.args.fuel c.args.code.now c.skip-rest.result.now c.if-fuel-eq0.false c.if-is_empty.ensures c.skip-rest.ensures Clock c.in-Clock.ensures (inr (inr (inl refl)))) }

pub write_term-returns-in_err-write_number-in-Nothing : goal.write_term-returns-in_err-write_number-in-Nothing
write_term-returns-in_err-write_number-in-Nothing t c =
    lost _ c.from_residual-in_err-write_number-in-Nothing.ensures (passed_told (nothing_bytes c.args.names.now c.args.fuel c.args.code.now c.skip-rest.result.now c.if-fuel-eq0.false c.if-is_empty.ensures c.skip-rest.ensures c.in-Nothing.ensures) c.in_err-write_number-in-Nothing.ensures)

pub write_term-returns-in_ok-write_number-in-Nothing : goal.write_term-returns-in_ok-write_number-in-Nothing
write_term-returns-in_ok-write_number-in-Nothing t c =
    record { spilled = told (nothing_bytes c.args.names.now c.args.fuel c.args.code.now c.skip-rest.result.now c.if-fuel-eq0.false c.if-is_empty.ensures c.skip-rest.ensures c.in-Nothing.ensures) c.in_ok-write_number-in-Nothing.ensures; rest_is = sym (rest_none c.args.names.now c.args.fuel c.args.code.now c.skip-rest.result.now c.if-fuel-eq0.false c.if-is_empty.ensures c.skip-rest.ensures Nothing c.in-Nothing.ensures (inr (inr (inr refl)))) }

pub write_term-returns-in-Two : goal.write_term-returns-in-Two
write_term-returns-in-Two t c =
    subst (λ x. Wrote c.args.names.now x c.args.self.now c.write_two.new.self c.write_two.result) (sym (eq_of c.args.names.now c.args.fuel c.args.code.now c.skip-rest.result.now c.if-fuel-eq0.false c.if-is_empty.ensures c.skip-rest.ensures (Two c.in-Two.op) c.in-Two.ensures)) c.write_two.ensures

pub write_two-returns-in_err-put : goal.write_two-returns-in_err-put
write_two-returns-in_err-put t c =
    lost _ c.from_residual.ensures (ahead_passed (ahead_all (two_bytes c.args.names.now c.args.fuel c.args.code.now c.args.op refl refl)) _ refl c.in_err-put.ensures)

pub write_two-returns-in_err-middle : goal.write_two-returns-in_err-middle
write_two-returns-in_err-middle t c =
    lost _ c.from_residual-in_err-middle.ensures (ahead_passed (ahead_more (ahead_all (two_bytes c.args.names.now c.args.fuel c.args.code.now c.args.op refl refl)) refl c.in_ok-put.ensures) _ refl c.in_err-middle.ensures)

pub write_two-returns-in_err-put-2 : goal.write_two-returns-in_err-put-2
write_two-returns-in_err-put-2 t c =
    lost _ c.from_residual-in_err-put-2.ensures (ahead_passed (ahead_more (ahead_more (ahead_all (two_bytes c.args.names.now c.args.fuel c.args.code.now c.args.op refl c.in_ok-middle.ensures.rest_is)) refl c.in_ok-put.ensures) refl c.in_ok-middle.ensures.spilled) _ refl c.in_err-put-2.ensures)

pub write_two-returns-in_err-put-3 : goal.write_two-returns-in_err-put-3
write_two-returns-in_err-put-3 t c =
    lost _ c.from_residual-in_err-put-3.ensures (ahead_passed (ahead_more (ahead_more (ahead_more (ahead_all (two_bytes c.args.names.now c.args.fuel c.args.code.now c.args.op c.sign.ensures c.in_ok-middle.ensures.rest_is)) refl c.in_ok-put.ensures) refl c.in_ok-middle.ensures.spilled) refl c.in_ok-put-2.ensures) _ refl c.in_err-put-3.ensures)

pub write_two-returns-in_err-put-4 : goal.write_two-returns-in_err-put-4
write_two-returns-in_err-put-4 t c =
    lost _ c.from_residual-in_err-put-4.ensures (ahead_passed (ahead_more (ahead_more (ahead_more (ahead_more (ahead_all (two_bytes c.args.names.now c.args.fuel c.args.code.now c.args.op c.sign.ensures c.in_ok-middle.ensures.rest_is)) refl c.in_ok-put.ensures) refl c.in_ok-middle.ensures.spilled) refl c.in_ok-put-2.ensures) refl c.in_ok-put-3.ensures) _ refl c.in_err-put-4.ensures)

pub write_two-returns-in_err-behind : goal.write_two-returns-in_err-behind
write_two-returns-in_err-behind t c =
    lost _ c.from_residual-in_err-behind.ensures (ahead_passed (ahead_more (ahead_more (ahead_more (ahead_more (ahead_more (ahead_all (two_bytes c.args.names.now c.args.fuel c.args.code.now c.args.op c.sign.ensures c.in_ok-middle.ensures.rest_is)) refl c.in_ok-put.ensures) refl c.in_ok-middle.ensures.spilled) refl c.in_ok-put-2.ensures) refl c.in_ok-put-3.ensures) refl c.in_ok-put-4.ensures) _ refl c.in_err-behind.ensures)

pub write_two-returns-in_err-put-5 : goal.write_two-returns-in_err-put-5
write_two-returns-in_err-put-5 t c =
    lost _ c.from_residual-in_err-put-5.ensures (ahead_passed (ahead_more (ahead_more (ahead_more (ahead_more (ahead_more (ahead_more (ahead_all (two_bytes c.args.names.now c.args.fuel c.args.code.now c.args.op c.sign.ensures c.in_ok-middle.ensures.rest_is)) refl c.in_ok-put.ensures) refl c.in_ok-middle.ensures.spilled) refl c.in_ok-put-2.ensures) refl c.in_ok-put-3.ensures) refl c.in_ok-put-4.ensures) refl c.in_ok-behind.ensures.spilled) _ refl c.in_err-put-5.ensures)

pub write_two-returns : goal.write_two-returns
write_two-returns t c =
    record {
      spilled = ahead_done (ahead_more (ahead_more (ahead_more (ahead_more (ahead_more (ahead_more (ahead_more (ahead_all (two_bytes c.args.names.now c.args.fuel c.args.code.now c.args.op c.sign.ensures c.in_ok-middle.ensures.rest_is)) refl c.in_ok-put.ensures) refl c.in_ok-middle.ensures.spilled) refl c.in_ok-put-2.ensures) refl c.in_ok-put-3.ensures) refl c.in_ok-put-4.ensures) refl c.in_ok-behind.ensures.spilled) refl c.in_ok-put-5.ensures) refl;
      rest_is = c.in_ok-behind.ensures.rest_is ∙ ap (λ x. (expr_of c.args.fuel x).rest) c.in_ok-middle.ensures.rest_is;
    }
