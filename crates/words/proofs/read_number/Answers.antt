use Rattle.std.proofs.Common.{◌≡◌, ◌<◌, true, get_or, ◌∙◌, ap, ap₂, sym, arith}
use Rattle.grammar.specs.Parse.{got, bad}
use Rattle.grammar.specs.Syntax.{is_digit}
use Rattle.std.proofs.lemmas.Bool.{true≢false}
use Rattle.std.proofs.lemmas.List.{take_rest}
use Rattle.words.proofs.Fronts.{number_none, number_zero, number_some, second_digit}
use Rattle.words.proofs.read_number.Goals as goal
use Rattle.words.proofs.read_number.Goals.{else-text-gt1-via-then-text-gt1+then-text-eq48+else-is_ascii_digit, else-text-gt1-via-then-text-gt1+else-text-eq48, else-text-gt1-via-else-text-gt1}

pub returns-then-is_ascii_digit : goal.returns-then-is_ascii_digit
returns-then-is_ascii_digit c =
    number_zero c.args.text.now c.if-text-gt1.true c.if-text-eq48.true (sym c.is_ascii_digit.ensures.value ∙ c.if-is_ascii_digit.true)
    ∙ ap bad (sym (take_rest c.args.text.now 1))

pub returns-then-len-eq0 : goal.returns-then-len-eq0
returns-then-len-eq0 c = number_none c.args.text.now c.digits_len-len.result c.digits_len-len.ensures.value c.if-len-eq0.true

pub returns : goal.returns
returns c =
    let two : 1 < c.digits_len-len.result → is_digit (get_or c.args.text.now 1 0) ≡ true =
    λ h. second_digit c.args.text.now c.digits_len-len.result c.digits_len-len.ensures.value h
    in
    let no_zero : 1 < c.digits_len-len.result → get_or c.args.text.now 0 0 ≡ 48 → ⊥ =
    elim c.else-text-gt1.branch [
      | else-text-gt1-via-then-text-gt1+then-text-eq48+else-is_ascii_digit w ↦ λ h _. true≢false (sym (two h) ∙ sym w.is_ascii_digit.ensures.value ∙ w.if-is_ascii_digit.false)
      | else-text-gt1-via-then-text-gt1+else-text-eq48 w ↦ λ _ z. w.if-text-eq48.false z
      | else-text-gt1-via-else-text-gt1 w ↦ λ h _. omega arith
    ]
    in
    number_some c.args.text.now c.digits_len-len.result c.digits_len-len.ensures.value c.if-len-eq0.false no_zero
    ∙ ap₂ got (sym c.split_at.ensures.front) (sym c.split_at.ensures.back)
