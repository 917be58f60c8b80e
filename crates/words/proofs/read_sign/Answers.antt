use Rattle.std.proofs.Common.{◌∷◌, ◌∙◌, ap, sym}
use Rattle.grammar.specs.Parse.{read_sign, bad}
use Rattle.words.specs.Reads.{map_got, sign_of}
use Rattle.words.proofs.Fronts.{signed, sign_none, sign_front}
use Rattle.words.proofs.read_sign.Goals as goal

pub returns-in_default : goal.returns-in_default
returns-in_default c = sign_none c.args.text.now c.in_default.ensures.cases

pub returns : goal.returns
returns c =
    ap read_sign c.in-Some.ensures.cases.0 ∙ sign_front c.in-Some.b.now c.in-Some.rest.now
    ∙ ap (λ s. map_got sign_of (signed s (c.in-Some.b.now ∷ c.in-Some.rest.now) c.in-Some.rest.now)) (sym c.in-Some-sign_by.ensures)

pub returns-in_default-sign_by : goal.returns-in_default-sign_by
returns-in_default-sign_by c =
    ap read_sign c.in-Some.ensures.cases.0 ∙ sign_front c.in-Some.b.now c.in-Some.rest.now
    ∙ ap (λ s. map_got sign_of (signed s (c.in-Some.b.now ∷ c.in-Some.rest.now) c.in-Some.rest.now)) (sym c.in_default-sign_by.ensures) ∙ ap bad (sym c.in-Some.ensures.cases.0)
