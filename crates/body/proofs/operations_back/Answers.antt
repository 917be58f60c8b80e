use Rattle.std.proofs.Common.{refl}
use Rattle.body.specs.declared.Binary.TheVariants.{Plus, Minus, Times, Over, Remains, Less, Same}
use Rattle.body.specs.declared.LineOp.TheVariants.{Stop, Do, Branch, Repeat}
use Rattle.body.specs.declared.Act.TheVariants.{Assign, Draw, Say, Send}
use Rattle.body.specs.declared.ExprOp.TheVariants.{Fixed, Var, It, Me, Clock, Two, Nothing}
use Rattle.body.proofs.operations_back.Goals as goal

pub returns : goal.returns
returns c = record {
  exprs = elim [
    | Fixed ↦ refl
    | Var ↦ refl
    | It ↦ refl
    | Me ↦ refl
    | Clock ↦ refl
    | Two Plus ↦ refl
    | Two Minus ↦ refl
    | Two Times ↦ refl
    | Two Over ↦ refl
    | Two Remains ↦ refl
    | Two Less ↦ refl
    | Two Same ↦ refl
    | Nothing ↦ refl
  ];
  lines = elim [ Stop ↦ refl | Do Assign ↦ refl | Do Draw ↦ refl | Do Say ↦ refl | Do Send ↦ refl | Branch ↦ refl | Repeat ↦ refl ];
}
