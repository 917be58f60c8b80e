use Rattle.std.proofs.Common.{◌≡◌, ◌*◌, length}
use Rattle.std.specs.Prelude.{vec_len}
use Rattle.plain.proofs.variables.Given as goal

abbrev pub invariant-loop-process : goal.invariant-loop-process
invariant-loop-process l = (vec_len l.vars ≡ 64 * l._process-index) × (length l.row ≡ 64)
