-- The first to be handled, and what waits without it.
use Rattle.std.proofs.Common.{◌≡◌, ℕ, ◌+◌, ◌-◌, ◌<◌, ◌≤◌, leb, List, ◌∷◌, length, get_or, Some, None, sym, ap, ◌∙◌, arith}
use Rattle.std.proofs.lemmas.Bool.{cond-true, le-leb}
use Rattle.std.proofs.lemmas.Bool.Decides.{nat_tests}
use Rattle.meaning.specs.declared.Message.{Message}
use Rattle.queue.specs.Row.{waiting, head_of, first_of, Taken}
use Rattle.queue.proofs.Shift.{waiting_more}

module _ (row : List Message) (len : ℕ) where
  waiting_first : (d : Message) → 0 < len → len ≤ length row → waiting row len ≡ get_or row (len - 1) d ∷ waiting row (len - 1)
  waiting_first d some fits =
      let e : len ≡ len - 1 + 1 = omega arith in
      ap (waiting row) e ∙ waiting_more row (len - 1) d (omega arith)

  pub first_is : (d : Message) → 0 < len → len ≤ length row → Some (get_or row (len - 1) d) ≡ first_of row len
  first_is d some fits =
      sym (cond-true (leb len (length row)) (head_of (waiting row len)) None (le-leb len (length row) fits) ∙ ap head_of (waiting_first d some fits))

  -- there is a first only where something waits, in the row
  pub some_waits : (x : Message) → Some x ≡ first_of row len → (0 < len) × (len ≤ length row)
  some_waits x e = grind (arith, nat_tests)

  pub taken : (x : Message) → Some x ≡ first_of row len → Taken x row len (len - 1)
  taken x e =
      let h = some_waits x e in
      let same : get_or row (len - 1) x ≡ x = let is = first_is x h.0 h.1 in cc in
      record {
        in_row = h.1;
        one_fewer = omega arith;
        was_first = waiting_first x h.0 h.1 ∙ ap (λ y. y ∷ waiting row (len - 1)) same;
      }
