-- Putting a message in from the end of a row: what the loop keeps, and that it gives `insert`.
use Rattle.std.proofs.Common.{◌≡◌, ℕ, ◌+◌, ◌-◌, ◌<◌, ◌≤◌, true, false, List, [], ◌∷◌, ◌++◌, reverse, length, get_or, take, drop, set, sym, refl, ap, ◌∙◌, subst, arith}
use mathlib.Core.List.{reverse-cons}
use lib.Seq.{take-set-lt}
use Rattle.std.proofs.lemmas.List.{append_assoc, reverse-append, length-take, take-append-drop, take-take, take-set, take-set-le, take_more, drop_all, drop-set, drop-set-lt}
use Rattle.std.proofs.lemmas.Bool.{cond-true, cond-false}
use Rattle.meaning.specs.declared.Message.{Message}
use Rattle.meaning.specs.Model.{before, insert}
use Rattle.queue.specs.Row.{waiting, Inserted}

pub insert_none : (m : Message) → insert m [] ≡ m ∷ []
unfolding insert
insert_none m = refl

pub insert_here : (m y : Message) (ys : List Message) → before m y ≡ true → insert m (y ∷ ys) ≡ m ∷ y ∷ ys
unfolding insert
insert_here m y ys h = cond-true (before m y) (m ∷ y ∷ ys) (y ∷ insert m ys) h

pub insert_behind : (m y : Message) (ys : List Message) → before m y ≡ false → insert m (y ∷ ys) ≡ y ∷ insert m ys
unfolding insert
insert_behind m y ys h = cond-false (before m y) (m ∷ y ∷ ys) (y ∷ insert m ys) h

-- the last in use waits first
pub waiting_more : (row : List Message) (i : ℕ) (d : Message) → i < length row → waiting row (i + 1) ≡ get_or row i d ∷ waiting row i
waiting_more row i d h = ap reverse (take_more row i d h) ∙ reverse-append (take i row) (get_or row i d ∷ [])

-- the front of a reversed list goes on to what follows it
turn : (x : Message) (xs ys : List Message) → reverse (x ∷ xs) ++ ys ≡ reverse xs ++ (x ∷ ys)
turn x xs ys = ap (λ zs. zs ++ ys) (reverse-cons x xs) ∙ append_assoc (reverse xs) (x ∷ []) ys

-- place at is free: what was moved up stands behind it, and m put in among those before it gives the whole
pub record Shifted (m : Message) (start : List Message) (len : ℕ) (row : List Message) (at : ℕ) : Type 0 where
  pub within : at ≤ len
  pub gives : reverse (drop (at + 1) (take (len + 1) row)) ++ insert m (waiting row at) ≡ insert m (waiting start len)
  pub behind : drop (len + 1) row ≡ drop (len + 1) start

pub shifted_none : (m : Message) (row : List Message) (len : ℕ) → Shifted m row len row len
shifted_none m row len =
    record {
      within = omega arith;
      gives = ap (λ xs. reverse xs ++ insert m (waiting row len)) (drop_all (len + 1) (take (len + 1) row) (simp length-take (omega arith)));
      behind = refl;
    }

module _ (m : Message) (start : List Message) (len : ℕ) (row : List Message) (room : len < length row) where
  tail_set : (i : ℕ) (x : Message) → i ≤ len → drop i (take (len + 1) (set row i x)) ≡ x ∷ drop (i + 1) (take (len + 1) row)
  tail_set i x h =
      ap (drop i) (take-set-lt (len + 1) row i x (omega arith))
      ∙ drop-set (take (len + 1) row) i x (simp length-take (omega arith))

  -- what waits first among those before the free place goes into it
  more : (b : ℕ) (d : Message) → before m (get_or row b d) ≡ false → Shifted m start len row (b + 1) → Shifted m start len (set row (b + 1) (get_or row b d)) b
  more b d late s =
      let x = get_or row b d in
      let h : b < length row = omega arith in
      let moved : b + 1 ≤ len = omega arith in
      let up = ap (λ xs. reverse xs ++ insert m (waiting (set row (b + 1) x) b)) (tail_set (b + 1) x moved) in
      let same = ap (λ xs. reverse (drop (b + 1 + 1) (take (len + 1) row)) ++ (x ∷ insert m (reverse xs))) (take-set-le b row (b + 1) x (omega arith)) in
      let whole = ap (λ xs. reverse (drop (b + 1 + 1) (take (len + 1) row)) ++ xs) (ap (insert m) (waiting_more row b d h) ∙ insert_behind m x (waiting row b) late) in
      record {
        within = omega arith;
        gives = up ∙ turn x (drop (b + 1 + 1) (take (len + 1) row)) (insert m (waiting (set row (b + 1) x) b)) ∙ same ∙ sym whole ∙ s.gives;
        behind = drop-set-lt (len + 1) row (b + 1) x (omega arith) ∙ s.behind;
      }

  pub shifted_more : (at : ℕ) (d : Message) → 0 < at → before m (get_or row (at - 1) d) ≡ false → Shifted m start len row at → Shifted m start len (set row at (get_or row (at - 1) d)) (at - 1)
  shifted_more at d some late s =
      let e : at ≡ at - 1 + 1 = omega arith in
      let P : ℕ → Type 0 = λ n. Shifted m start len (set row n (get_or row (at - 1) d)) (at - 1) in
      subst P (sym e) (more (at - 1) d late (subst (Shifted m start len row) e s))

  -- m goes into the free place, where none is left before it or the next comes after m
  pub shifted_all :
      (at : ℕ) → length row ≡ length start → insert m (waiting row at) ≡ m ∷ waiting row at →
      Shifted m start len row at → Inserted m start len (set row at m) (len + 1)
  shifted_all at long here s =
      let h : at ≤ len = omega arith in
      let ds = drop (at + 1) (take (len + 1) row) in
      let turned = take (len + 1) (set row at m) in
      let split = ap reverse (sym (take-append-drop at turned)) ∙ reverse-append (take at turned) (drop at turned) in
      let behind_it = ap (λ xs. reverse xs ++ reverse (take at turned)) (tail_set at m h) in
      let before_it = ap (λ xs. reverse (m ∷ ds) ++ reverse xs) (take-take at (len + 1) (set row at m) (omega arith) ∙ take-set row at m) in
      record {
        room = omega arith;
        one_more = refl;
        in_place = split ∙ behind_it ∙ before_it ∙ turn m ds (waiting row at) ∙ ap (λ xs. reverse ds ++ xs) (sym here) ∙ s.gives;
        behind = drop-set-lt (len + 1) row at m (omega arith) ∙ s.behind;
      }

-- where none is left, and where the next comes after m, m goes in at the front
pub front_where_none : (m : Message) (row : List Message) (at : ℕ) → at ≤ 0 → insert m (waiting row at) ≡ m ∷ waiting row at
front_where_none m row at h =
    let e : 0 ≡ at = omega arith in
    let P : ℕ → Type 0 = λ n. insert m (waiting row n) ≡ m ∷ waiting row n in
    subst P e (insert_none m)

pub front_where_later :
    (m : Message) (row : List Message) (at : ℕ) (d : Message) → 0 < at → at ≤ length row → before m (get_or row (at - 1) d) ≡ true →
    insert m (waiting row at) ≡ m ∷ waiting row at
front_where_later m row at d some in_row early =
    let e : at - 1 + 1 ≡ at = omega arith in
    let P : List Message → Type 0 = λ xs. insert m xs ≡ m ∷ xs in
    let w = waiting_more row (at - 1) d (omega arith) in
    let Q : ℕ → Type 0 = λ n. P (waiting row n) in
    subst Q e (subst P (sym w) (insert_here m (get_or row (at - 1) d) (waiting row (at - 1)) early))
