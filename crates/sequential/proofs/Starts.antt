-- The start of a run in lent memory.
use Rattle.std.proofs.Common.{◌≡◌, ℕ, suc, ◌+◌, ◌<◌, ◌≤◌, min, List, [], ◌∷◌, ◌++◌, map, length, get_or, take, drop, set, Ok, Err, Result, sym, refl, ap, ◌∙◌, ap₂, append_assoc, arith, MatchResult}
use Rattle.std.proofs.lemmas.List.{drop_more, drop-set-lt, take_more_set, take_all, drop_all, append-nil}
use Rattle.meaning.specs.declared.Message.{Message}
use Rattle.meaning.specs.Model.{next_seed, initial, start}
use Rattle.body.specs.declared.Process.{Process}
use Rattle.queue.specs.Row.{InsertedAll, Refused}
use Rattle.sequential.specs.Memory.{actors, started, numbers_of, Begun}
use Rattle.sequential.proofs.Stored.{absent}

-- What process k is at the start.
abbrev pub started_one : ℕ → ℕ → Process → Process
started_one luck k p = record { kind = p.kind; width = p.width; seed = next_seed (next_seed (luck + k)); sent = 0 }

-- The first k have been started; those that are left give the whole.
pub one_started : (luck k : ℕ) (qs : List Process) (p' : Process) → k < length qs → p' ≡ started_one luck k (get_or qs k absent) →
    take (k + 1) (set qs k p') ++ started luck (k + 1) (drop (k + 1) (set qs k p')) ≡ take k qs ++ started luck k (drop k qs)
unfolding started
one_started luck k qs p' h e =
    let s : suc k ≡ k + 1 = omega arith in
    let d : drop (k + 1) (set qs k p') ≡ drop (k + 1) qs = drop-set-lt (k + 1) qs k p' (omega arith) in
    ap₂ (λ a b. a ++ started luck (k + 1) b) (take_more_set qs k p' h) d
    ∙ append_assoc (take k qs) (p' ∷ []) (started luck (k + 1) (drop (k + 1) qs))
    ∙ ap₂ (λ q n. take k qs ++ (q ∷ started luck n (drop (k + 1) qs))) e (sym s)
    ∙ ap (λ l. take k qs ++ started luck k l) (sym (drop_more qs k absent h))

pub all_started : (luck k : ℕ) (qs : List Process) → length qs ≤ k → take k qs ++ started luck k (drop k qs) ≡ qs
unfolding started
all_started luck k qs h =
    ap₂ (λ a b. a ++ started luck k b) (take_all k qs h) (drop_all k qs h) ∙ append-nil qs

started_actors : (luck k : ℕ) (ps : List Process) (vs : List ℕ) → actors (started luck k ps) vs ≡ initial luck k (numbers_of ps vs)
unfolding started actors initial numbers_of
started_actors luck k [] vs = refl
started_actors luck k (p ∷ ps) vs =
    ap (λ l. record { vars = take (min p.width 64) vs; seed = next_seed (next_seed (luck + k)); sent = 0 } ∷ l) (started_actors luck (suc k) ps (drop 64 vs))

started_field : (f : Process → ℕ) → ((luck k : ℕ) (p : Process) → f (started_one luck k p) ≡ f p) → (luck k : ℕ) (ps : List Process) → map f (started luck k ps) ≡ map f ps
unfolding started
started_field f h luck k [] = refl
started_field f h luck k (p ∷ ps) = ap₂ (λ a l. a ∷ l) (h luck k p) (started_field f h luck (suc k) ps)

pub begun : (luck : ℕ) (outside : List Message) (ps ps' : List Process) (row row' : List Message) (len' : ℕ) (T E : Type 0) (r : Result T E) →
    ps' ≡ started luck 0 ps → length outside ≤ length row → length row' ≡ length row →
    MatchResult r (λ _. InsertedAll outside row 0 row' len') (λ _. Refused (length outside) row 0 row' len') →
    Begun luck outside ps row ps' row' (record { waiting = len'; said = 0 })
unfolding start
begun luck outside ps ps' row row' len' T E r e l lr h =
    let i = put_in r h in
    record {
      processes_are = e;
      kinds_are = ap (λ q. map (λ p. p.kind) q) e ∙ started_field (λ p. p.kind) (λ a b p. refl) luck 0 ps;
      widths_are = ap (λ q. map (λ p. p.width) q) e ∙ started_field (λ p. p.width) (λ a b p. refl) luck 0 ps;
      in_row = omega (arith, i.as_many_more, i.room);
      behind = i.behind;
      stands = λ code kinds vs lines.
          λ j. record { processes = (ap (λ q. actors q vs) e ∙ started_actors luck 0 ps vs) j; pending = i.in_place j; said = [] };
    }
  where
    put_in : (r : Result T E) → MatchResult r (λ _. InsertedAll outside row 0 row' len') (λ _. Refused (length outside) row 0 row' len') → InsertedAll outside row 0 row' len'
    put_in (Ok x) h = h
    put_in (Err x) h = absurd (omega (arith, h.full))
