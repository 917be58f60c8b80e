-- Several players: each plays the messages to its own processes, in their order, from what waits at the start and from what the others
-- tell it that they sent. No letters, guesses or takings back in it.
use Rattle.std.specs.Prelude.{◌≡◌, ℕ, zero, suc, ◌+◌, ◌%◌, ◌<◌, ◌≤◌, ◌⊎◌, List, length, slice_index_or}
use Rattle.std.specs.List.{ContainsAt as Has}
use Rattle.meaning.specs.declared.Message.{Message}
use Rattle.meaning.specs.Model.{Model, Process, nobody, steps, start}
use Rattle.meaning.specs.Law.{replay, sent_along}
use Rattle.meaning.specs.Promise.{Proper, Outside, Sorted}

-- x waits at the start, or one of n players sends it while it plays its history.
abbrev pub Given : Model → ℕ → List Process → List Message → (ℕ → List Message) → Message → Type 0
Given m n ps waiting hs x = Has waiting x ⊎ ((u : ℕ) × (u < n) × Has (sent_along m ps (hs u)) x)

-- Player w of n has played its history up to the time t: strictly in order, own messages before t, each of them given, and all that is given
-- of these.
pub record Plays (m : Model) (n : ℕ) (ps : List Process) (waiting : List Message) (t : ℕ) (hs : ℕ → List Message) (w : ℕ) : Type 0 where
  pub sorted : Sorted (hs w)
  pub own : (x : Message) → Has (hs w) x → (x.to % n ≡ w) × (x.time < t)
  pub given : (x : Message) → Has (hs w) x → Given m n ps waiting hs x
  pub takes : (x : Message) → Given m n ps waiting hs x → x.time < t → x.to % n ≡ w → Has (hs w) x

-- How many messages n players have played together.
unfoldable pub played : (ℕ → List Message) → ℕ → ℕ
played hs zero = 0
played hs (suc n) = length (hs n) + played hs n

-- Players who agree on what they sent each other before a time t have together played what the meaning plays before t: from any state that a
-- run comes to, after as many steps as they have played messages nothing is left before t, and each process is as its own player left it.
abbrev pub Agreement : Type 0
Agreement =
    (m : Model) (luck end j t n : ℕ) (xs : List Message) (hs : ℕ → List Message) → Proper m → Outside m xs → 1 ≤ n →
    ((w : ℕ) → w < n → Plays m n (steps m end j (start m luck xs)).processes (steps m end j (start m luck xs)).pending t hs w) →
    ((x : Message) → Has (steps m t (played hs n) (steps m end j (start m luck xs))).pending x → t ≤ x.time)
    × ((k : ℕ) →
    slice_index_or (steps m t (played hs n) (steps m end j (start m luck xs))).processes k nobody
    ≡ slice_index_or (replay m (steps m end j (start m luck xs)).processes (hs (k % n))) k nobody)
    × ((x : Message) → t ≤ x.time → Given m n (steps m end j (start m luck xs)).processes (steps m end j (start m luck xs)).pending hs x →
    Has (steps m t (played hs n) (steps m end j (start m luck xs))).pending x)
    × ((x : Message) → Has (steps m t (played hs n) (steps m end j (start m luck xs))).pending x →
    Given m n (steps m end j (start m luck xs)).processes (steps m end j (start m luck xs)).pending hs x)
