-- What a whole run is, with no queue in it: which messages are handled, in which order, and what is said.
use Rattle.std.specs.Prelude.{◌≡◌, ℕ, ◌<◌, ◌≤◌, List, [], ◌∷◌, ◌++◌, length}
use Rattle.std.specs.List.{ContainsAt as Has}
use Rattle.meaning.specs.declared.Message.{Message}
use Rattle.meaning.specs.declared.Line.{Line}
use Rattle.meaning.specs.Model.{Model, Process, handle_in, handled_in, initial, step, steps, start}
use Rattle.meaning.specs.Promise.{Proper, Outside, Sorted}

-- The processes after the messages of a history were handled in its order, each by its process as the earlier ones left it.
unfoldable pub replay : Model → List Process → List Message → List Process
replay m ps [] = ps
replay m ps (x ∷ xs) = replay m (handled_in m ps x) xs

-- All that was sent on the way.
unfoldable pub sent_along : Model → List Process → List Message → List Message
sent_along m ps [] = []
sent_along m ps (x ∷ xs) = (handle_in m ps x).sends ++ sent_along m (handled_in m ps x) xs

-- All that was said on the way.
unfoldable pub said_along : Model → List Process → List Message → List Line
said_along m ps [] = []
said_along m ps (x ∷ xs) = (handle_in m ps x).says ++ said_along m (handled_in m ps x) xs

-- H is a history of the processes ps and the messages xs up to the time end: strictly in order, and it holds exactly those messages
-- before the end that are of xs or are sent when one of H is handled by its process as the earlier ones of H left it.
pub record History (m : Model) (ps : List Process) (xs : List Message) (end : ℕ) (H : List Message) : Type 0 where
  pub sorted : Sorted H
  pub timely : (x : Message) → Has H x → x.time < end
  pub closed : (x : Message) → Has (xs ++ sent_along m ps H) x → x.time < end → Has H x
  pub caused : (x : Message) → Has H x → Has (xs ++ sent_along m ps H) x

-- The whole run: there is one history and no other, and a run that has come to its end has said and done what that history says and does.
abbrev pub WholeRun : Type 0
WholeRun =
    (m : Model) (luck end k : ℕ) (xs : List Message) → Proper m → Outside m xs →
    step m end (steps m end k (start m luck xs)) ≡ steps m end k (start m luck xs) →
    (H : List Message)
    × History m (initial luck 0 m.numbers) xs end H
    × ((G : List Message) → History m (initial luck 0 m.numbers) xs end G → G ≡ H)
    × ((steps m end k (start m luck xs)).said ≡ said_along m (initial luck 0 m.numbers) H)
    × ((steps m end k (start m luck xs)).processes ≡ replay m (initial luck 0 m.numbers) H)
    × (length H ≤ k)
