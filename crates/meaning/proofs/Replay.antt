-- The replay of one list after another.
use Rattle.std.proofs.Common.{◌≡◌, List, [], ◌∷◌, ◌++◌, sym, refl, ap, ◌∙◌, append_assoc}
use Rattle.meaning.specs.declared.Message.{Message}
use Rattle.meaning.specs.Model.{Model, Process, handle_in, handled_in}
use Rattle.meaning.specs.Law.{replay, sent_along, said_along}

pub replay_append : (m : Model) (ps : List Process) (xs ys : List Message) → replay m ps (xs ++ ys) ≡ replay m (replay m ps xs) ys
unfolding replay
replay_append m ps [] ys = refl
replay_append m ps (x ∷ xs) ys = replay_append m (handled_in m ps x) xs ys

pub sent_along_append :
    (m : Model) (ps : List Process) (xs ys : List Message) → sent_along m ps (xs ++ ys) ≡ sent_along m ps xs ++ sent_along m (replay m ps xs) ys
unfolding sent_along replay
sent_along_append m ps [] ys = refl
sent_along_append m ps (x ∷ xs) ys =
    ap (λ z. (handle_in m ps x).sends ++ z) (sent_along_append m (handled_in m ps x) xs ys)
    ∙ sym (append_assoc (handle_in m ps x).sends (sent_along m (handled_in m ps x) xs) (sent_along m (replay m (handled_in m ps x) xs) ys))

pub said_along_append :
    (m : Model) (ps : List Process) (xs ys : List Message) → said_along m ps (xs ++ ys) ≡ said_along m ps xs ++ said_along m (replay m ps xs) ys
unfolding said_along replay
said_along_append m ps [] ys = refl
said_along_append m ps (x ∷ xs) ys =
    ap (λ z. (handle_in m ps x).says ++ z) (said_along_append m (handled_in m ps x) xs ys)
    ∙ sym (append_assoc (handle_in m ps x).says (said_along m (handled_in m ps x) xs) (said_along m (replay m (handled_in m ps x) xs) ys))
