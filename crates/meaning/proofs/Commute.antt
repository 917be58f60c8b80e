-- Messages to different processes: each of the two is handled as if the other were not.
use Rattle.std.proofs.Common.{◌≡◌, ◌≢◌, List, set, sym, ap, ◌∙◌}
use Rattle.std.proofs.lemmas.List.{set_comm, get_or-set_other}
use Rattle.meaning.specs.declared.Message.{Message}
use Rattle.meaning.specs.Model.{Model, Process, handle, nobody, handle_in, handled_in}
use Rattle.meaning.specs.Promise.{Independent}

-- A message is handled as if one to another process had not been handled.
pub handle_in_other : (m : Model) (ps : List Process) (x y : Message) → x.to ≢ y.to → handle_in m (handled_in m ps y) x ≡ handle_in m ps x
unfolding handle_in handled_in
handle_in_other m ps x y h = ap (λ p. handle m p x) (get_or-set_other ps y.to x.to _ nobody h)

pub handled_in_swap :
    (m : Model) (ps : List Process) (x y : Message) → x.to ≢ y.to → handled_in m (handled_in m ps x) y ≡ handled_in m (handled_in m ps y) x
unfolding handled_in
handled_in_swap m ps x y h =
    ap (λ d. set (handled_in m ps x) y.to d.process) (handle_in_other m ps y x (λ e. h (sym e)))
    ∙ set_comm ps x.to y.to (handle_in m ps x).process (handle_in m ps y).process h
    ∙ ap (λ d. set (handled_in m ps y) x.to d.process) (sym (handle_in_other m ps x y h))

pub independent : Independent
independent m ps x y h = (handled_in_swap m ps x y h, handle_in_other m ps x y h)
