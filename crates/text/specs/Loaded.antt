-- What reading a text into lent slices promises.
use Rattle.std.specs.Prelude.{◌≡◌, ℕ, ◌*◌, ◌≤◌, Bool, false, ◌&&◌, ◌⊎◌, List, [], length, drop, Ok, Err, Result, nat_le}
use Rattle.grammar.specs.Syntax.{Text, IsText}
use Rattle.grammar.specs.Check.{check, taken, refused}
use Rattle.grammar.specs.Rules.{Keeps}
use Rattle.checker.specs.declared.Refusal.{Refusal}
use Rattle.checker.specs.declared.Rule.TheVariants as rule
use Rattle.checker.specs.declared.texts.Extent.{Extent}
use Rattle.checker.specs.Refusals.{number_of}
use Rattle.text.specs.declared.loader.Lent.{Lent}
use Rattle.text.specs.declared.stage.Failure.{Failure}
use Rattle.text.specs.declared.stage.Failure.TheVariants.{Refused, Memory, Io}
use Rattle.text.specs.Named.{named}
use Rattle.text.specs.Slices.{Slices, slices, filled, roomy, held, used}

-- What lent slices hold.
abbrev pub slices_in : Lent → Slices
slices_in l = slices l.code.now l.kinds.now l.names.now l.processes.now l.vars.now l.messages.now

-- The same lent slices, as long as they were, whatever they hold.
pub record SameLent (l m : Lent) : Type 0 where
  pub code : m.code.ghost_name ≡ l.code.ghost_name
  pub kinds : m.kinds.ghost_name ≡ l.kinds.ghost_name
  pub names : m.names.ghost_name ≡ l.names.ghost_name
  pub processes : m.processes.ghost_name ≡ l.processes.ghost_name
  pub vars : m.vars.ghost_name ≡ l.vars.ghost_name
  pub messages : m.messages.ghost_name ≡ l.messages.ghost_name
  pub code_places : length m.code.now ≡ length l.code.now
  pub kind_places : length m.kinds.now ≡ length l.kinds.now
  pub name_places : length m.names.now ≡ length l.names.now
  pub process_places : length m.processes.now ≡ length l.processes.now
  pub var_places : length m.vars.now ≡ length l.vars.now
  pub message_places : length m.messages.now ≡ length l.messages.now

-- Whether lent slices are long enough, by the extent of a text.
abbrev pub roomy_for : Extent → Slices → Bool
roomy_for e s =
    nat_le e.lines (length s.code) && (nat_le e.kinds (length s.kinds) && (nat_le (65 * e.kinds) (length s.names)
    && (nat_le e.things (length s.processes) && (nat_le (64 * e.things) (length s.vars) && nat_le e.notes (length s.messages)))))

-- The bytes are a text that keeps all rules; the slices are filled from it, and hold what it says, in the part that is in use.
pub record TakenIn (bs : List ℕ) (s s' : Slices) (e : Extent) (t : Text) : Type 0 where
  pub is_text : IsText bs t
  pub keeps : Keeps t
  pub kinds_are : e.kinds ≡ length t.kinds
  pub things_are : e.things ≡ length t.things
  pub notes_are : e.notes ≡ length t.notes
  pub filled_is : s' ≡ filled t s
  pub says : held (used e.kinds e.things e.notes s') ≡ named t

-- The bytes are refused at that place by that rule; or they are taken, and the slices are too short for them.
abbrev pub Why : List ℕ → Slices → Refusal → Type 0
Why bs s f =
    ((check bs ≡ refused (number_of f.rule) (drop f.place bs)) × (f.place ≤ length bs))
    ⊎ ((t : Text) × (check bs ≡ taken t []) × (roomy t s ≡ false) × (f ≡ record { rule = rule.Lent; place = 4 }))

abbrev pub Loaded : List ℕ → Slices → Slices → Result Extent Refusal → Type 0
Loaded bs s s' (Ok e) = (t : Text) × TakenIn bs s s' e t
Loaded bs s s' (Err f) = (s' ≡ s) × Why bs s f

-- Why a text is not opened: it is refused, as by reading it into some slices; or there was no memory.
abbrev pub Unopened : List ℕ → Failure → Type 0
Unopened bs (Refused f) = (s : Slices) × Why bs s f
Unopened bs (Memory e) = Unit {0}
Unopened bs (Io e) = ⊥
