-- What handling one message sends and says: messages later than it, from its process and counted on from what that had sent,
-- and lines of its time and process.
use Rattle.std.proofs.Common.{◌≡◌, ℕ, zero, suc, ◌+◌, ◌<◌, min, cond, eqb, ltb, List, [], ◌∷◌, ◌++◌, length, get_or, sym, refl, ap, ◌∙◌, subst, append_assoc, arith}
use Rattle.std.specs.List.{AllByRecursion}
use Rattle.std.proofs.lemmas.List.{append-nil, length-append}
use Rattle.std.proofs.ByRecursion.{All-append}
use Rattle.std.proofs.lemmas.Bool.{cond_both, ltb-true, eqb-false}
use Rattle.meaning.specs.declared.Message.{Message}
use Rattle.meaning.specs.declared.Line.{Line}
use Rattle.meaning.specs.Promise.{Later}
use Rattle.meaning.specs.Model.{Model, Process, Done, Body, stop, assign, draw, say, send, branch, repeat, value, with_var, with_seed, with_line, with_sent, iterate, draws, sending, exec, body_of, handle}

-- A message that process m sends at time n, to one of ps processes, as its message number c.
pub record Sent (ps m n c : ℕ) (x : Message) : Type 0 where
  pub later : n < x.time
  pub from : x.from ≡ m
  pub count : x.count ≡ c
  pub to : x.to < ps

-- Such messages, counted on from c.
abbrev pub Counted : ℕ → ℕ → ℕ → ℕ → List Message → Type 0
Counted ps m n c [] = Unit {0}
Counted ps m n c (x ∷ xs) = Sent ps m n c x × Counted ps m n (suc c) xs

-- A line that process m says at time n.
abbrev pub Said : ℕ → ℕ → Line → Type 0
Said m n l = (l.time ≡ n) × (l.process ≡ m)

pub counted_append :
    (ps m n c : ℕ) (xs ys : List Message) → Counted ps m n c xs → Counted ps m n (c + length xs) ys → Counted ps m n c (xs ++ ys)
counted_append ps m n c [] ys h k = subst (λ z. Counted ps m n z ys) (omega arith) k
counted_append ps m n c (x ∷ xs) ys h k =
    (h.0, counted_append ps m n (suc c) xs ys h.1 (subst (λ z. Counted ps m n z ys) (omega arith) k))

-- e is d after process m has sent some more at time n and has said some more.
pub record Extends (ps m n : ℕ) (d e : Done) : Type 0 where
  pub more : List Message
  pub lines : List Line
  pub sends : e.sends ≡ d.sends ++ more
  pub says : e.says ≡ d.says ++ lines
  pub sent : e.process.sent ≡ d.process.sent + length more
  pub counted : Counted ps m n d.process.sent more
  pub said : AllByRecursion (Said m n) lines

extends_same : (ps m n : ℕ) (d e : Done) → e.sends ≡ d.sends → e.says ≡ d.says → e.process.sent ≡ d.process.sent → Extends ps m n d e
extends_same ps m n d e p q r =
    record {
      more = [];
      lines = [];
      sends = p ∙ sym (append-nil d.sends);
      says = q ∙ sym (append-nil d.says);
      sent = omega arith;
      counted = tt;
      said = tt;
    }

extends_trans : (ps m n : ℕ) (d e f : Done) → Extends ps m n d e → Extends ps m n e f → Extends ps m n d f
extends_trans ps m n d e f a b =
    record {
      more = a.more ++ b.more;
      lines = a.lines ++ b.lines;
      sends = b.sends ∙ ap (λ z. z ++ b.more) a.sends ∙ append_assoc d.sends a.more b.more;
      says = b.says ∙ ap (λ z. z ++ b.lines) a.says ∙ append_assoc d.says a.lines b.lines;
      sent = omega (arith, a.sent, b.sent, length-append a.more b.more);
      counted =
          counted_append ps m n d.process.sent a.more b.more a.counted
          (subst (λ z. Counted ps m n z b.more) a.sent b.counted);
      said = All-append (Said m n) a.lines b.lines a.said b.said;
    }

extends_var : (ps m n k a : ℕ) (d : Done) → Extends ps m n d (with_var k a d)
unfolding with_var
extends_var ps m n k a d = extends_same ps m n d (with_var k a d) refl refl refl

extends_draws : (ps m n k a : ℕ) (d : Done) → Extends ps m n d (draws k a d)
unfolding draws with_seed with_var
extends_draws ps m n k a d = extends_same ps m n d (draws k a d) refl refl refl

extends_line : (ps m n : ℕ) (l : Line) (d : Done) → Said m n l → Extends ps m n d (with_line l d)
unfolding with_line
extends_line ps m n l d h =
    record {
      more = [];
      lines = l ∷ [];
      sends = sym (append-nil d.sends);
      says = refl;
      sent = omega arith;
      counted = tt;
      said = (h, tt);
    }

extends_sent : (ps m n : ℕ) (x : Message) (d : Done) → Sent ps m n d.process.sent x → Extends ps m n d (with_sent x d)
unfolding with_sent
extends_sent ps m n x d h =
    record {
      more = x ∷ [];
      lines = [];
      sends = refl;
      says = sym (append-nil d.says);
      sent = omega arith;
      counted = (h, tt);
      said = tt;
    }

-- A delay of 0 counts as 1.
delay_later : (n g : ℕ) → n < n + cond (eqb g 0) 1 g
delay_later n g = cond_both (eqb g 0) 1 g (λ z. n < n + z) (λ e. omega arith) (λ e. omega (arith, eqb-false g 0 e))

extends_sending : (ps m n g f e : ℕ) (d : Done) → Extends ps m n d (sending ps m n g f e d)
unfolding sending
extends_sending ps m n g f e d =
    cond_both (ltb f ps) _ d (Extends ps m n d)
    (λ t. extends_sent ps m n _ d (record { later = delay_later n g; from = refl; count = refl; to = ltb-true f ps t }))
    (λ _. extends_same ps m n d d refl refl refl)

extends_iterate : (ps m n : ℕ) (f : Done → Done) → ((d : Done) → Extends ps m n d (f d)) → (k : ℕ) (d : Done) → Extends ps m n d (iterate k f d)
unfolding iterate
extends_iterate ps m n f h zero d = extends_same ps m n d d refl refl refl
extends_iterate ps m n f h (suc k) d = extends_trans ps m n d (f d) (iterate k f (f d)) (h d) (extends_iterate ps m n f h k (f d))

pub extends_exec : (ps r i m n : ℕ) (b : Body) (d : Done) → Extends ps m n d (exec ps r i m n b d)
unfolding exec
extends_exec ps r i m n stop d = extends_same ps m n d d refl refl refl
extends_exec ps r i m n (assign k e b) d =
    extends_trans ps m n d _ _ (extends_var ps m n k (value d.process.vars i m n e) d) (extends_exec ps r i m n b _)
extends_exec ps r i m n (draw k e b) d =
    extends_trans ps m n d _ _ (extends_draws ps m n k (value d.process.vars i m n e) d) (extends_exec ps r i m n b _)
extends_exec ps r i m n (say e b) d =
    extends_trans ps m n d _ _ (extends_line ps m n _ d (refl, refl)) (extends_exec ps r i m n b _)
extends_exec ps r i m n (send g f e b) d =
    extends_trans ps m n d _ _ (extends_sending ps m n _ _ _ d) (extends_exec ps r i m n b _)
extends_exec ps r i m n (branch e b c rest) d =
    extends_trans ps m n d _ _
    (cond_both (eqb (value d.process.vars i m n e) 0) (exec ps r i m n c d) (exec ps r i m n b d) (Extends ps m n d)
    (λ _. extends_exec ps r i m n c d) (λ _. extends_exec ps r i m n b d))
    (extends_exec ps r i m n rest _)
extends_exec ps r i m n (repeat e b rest) d =
    extends_trans ps m n d _ _
    (extends_iterate ps m n (exec ps r i m n b) (λ c. extends_exec ps r i m n b c) (min (value d.process.vars i m n e) r) d)
    (extends_exec ps r i m n rest _)

-- What handling one message sends is counted on from what the process had sent, and `sent` grows by as many.
handle_extends :
    (m : Model) (p : Process) (x : Message) →
    Extends (length m.kinds) x.to x.time (record { process = p; sends = []; says = [] }) (handle m p x)
unfolding handle
handle_extends m p x = extends_exec (length m.kinds) m.rounds x.number x.to x.time (body_of m x.to) _

pub handle_counted : (m : Model) (p : Process) (x : Message) → Counted (length m.kinds) x.to x.time p.sent (handle m p x).sends
handle_counted m p x =
    let h = handle_extends m p x in
    subst (Counted (length m.kinds) x.to x.time p.sent) (sym h.sends) h.counted

pub handle_sent : (m : Model) (p : Process) (x : Message) → (handle m p x).process.sent ≡ p.sent + length (handle m p x).sends
handle_sent m p x = let h = handle_extends m p x in h.sent ∙ ap (λ z. p.sent + length z) (sym h.sends)

pub handle_said : (m : Model) (p : Process) (x : Message) → AllByRecursion (Said x.to x.time) (handle m p x).says
handle_said m p x = let h = handle_extends m p x in subst (AllByRecursion (Said x.to x.time)) (sym h.says) h.said

-- The message at place k is number c + k.
pub counted_at :
    (ps m n c : ℕ) (xs : List Message) (k : ℕ) (y : Message) → Counted ps m n c xs → k < length xs → Sent ps m n (c + k) (get_or xs k y)
counted_at ps m n c [] k y h l = absurd (omega arith)
counted_at ps m n c (x ∷ xs) zero y h l = subst (λ z. Sent ps m n z x) (omega arith) h.0
counted_at ps m n c (x ∷ xs) (suc k) y h l =
    subst (λ z. Sent ps m n z (get_or xs k y)) (omega arith) (counted_at ps m n (suc c) xs k y h.1 (omega arith))

pub later : Later
later m p x k y l e =
    let h =
    subst (Sent (length m.kinds) x.to x.time (p.sent + k)) e
    (counted_at (length m.kinds) x.to x.time p.sent (handle m p x).sends k y (handle_counted m p x) l) in
    (h.later, h.from, h.count)
