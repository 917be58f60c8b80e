-- One event: what playing its lines in lent memory comes to.
use Rattle.std.proofs.Common.{◌≡◌, ℕ, suc, ◌+◌, ◌-◌, ◌<◌, ◌≤◌, min, List, [], ◌∷◌, map, length, Ok, Err, sym, refl, ap, ◌∙◌, subst, ap₂, arith}
use Rattle.std.proofs.lemmas.Bool.{lt-ltb, le-ltb}
use Rattle.meaning.specs.declared.Message.{Message}
use Rattle.meaning.specs.declared.Line.{Line}
use Rattle.meaning.specs.Model.{Done}
use Rattle.meaning.proofs.Exec.{Counted, Extends, extends_exec}
use Rattle.body.specs.declared.Event.{Event}
use Rattle.body.specs.declared.Process.{Process}
use Rattle.body.specs.declared.Tally.{Tally}
use Rattle.body.specs.declared.Refusal.TheVariants.{Count}
use Rattle.body.specs.Code.{body_of}
use Rattle.body.specs.Play.{Room, room, top, plays, does_at, tally_of, answer, filled, Lent}
use Rattle.body.proofs.Bridge.{over, over_filled, capped, shown, bridge}

-- Before its first line an event has sent and said nothing.
abbrev pub fresh : ℕ → List ℕ → ℕ → Done
fresh c vs n = record { process = record { vars = vs; seed = c; sent = n }; sends = []; says = [] }

module _ (e : Event) (code : List ℕ) (c : ℕ) (vs : List ℕ) where
  -- Played with places S and L, the event holds what it did, as far as they reach.
  pub played : (S : List Message) (L : List Line) → length S ≤ top → length L ≤ top → (r : Room) →
      r ≡ plays e (body_of (length code) code) (room vs (record { seed = c; sends = 0; lines = 0 }) S L) → r ≡ shown S L (does_at e code c vs)
  unfolding does_at over
  played S L h k r p = p ∙ (bridge e S L h k (body_of (length code) code) (fresh c vs e.sent) (omega arith)).0

  pub counted_on : Extends e.processes e.me e.clock (fresh c vs e.sent) (does_at e code c vs)
  unfolding does_at
  counted_on = extends_exec e.processes 1000 e.it e.me e.clock (body_of (length code) code) _

  pub does_sent : (does_at e code c vs).process.sent ≡ e.sent + length (does_at e code c vs).sends
  does_sent = let x = counted_on in x.sent ∙ ap (λ l. e.sent + length l) (sym x.sends)

-- Counts that a counter reaches are not cut.
uncapped : (ps m n c : ℕ) (xs : List Message) → Counted ps m n c xs → c + length xs ≤ suc top → map capped xs ≡ xs
uncapped ps m n c [] h l = refl
uncapped ps m n c (x ∷ xs) h l =
    let k : min x.count top ≡ x.count = omega (arith, h.0.count) in
    λ i. record { time = x.time; to = x.to; from = x.from; count = k i; number = x.number } ∷ uncapped ps m n (suc c) xs h.1 (omega arith) i

-- What is asked of the places, once the tally is known: that they suffice for messages and for lines, and that the count does.
module _ (d : Done) (s places line_places : ℕ) (counted : d.process.sent ≡ s + length d.sends)
    (few : places < top) (few_lines : line_places < top)
    (enough : min (length d.sends) top ≤ places) (enough_lines : min (length d.says) top ≤ line_places) where
  pub fits : length d.sends ≤ places
  fits = omega arith

  pub fits_lines : length d.says ≤ line_places
  fits_lines = omega arith

  pub refuses_count : s ≤ top → top - s < min (length d.sends) top → Err Count ≡ answer d places line_places
  refuses_count h k =
      rw (le-ltb places (length d.sends) fits, le-ltb line_places (length d.says) fits_lines, lt-ltb top d.process.sent (omega arith)) refl

  pub counts_on : s ≤ top → min (length d.sends) top ≤ top - s → d.process.sent ≤ top
  counts_on h k = omega arith

  pub answers_ok : d.process.sent ≤ top → Ok (record { sends = length d.sends; lines = length d.says }) ≡ answer d places line_places
  answers_ok h =
      rw (le-ltb places (length d.sends) fits, le-ltb line_places (length d.says) fits_lines, le-ltb top d.process.sent h) refl

-- What lent memory holds, part by part, where there were places for all.
pub record Held (d : Done) (S : List Message) (L : List Line) (r : Room) : Type 0 where
  pub vars : r.vars ≡ d.process.vars
  pub seed : r.seed ≡ d.process.seed
  pub sends : r.sends ≡ filled d.sends S
  pub sent : r.sent ≡ length d.sends
  pub lines : r.lines ≡ filled d.says L
  pub said : r.said ≡ length d.says

pub held : (e : Event) (code : List ℕ) (c : ℕ) (vs : List ℕ) (S : List Message) (L : List Line) (r : Room) → length S < top → length L < top →
    r ≡ plays e (body_of (length code) code) (room vs (record { seed = c; sends = 0; lines = 0 }) S L) →
    length (does_at e code c vs).sends ≤ length S → length (does_at e code c vs).says ≤ length L → (does_at e code c vs).process.sent ≤ top →
    Held (does_at e code c vs) S L r
held e code c vs S L r h k p fs fl ft =
    let q = played e code c vs S L (omega arith) (omega arith) r p in
    let x = counted_on e code c vs in
    let u : map capped (does_at e code c vs).sends ≡ (does_at e code c vs).sends =
    uncapped e.processes e.me e.clock e.sent (does_at e code c vs).sends (subst (Counted e.processes e.me e.clock e.sent) (sym x.sends) x.counted)
    (omega (arith, does_sent e code c vs)) in
    record {
      vars = ap (λ y. y.vars) q;
      seed = ap (λ y. y.seed) q;
      sends = ap (λ y. y.sends) q ∙ ap (λ y. over y S) u ∙ over_filled (does_at e code c vs).sends S fs;
      sent = ap (λ y. y.sent) q ∙ (omega arith);
      lines = ap (λ y. y.lines) q ∙ over_filled (does_at e code c vs).says L fl;
      said = ap (λ y. y.said) q ∙ (omega arith);
    }

-- What is known once an event that has places for all is played.
pub record Kept (d : Done) (s : ℕ) (S : List Message) (L : List Line) (r : Room) : Type 0 where
  pub held : Held d S L r
  pub sent : s + r.sent ≤ top
  pub count : s + r.sent ≡ d.process.sent
  pub answer_is : Ok (record { sends = r.sent; lines = r.said }) ≡ answer d (length S) (length L)

pub kept : (e : Event) (code : List ℕ) (c : ℕ) (vs : List ℕ) (S : List Message) (L : List Line) (r : Room) (t : Tally) → length S < top → length L < top → e.sent ≤ top →
    t ≡ tally_of (does_at e code c vs) → t.sends ≤ length S → t.lines ≤ length L → t.sends ≤ top - e.sent →
    r ≡ plays e (body_of (length code) code) (room vs (record { seed = c; sends = 0; lines = 0 }) S L) →
    Kept (does_at e code c vs) e.sent S L r
kept e code c vs S L r t h k l q fs fl ft p =
    let d = does_at e code c vs in
    let cs = does_sent e code c vs in
    let gs = subst (λ x. x.sends ≤ length S) q fs in
    let gl = subst (λ x. x.lines ≤ length L) q fl in
    let gt = counts_on d e.sent (length S) (length L) cs h k gs gl l (subst (λ x. x.sends ≤ top - e.sent) q ft) in
    let hd = held e code c vs S L r h k p (fits d e.sent (length S) (length L) cs h k gs gl) (fits_lines d e.sent (length S) (length L) cs h k gs gl) gt in
    let same : e.sent + r.sent ≡ d.process.sent = ap (λ n. e.sent + n) hd.sent ∙ sym cs in
    record {
      held = hd;
      sent = subst (λ n. n ≤ top) (sym same) gt;
      count = same;
      answer_is = ap₂ (λ m n. Ok (record { sends = m; lines = n })) hd.sent hd.said ∙ answers_ok d e.sent (length S) (length L) cs h k gs gl gt;
    }

-- Lent memory is the same if its parts are, by way of what a run of lines left.
pub lent_by : (p q : Process) (vs ws us : List ℕ) (xs ys zs : List Message) (ls ms ns : List Line) → p ≡ q → vs ≡ ws → ws ≡ us → xs ≡ ys → ys ≡ zs → ls ≡ ms → ms ≡ ns →
    ◌≡◌ {A = Lent} (record { process = p; vars = vs; sends = xs; lines = ls }) (record { process = q; vars = us; sends = zs; lines = ns })
lent_by p q vs ws us xs ys zs ls ms ns a b c d e f g =
    λ i. record { process = a i; vars = (b ∙ c) i; sends = (d ∙ e) i; lines = (f ∙ g) i }
