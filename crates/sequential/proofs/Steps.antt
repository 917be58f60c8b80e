-- One step in lent memory is one step of the meaning, and a run stops in lent memory where it says.
use Rattle.std.proofs.Common.{◌≡◌, ℕ, ◌+◌, ◌-◌, ◌<◌, ◌≤◌, Bool, true, false, cond, eqb, ltb, List, [], ◌∷◌, ◌++◌, length, take, drop, Some, None, Ok, Err, Option, Result, sym, refl, ap, ◌∙◌, subst, ap₂, append_assoc, arith, MatchResult}
use borrow.Rule.Slice.PartMut.{put_mid}
use Rattle.std.proofs.lemmas.List.{length-append, length-take-le, length-drop, length-reverse, take_at}
use Rattle.std.proofs.lemmas.Bool.{lt-ltb, le-ltb, ltb-true, ltb-false, cond-true, cond-false}
use Rattle.meaning.specs.declared.Message.{Message}
use Rattle.meaning.specs.declared.Line.{Line}
use Rattle.meaning.specs.Model.{Model, State, Done, handle, handle_in, handled_in, handling, step, step_with, insert_all}
use Rattle.meaning.specs.Model as meaning
use Rattle.body.specs.declared.Process.{Process}
use Rattle.body.specs.declared.Counts.{Counts}
use Rattle.body.specs.declared.Refusal.{Refusal}
use Rattle.body.specs.Play.{top, answer, filled}
use Rattle.queue.specs.Row.{waiting, InsertedAll, Refused}
use Rattle.sequential.specs.declared.Outcome.{Outcome}
use Rattle.sequential.specs.declared.Outcome.TheVariants.{Ended, Paused, Waiting, Lines, Count}
use Rattle.sequential.specs.Memory.{model_of, done_in, Did, Memory, state_of, Shaped, refuses, stops_at, stops, outcome_of, Stepped}

-- Where the pending messages are known.
stops_by : (m : Model) (end R L : ℕ) (s : State) (w : List Message) → s.pending ≡ w → stops_at m end R L s w ≡ stops m end R L s
stops_by m end R L s w e = ap (λ v. stops_at m end R L s v) (sym e)

pub stops_none : (m : Model) (end R L : ℕ) (s : State) → s.pending ≡ [] → Some Ended ≡ stops m end R L s
unfolding stops_at
stops_none m end R L s e = stops_by m end R L s [] e

pub stops_late : (m : Model) (end R L : ℕ) (s : State) (x : Message) (xs : List Message) → s.pending ≡ x ∷ xs → end ≤ x.time → Some Ended ≡ stops m end R L s
unfolding stops_at
stops_late m end R L s x xs e h = sym (cond-false (ltb x.time end) _ (Some Ended) (le-ltb x.time end h)) ∙ stops_by m end R L s (x ∷ xs) e

-- Why a run stops, by the answer to the next message.
abbrev pub from_answer : ℕ → Result Counts Refusal → Option Outcome
from_answer said (Ok k) = None
from_answer said (Err e) = Some (outcome_of e said)

refuses_is : (d : Done) (others R L said : ℕ) → others ≤ R → said ≤ L → from_answer said (answer d (R - others) (L - said)) ≡ refuses d others R L said
refuses_is d others R L said h k =
    go (ltb (R - others) (length d.sends)) (ltb R (others + length d.sends)) (ltb (L - said) (length d.says)) (ltb L (said + length d.says)) (ltb top d.process.sent)
    (same R others (length d.sends) h) (same L said (length d.says) k)
  where
    same : (R o a : ℕ) → o ≤ R → ltb (R - o) a ≡ ltb R (o + a)
    same R o a h = at (ltb R (o + a)) refl
      where
        at : (b : Bool) → ltb R (o + a) ≡ b → ltb (R - o) a ≡ ltb R (o + a)
        at true e = lt-ltb (R - o) a (omega (arith, ltb-true R (o + a) e)) ∙ sym e
        at false e = le-ltb (R - o) a (omega (arith, ltb-false R (o + a) e)) ∙ sym e

    go : (t₁ u₁ t₂ u₂ t₃ : Bool) → t₁ ≡ u₁ → t₂ ≡ u₂ →
        from_answer said (cond t₁ (Err Refusal.Sends) (cond t₂ (Err Refusal.Lines) (cond t₃ (Err Refusal.Count) (Ok (record { sends = length d.sends; lines = length d.says })))))
        ≡ cond u₁ (Some Waiting) (cond u₂ (Some (cond (eqb said 0) Lines Paused)) (cond t₃ (Some Count) None))
    go t₁ u₁ t₂ u₂ t₃ p q =
        subst (λ v. from_answer said (cond t₁ (Err Refusal.Sends) (cond t₂ (Err Refusal.Lines) (cond t₃ (Err Refusal.Count) (Ok (record { sends = length d.sends; lines = length d.says }))))) ≡ cond v (Some Waiting) (cond u₂ (Some (cond (eqb said 0) Lines Paused)) (cond t₃ (Some Count) None))) p
        (subst (λ v. from_answer said (cond t₁ (Err Refusal.Sends) (cond t₂ (Err Refusal.Lines) (cond t₃ (Err Refusal.Count) (Ok (record { sends = length d.sends; lines = length d.says }))))) ≡ cond t₁ (Some Waiting) (cond v (Some (cond (eqb said 0) Lines Paused)) (cond t₃ (Some Count) None))) q
        (each t₁ t₂ t₃))
      where
        each : (t₁ t₂ t₃ : Bool) →
            from_answer said (cond t₁ (Err Refusal.Sends) (cond t₂ (Err Refusal.Lines) (cond t₃ (Err Refusal.Count) (Ok (record { sends = length d.sends; lines = length d.says })))))
            ≡ cond t₁ (Some Waiting) (cond t₂ (Some (cond (eqb said 0) Lines Paused)) (cond t₃ (Some Count) None))
        each true t₂ t₃ = refl
        each false true t₃ = refl
        each false false true = refl
        each false false false = refl

-- The answer says why a run stops at the message that is next.
pub stops_answer : (code kinds : List ℕ) (end : ℕ) (y : Memory) (ns : List (List ℕ)) (x : Message) (w a b : ℕ) → a ≡ length y.row - w → b ≡ length y.lines - y.progress.said →
    waiting y.row y.progress.waiting ≡ x ∷ waiting y.row w → w ≤ length y.row → x.time < end → y.progress.said ≤ length y.lines →
    from_answer y.progress.said (answer (done_in code kinds y.processes y.vars x) a b)
    ≡ stops (model_of code kinds y.processes ns) end (length y.row) (length y.lines) (state_of y)
unfolding stops_at handle_in handle meaning.body_of
stops_answer code kinds end y ns x w a b la lb e l h k =
    let d = done_in code kinds y.processes y.vars x in
    let o : length (waiting y.row w) ≡ w = length-reverse (take w y.row) ∙ length-take-le w y.row l in
    let u : length (take y.progress.said y.lines) ≡ y.progress.said = length-take-le y.progress.said y.lines k in
    ap₂ (λ i j. from_answer y.progress.said (answer d i j)) la lb
    ∙ refuses_is d w (length y.row) (length y.lines) y.progress.said l k
    ∙ ap₂ (λ a b. refuses d a (length y.row) (length y.lines) b) (sym o) (sym u)
    ∙ sym (cond-true (ltb x.time end) _ (Some Ended) (lt-ltb x.time end h))
    ∙ stops_by (model_of code kinds y.processes ns) end (length y.row) (length y.lines) (state_of y) (x ∷ waiting y.row w) e

-- What an answer that is no refusal says: how many there are, and that there are places for them.
pub record Fits (d : Done) (places line_places : ℕ) (k : Counts) : Type 0 where
  pub sends : k.sends ≡ length d.sends
  pub lines : k.lines ≡ length d.says
  pub places_do : length d.sends ≤ places
  pub lines_do : length d.says ≤ line_places

pub answer_fits : (d : Done) (places line_places : ℕ) (k : Counts) → Ok k ≡ answer d places line_places → Fits d places line_places k
answer_fits d places line_places k = go (ltb places (length d.sends)) (ltb line_places (length d.says)) (ltb top d.process.sent) refl refl
  where
    never : (e : Refusal) → ◌≡◌ {A = Result Counts Refusal} (Ok k) (Err e) → ⊥
    never e p = let z : ◌≡◌ {A = ℕ} 0 1 = cc in omega arith

    go : (t₁ t₂ t₃ : Bool) → ltb places (length d.sends) ≡ t₁ → ltb line_places (length d.says) ≡ t₂ →
        Ok k ≡ cond t₁ (Err Refusal.Sends) (cond t₂ (Err Refusal.Lines) (cond t₃ (Err Refusal.Count) (Ok (record { sends = length d.sends; lines = length d.says })))) →
        Fits d places line_places k
    go true t₂ t₃ p q e = absurd (never Refusal.Sends e)
    go false true t₃ p q e = absurd (never Refusal.Lines e)
    go false false true p q e = absurd (never Refusal.Count e)
    go false false false p q e =
        let f : k ≡ record { sends = length d.sends; lines = length d.says } = cc in
        record {
          sends = ap (λ z. z.sends) f;
          lines = ap (λ z. z.lines) f;
          places_do = ltb-false places (length d.sends) p;
          lines_do = ltb-false line_places (length d.says) q;
        }

-- The first places of a part that was filled with xs hold xs.
front_filled : {X : Type 0} (xs part post : List X) (n : ℕ) → n ≡ length xs → take n (filled xs part ++ post) ≡ xs
front_filled xs part post n e = ap (λ l. take n l) (append_assoc xs (drop (length xs) part) post) ∙ take_at xs (drop (length xs) part ++ post) n (sym e)

-- The same, behind the first a places.
behind_filled : {X : Type 0} (row xs : List X) (a n : ℕ) (part post : List X) → a ≤ length row → n ≡ length xs → take (a + n) (take a row ++ (filled xs part ++ post)) ≡ take a row ++ xs
behind_filled row xs a n part post h e =
    let l : length (take a row ++ xs) ≡ a + n = omega (arith, length-append (take a row) xs, length-take-le a row h) in
    ap (λ z. take (a + n) z) (ap (λ z. take a row ++ z) (append_assoc xs (drop (length xs) part) post) ∙ sym (append_assoc (take a row) xs (drop (length xs) part ++ post)))
    ∙ take_at (take a row ++ xs) (drop (length xs) part ++ post) (a + n) l

no_refusal : {T E : Type 0} (r : Result T E) (P Q : Type 0) → MatchResult r (λ _. P) (λ _. Q) → (Q → ⊥) → P
no_refusal (Ok x) P Q h n = h
no_refusal (Err e) P Q h n = absurd (n h)

module _ (code kinds : List ℕ) (end sends_long : ℕ) (y : Memory) (x : Message) (w : ℕ) (ps' : List Process) (vs' : List ℕ)
    (S part' : List Message) (LP lines' : List Line) (k : Counts) (more row' : List Message) (len' : ℕ) (T E : Type 0) (q : Result T E)
    (shaped : Shaped y sends_long)
    (first : waiting y.row y.progress.waiting ≡ x ∷ waiting y.row w) (in_row : w ≤ length y.row) (timely : x.time < end)
    (long_S : length S ≡ length y.row - w) (long_LP : length LP ≡ length y.lines - y.progress.said)
    (ok : Ok k ≡ answer (done_in code kinds y.processes y.vars x) (length S) (length LP))
    (did : Did code kinds x y.processes y.vars S LP ps' vs' part' lines')
    (post : List Message) (more_is : more ≡ take k.sends (part' ++ post))
    (inserted : MatchResult q (λ _. InsertedAll more y.row w row' len') (λ _. Refused (length more) y.row w row' len'))
    (long_ps : length ps' ≡ length y.processes) (long_vs : length vs' ≡ length y.vars) (long_row : length row' ≡ length y.row)
    (long_lines : length lines' ≡ length LP) where
  d : Done
  d = done_in code kinds y.processes y.vars x

  counts : Fits d (length y.row - w) (length y.lines - y.progress.said) k
  unfolding d
  counts =
      answer_fits (done_in code kinds y.processes y.vars x) _ _ k
      (ok ∙ ap₂ (λ a b. answer (done_in code kinds y.processes y.vars x) a b) long_S long_LP)

  more_done : more ≡ d.sends
  unfolding d
  more_done = more_is ∙ ap (λ p. take k.sends (p ++ post)) did.sends_are ∙ front_filled d.sends S post k.sends counts.sends

  put_in : InsertedAll more y.row w row' len'
  unfolding d
  put_in =
      let l : length more ≡ length d.sends = ap (λ z. length z) more_done in
      no_refusal q _ _ inserted (λ r. omega (arith, r.full, counts.places_do, l))

  abbrev pub y' : Memory
  y' =
      record {
        processes = ps';
        vars = vs';
        row = row';
        lines = put_mid y.progress.said (length y.lines - y.progress.said) y.lines lines';
        progress = record { waiting = len'; said = y.progress.said + k.lines };
      }

  stepped_state : (ns : List (List ℕ)) → state_of y' ≡ step (model_of code kinds y.processes ns) end (state_of y)
  unfolding d step step_with handling handle_in handled_in handle meaning.body_of
  stepped_state ns =
      let s : State = state_of y in
      let p : waiting row' len' ≡ insert_all d.sends (waiting y.row w) = put_in.in_place ∙ ap (λ z. insert_all z (waiting y.row w)) more_done in
      let l : take (y.progress.said + k.lines) (put_mid y.progress.said (length y.lines - y.progress.said) y.lines lines') ≡ take y.progress.said y.lines ++ d.says =
      ap (λ z. take (y.progress.said + k.lines) (put_mid y.progress.said (length y.lines - y.progress.said) y.lines z)) did.lines_are
      ∙ behind_filled y.lines d.says y.progress.said k.lines LP _ shaped.in_lines counts.lines in
      (λ i. record { processes = did.actors_are i; pending = p i; said = l i })
      ∙ sym (cond-true (ltb x.time end) (handling (model_of code kinds y.processes ns) s x (waiting y.row w)) s (lt-ltb x.time end timely))
      ∙ ap (λ z. step_with (model_of code kinds y.processes ns) end s z) (sym first)

  shaped_still : Shaped y' sends_long
  unfolding d
  shaped_still =
      let lm : length (put_mid y.progress.said (length y.lines - y.progress.said) y.lines lines') ≡ length y.lines =
      omega (
        arith,
        length-append (take y.progress.said y.lines) (lines' ++ drop (length y.lines - y.progress.said) (drop y.progress.said y.lines)),
        length-append lines' (drop (length y.lines - y.progress.said) (drop y.progress.said y.lines)),
        length-take-le y.progress.said y.lines shaped.in_lines,
        length-drop y.progress.said y.lines,
        length-drop (length y.lines - y.progress.said) (drop y.progress.said y.lines),
        long_lines,
        long_LP,
      ) in
      record {
        few = omega (arith, long_ps, shaped.few);
        wide = omega (arith, long_ps, long_vs, shaped.wide);
        scratch = omega (arith, long_row, shaped.scratch);
        in_row = omega (arith, long_row, put_in.as_many_more, put_in.room);
        in_lines = omega (arith, lm, counts.lines, counts.lines_do, shaped.in_lines);
      }

  pub stepped : Stepped code kinds end sends_long y y'
  stepped = record { state_is = stepped_state; kinds_are = did.kinds_are; widths_are = did.widths_are; shaped_still = shaped_still }
