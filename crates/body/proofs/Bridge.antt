-- Lines played in lent memory do what they do in the meaning, as far as there are places for it.
use Rattle.std.proofs.Common.{◌≡◌, ℕ, zero, suc, ◌+◌, ◌≤◌, min, Bool, true, false, cond, eqb, ltb, List, [], ◌∷◌, ◌++◌, map, length, set, sym, refl, ap, ◌∙◌, subst, arith}
use Rattle.std.proofs.lemmas.List.{length-map, length_push, map_push}
use Rattle.std.proofs.lemmas.Bool.{ltb-true, ltb-false}
use Rattle.meaning.specs.declared.Message.{Message}
use Rattle.meaning.specs.declared.Line.{Line}
use Rattle.meaning.specs.Model.{Done, Body, stop, assign, draw, say, send, branch, repeat, value, exec, iterate, with_var, with_seed, with_line, with_sent, draws, sending}
use Rattle.body.specs.declared.Event.{Event}
use Rattle.body.specs.Play.{Room, top, put_var, put_drawn, put_line, put_sent, letter, plays, filled}

-- The places of row hold xs, as far as they reach.
unfoldable pub over : {X : Type 0} → List X → List X → List X
over [] row = row
over (x ∷ xs) [] = []
over (x ∷ xs) (y ∷ row) = x ∷ over xs row

over_more_at : {X : Type 0} (xs row : List X) (x : X) → set (over xs row) (length xs) x ≡ over (xs ++ x ∷ []) row
unfolding over
over_more_at [] [] x = refl
over_more_at [] (y ∷ row) x = refl
over_more_at (z ∷ xs) [] x = refl
over_more_at (z ∷ xs) (y ∷ row) x = ap (λ l. z ∷ l) (over_more_at xs row x)

over_past : {X : Type 0} (xs row : List X) (k : ℕ) (x : X) → length row ≤ k → length row ≤ length xs → set (over xs row) k x ≡ over (xs ++ x ∷ []) row
unfolding over
over_past [] [] k x h g = refl
over_past [] (y ∷ row) k x h g = absurd (omega arith)
over_past (z ∷ xs) [] k x h g = refl
over_past (z ∷ xs) (y ∷ row) zero x h g = absurd (omega arith)
over_past (z ∷ xs) (y ∷ row) (suc k) x h g = ap (λ l. z ∷ l) (over_past xs row k x (omega arith) (omega arith))

-- One more goes into the next place, if there is one; the count that says where stops at top.
pub over_more : {X : Type 0} (xs row : List X) (x : X) → length row ≤ top → set (over xs row) (min (length xs) top) x ≡ over (xs ++ x ∷ []) row
over_more xs row x h = go (ltb top (length xs)) refl
  where
    go : (b : Bool) → ltb top (length xs) ≡ b → set (over xs row) (min (length xs) top) x ≡ over (xs ++ x ∷ []) row
    go true e =
        let l = ltb-true top (length xs) e in
        over_past xs row (min (length xs) top) x (omega arith) (omega arith)
    go false e =
        let l = ltb-false top (length xs) e in
        let s : min (length xs) top ≡ length xs = omega arith in
        rw s (over_more_at xs row x)

-- Where there are places for all, they hold all, and the others what they held.
pub over_filled : {X : Type 0} (xs row : List X) → length xs ≤ length row → over xs row ≡ filled xs row
unfolding over
over_filled [] row h = refl
over_filled (x ∷ xs) [] h = absurd (omega arith)
over_filled (x ∷ xs) (y ∷ row) h = ap (λ l. x ∷ l) (over_filled xs row (omega arith))

-- A message whose count is as far as a counter reaches.
abbrev pub capped : Message → Message
capped x = record { time = x.time; to = x.to; from = x.from; count = min x.count top; number = x.number }

-- Where the lines of an event have come to d: what lent memory then holds, if its places held S and L.
abbrev pub shown : List Message → List Line → Done → Room
shown S L d =
    record {
      vars = d.process.vars;
      seed = d.process.seed;
      sends = over (map capped d.sends) S;
      sent = min (length d.sends) top;
      lines = over d.says L;
      said = min (length d.says) top;
    }

-- The process has counted what it sent at this event.
abbrev pub Tied : Event → Done → Type 0
Tied e d = d.process.sent ≡ e.sent + length d.sends

counted_more : {X : Type 0} (xs : List X) (x : X) → min (min (length xs) top + 1) top ≡ min (length (xs ++ x ∷ [])) top
counted_more xs x = rw length_push (omega arith)

module _ (e : Event) (S : List Message) (L : List Line) (hS : length S ≤ top) (hL : length L ≤ top) where
  line_shown : (l : Line) (d : Done) → put_line l (shown S L d) ≡ shown S L (with_line l d)
  unfolding put_line with_line
  line_shown l d =
      let p = over_more d.says L l hL in
      let q = counted_more d.says l in
      λ i. record { vars = d.process.vars; seed = d.process.seed; sends = over (map capped d.sends) S; sent = min (length d.sends) top; lines = p i; said = q i }

  message_shown : (x : Message) (d : Done) (y : Message) → y ≡ capped x →
      ◌≡◌ {A = Room}
      (record { vars = d.process.vars; seed = d.process.seed; sends = set (over (map capped d.sends) S) (min (length d.sends) top) y; sent = min (min (length d.sends) top + 1) top; lines = over d.says L; said = min (length d.says) top })
      (shown S L (with_sent x d))
  unfolding with_sent
  message_shown x d y c =
      let p : set (over (map capped d.sends) S) (min (length d.sends) top) y ≡ over (map capped (d.sends ++ x ∷ [])) S =
      subst (λ k. set (over (map capped d.sends) S) (min k top) y ≡ over (map capped (d.sends ++ x ∷ [])) S) (length-map d.sends capped)
      (subst (λ z. set (over (map capped d.sends) S) (min (length (map capped d.sends)) top) z ≡ over (map capped (d.sends ++ x ∷ [])) S) (sym c)
      (over_more (map capped d.sends) S (capped x) hS ∙ ap (λ xs. over xs S) (sym (map_push capped d.sends x)))) in
      let q = counted_more d.sends x in
      λ i. record { vars = d.process.vars; seed = d.process.seed; sends = p i; sent = q i; lines = over d.says L; said = min (length d.says) top }

  sent_shown : (delay to number : ℕ) (d : Done) → Tied e d →
      (put_sent e delay to number (shown S L d) ≡ shown S L (sending e.processes e.me e.clock delay to number d)) × Tied e (sending e.processes e.me e.clock delay to number d)
  unfolding put_sent sending with_sent
  sent_shown delay to number d h = go (ltb to e.processes) refl
    where
      x : Message
      x = record { time = e.clock + cond (eqb delay 0) 1 delay; to = to; from = e.me; count = d.process.sent; number = number }

      go : (b : Bool) → ltb to e.processes ≡ b →
          (put_sent e delay to number (shown S L d) ≡ shown S L (sending e.processes e.me e.clock delay to number d)) × Tied e (sending e.processes e.me e.clock delay to number d)
      go true t =
          let c : min (e.sent + min (length d.sends) top) top ≡ min d.process.sent top = omega arith in
          let y : letter e (min (length d.sends) top) delay to number ≡ capped x =
          λ i. record { time = e.clock + cond (eqb delay 0) 1 delay; to = to; from = e.me; count = c i; number = number } in
          rw t (message_shown x d _ y, simp length_push (omega arith))
      go false t = rw t (refl, h)

  iterated : (f : Room → Room) (g : Done → Done) → ((d : Done) → Tied e d → (f (shown S L d) ≡ shown S L (g d)) × Tied e (g d)) → (n : ℕ) (d : Done) → Tied e d →
      (iterate n f (shown S L d) ≡ shown S L (iterate n g d)) × Tied e (iterate n g d)
  unfolding iterate
  iterated f g h zero d t = (refl, t)
  iterated f g h (suc n) d t =
      let k = iterated f g h n (g d) (h d t).1 in
      (ap (λ r. iterate n f r) (h d t).0 ∙ k.0, k.1)

  after : (b : Body) (r : Room) (d : Done) (go : (d : Done) → Tied e d → (plays e b (shown S L d) ≡ shown S L (exec e.processes 1000 e.it e.me e.clock b d)) × Tied e (exec e.processes 1000 e.it e.me e.clock b d)) →
      r ≡ shown S L d → Tied e d → (plays e b r ≡ shown S L (exec e.processes 1000 e.it e.me e.clock b d)) × Tied e (exec e.processes 1000 e.it e.me e.clock b d)
  after b r d go p t = (ap (λ s. plays e b s) p ∙ (go d t).0, (go d t).1)

  -- Played in lent memory, lines do what they do in the meaning.
  pub bridge : (b : Body) (d : Done) → Tied e d →
      (plays e b (shown S L d) ≡ shown S L (exec e.processes 1000 e.it e.me e.clock b d)) × Tied e (exec e.processes 1000 e.it e.me e.clock b d)
  unfolding plays exec put_var with_var put_drawn draws with_seed with_line
  bridge stop d t = (refl, t)
  bridge (assign k x b) d t = bridge b (with_var k (value d.process.vars e.it e.me e.clock x) d) t
  bridge (draw k x b) d t = bridge b (draws k (value d.process.vars e.it e.me e.clock x) d) t
  bridge (say x b) d t = after b _ _ (bridge b) (line_shown _ d) t
  bridge (send g f x b) d t =
      let s = sent_shown (value d.process.vars e.it e.me e.clock g) (value d.process.vars e.it e.me e.clock f) (value d.process.vars e.it e.me e.clock x) d t in
      after b _ _ (bridge b) s.0 s.1
  bridge (branch x b c rest) d t = go (eqb (value d.process.vars e.it e.me e.clock x) 0) (bridge rest) (bridge b d t) (bridge c d t)
    where
      Goes : Body → Done → Type 0
      Goes b d = (plays e b (shown S L d) ≡ shown S L (exec e.processes 1000 e.it e.me e.clock b d)) × Tied e (exec e.processes 1000 e.it e.me e.clock b d)

      go : (v : Bool) → ((d : Done) → Tied e d → Goes rest d) → Goes b d → Goes c d →
          (plays e rest (cond v (plays e c (shown S L d)) (plays e b (shown S L d)))
          ≡ shown S L (exec e.processes 1000 e.it e.me e.clock rest (cond v (exec e.processes 1000 e.it e.me e.clock c d) (exec e.processes 1000 e.it e.me e.clock b d))))
          × Tied e (exec e.processes 1000 e.it e.me e.clock rest (cond v (exec e.processes 1000 e.it e.me e.clock c d) (exec e.processes 1000 e.it e.me e.clock b d)))
      go true h p q = after rest _ _ h q.0 q.1
      go false h p q = after rest _ _ h p.0 p.1
  bridge (repeat x b rest) d t =
      let s = iterated (plays e b) (exec e.processes 1000 e.it e.me e.clock b) (bridge b) (min (value d.process.vars e.it e.me e.clock x) 1000) d t in
      after rest _ _ (bridge rest) s.0 s.1
