-- Processes in lent memory: what one of them is, and what handling a message makes of all.
use Rattle.std.proofs.Common.{◌≡◌, ℕ, zero, suc, ◌+◌, ◌*◌, ◌<◌, ◌≤◌, min, Bool, true, false, ltb, List, [], ◌∷◌, ◌++◌, map, length, get_or, take, drop, set, Ok, Err, Result, sym, refl, ap, ◌∙◌, ap₂, arith, MatchResult}
use borrow.Rule.Slice.PartMut.{put_mid}
use Rattle.std.proofs.lemmas.List.{get_or_past, get_or-map, length-map, length-take, drop-drop, map-set, set-get_or, set_past, take_at, length-drop, drop-append-le, drop-take, take-append-drop}
use Rattle.std.proofs.lemmas.Slice.{take-put_mid_below, drop-append-drop}
use Rattle.std.proofs.lemmas.Bool.{ltb-true, ltb-false, cond-true, cond-false}
use Rattle.meaning.specs.declared.Message.{Message}
use Rattle.meaning.specs.declared.Line.{Line}
use Rattle.meaning.specs.Model.{Model, Done, stop, exec, handle, handle_in, handled_in, nobody}
use Rattle.meaning.specs.Model as meaning
use Rattle.body.specs.declared.Process.{Process}
use Rattle.body.specs.declared.Counts.{Counts}
use Rattle.body.specs.declared.Refusal.{Refusal}
use Rattle.body.specs.Code.{body_of}
use Rattle.body.specs.Play.{does, does_at, answer, Lent, lent_after, filled}
use Rattle.sequential.specs.Memory.{actor, actors, code_of, body_from, done_in, Did, Untouched}

abbrev pub absent : Process
absent = record { kind = 0; width = 0; seed = 0; sent = 0 }

pub length_actors : (ps : List Process) (vs : List ℕ) → length (actors ps vs) ≡ length ps
unfolding actors
length_actors [] vs = refl
length_actors (p ∷ ps) vs = ap suc (length_actors ps (drop 64 vs))

-- Process k, where there is one.
pub actor_at : (ps : List Process) (vs : List ℕ) (k : ℕ) → k < length ps → get_or (actors ps vs) k nobody ≡ actor (get_or ps k absent) (drop (k * 64) vs)
unfolding actors
actor_at [] vs k h = absurd (omega arith)
actor_at (p ∷ ps) vs zero h = refl
actor_at (p ∷ ps) vs (suc k) h =
    let e : 64 + k * 64 ≡ suc k * 64 = omega arith in
    actor_at ps (drop 64 vs) k (omega arith) ∙ ap (λ l. actor (get_or ps k absent) l) (drop-drop (k * 64) 64 vs ∙ ap (λ n. drop n vs) e)

-- A kind's lines are those of its code.
pub body_at : (code kinds : List ℕ) (k : ℕ) → get_or (map (body_from code) kinds) k stop ≡ body_of (length (code_of code kinds k)) (code_of code kinds k)
unfolding body_of
body_at code kinds k = go (ltb k (length kinds)) refl
  where
    go : (b : Bool) → ltb k (length kinds) ≡ b → get_or (map (body_from code) kinds) k stop ≡ body_of (length (code_of code kinds k)) (code_of code kinds k)
    go true e =
        get_or-map (body_from code) kinds k 0 stop (ltb-true k (length kinds) e)
        ∙ sym (ap (λ w. body_of (length w) w) (cond-true (ltb k (length kinds)) (drop (get_or kinds k 0) code) [] e))
    go false e =
        get_or_past (map (body_from code) kinds) k stop (omega (arith, ltb-false k (length kinds) e, length-map kinds (body_from code)))
        ∙ sym (ap (λ w. body_of (length w) w) (cond-false (ltb k (length kinds)) (drop (get_or kinds k 0) code) [] e))

-- What a process does in lent memory is what it does in the meaning.
pub does_is : (code kinds : List ℕ) (ps : List Process) (vs : List ℕ) (x : Message) (p : Process) (part c : List ℕ) (n : ℕ) →
    p.kind ≡ get_or (map (λ q. q.kind) ps) x.to 0 → get_or (actors ps vs) x.to nobody ≡ record { vars = part; seed = p.seed; sent = p.sent } →
    c ≡ code_of code kinds p.kind → n ≡ length ps → does c n p part x ≡ done_in code kinds ps vs x
unfolding handle_in handle does_at meaning.body_of
does_is code kinds ps vs x p part c n k a q l =
    let b : body_of (length c) c ≡ get_or (map (body_from code) kinds) (get_or (map (λ q. q.kind) ps) x.to 0) stop =
    ap (λ w. body_of (length w) w) q ∙ sym (body_at code kinds p.kind) ∙ ap (λ j. get_or (map (body_from code) kinds) j stop) k in
    let m : n ≡ length (map (λ q. q.kind) ps) = l ∙ sym (length-map ps (λ q. q.kind)) in
    λ i. exec (m i) 1000 x.number x.to x.time (b i) (record { process = sym a i; sends = []; says = [] })

-- A write behind the first 64 places is one into what is behind them.
part_behind : (b w : ℕ) (vs ys : List ℕ) → 64 + b ≤ length vs → drop 64 (put_mid (64 + b) w vs ys) ≡ put_mid b w (drop 64 vs) ys
part_behind b w vs ys h =
    let l : 64 ≤ length (take (64 + b) vs) = omega (arith, length-take (64 + b) vs) in
    drop-append-le 64 (take (64 + b) vs) (ys ++ drop w (drop (64 + b) vs)) l
    ∙ ap₂ (λ s t. s ++ (ys ++ drop w t)) (drop-take 64 b vs) (sym (drop-drop b 64 vs))

-- Where process k is written back with its variables ys, it is that, and the others are as they were.
pub stored : (ps : List Process) (vs : List ℕ) (k : ℕ) (p' : Process) (ys : List ℕ) → k < length ps → 64 * length ps ≤ length vs →
    length ys ≡ min p'.width 64 →
    actors (set ps k p') (put_mid (k * 64) (min p'.width 64) vs ys) ≡ set (actors ps vs) k (record { vars = ys; seed = p'.seed; sent = p'.sent })
unfolding actors
stored [] vs k p' ys h l w = absurd (omega arith)
stored (p ∷ ps) vs zero p' ys h l w =
    let v : take (min p'.width 64) (ys ++ drop (min p'.width 64) vs) ≡ ys = take_at ys _ (min p'.width 64) w in
    let r : drop 64 (ys ++ drop (min p'.width 64) vs) ≡ drop 64 vs = drop-append-drop (min p'.width 64) vs ys 64 (omega arith) w in
    λ i. record { vars = v i; seed = p'.seed; sent = p'.sent } ∷ actors ps (r i)
stored (p ∷ ps) vs (suc k) p' ys h l w =
    let e : suc k * 64 ≡ 64 + k * 64 = omega arith in
    let v : take (min p.width 64) (put_mid (suc k * 64) (min p'.width 64) vs ys) ≡ take (min p.width 64) vs =
    take-put_mid_below (suc k * 64) (min p'.width 64) vs ys (min p.width 64) (omega arith) (omega arith) in
    let r : drop 64 (put_mid (suc k * 64) (min p'.width 64) vs ys) ≡ put_mid (k * 64) (min p'.width 64) (drop 64 vs) ys =
    ap (λ a. drop 64 (put_mid a (min p'.width 64) vs ys)) e ∙ part_behind (k * 64) (min p'.width 64) vs ys (omega arith) in
    let t : actors (set ps k p') (put_mid (k * 64) (min p'.width 64) (drop 64 vs) ys) ≡ set (actors ps (drop 64 vs)) k (record { vars = ys; seed = p'.seed; sent = p'.sent }) =
    stored ps (drop 64 vs) k p' ys (omega arith) (omega (arith, length-drop 64 vs)) w in
    (λ i. record { vars = v i; seed = p.seed; sent = p.sent } ∷ actors (set ps k p') (r i)) ∙ ap (λ q. actor p vs ∷ q) t

by_result : {T E : Type 0} (r : Result T E) (P : T → Type 0) (Q : E → Type 0) → ((x : T) → r ≡ Ok x → P x) → ((y : E) → r ≡ Err y → Q y) → MatchResult r P Q
by_result (Ok x) P Q f g = f x refl
by_result (Err y) P Q f g = g y refl

-- A field that is written back as it was leaves the row of that field as it was.
kept_field : (f : Process → ℕ) (ps : List Process) (k : ℕ) (p' : Process) → k < length ps → f p' ≡ f (get_or ps k absent) → map f (set ps k p') ≡ map f ps
kept_field f ps k p' h e =
    map-set f ps k p' ∙ ap (λ a. set (map f ps) k a) (e ∙ sym (get_or-map f ps k absent 0 h)) ∙ set-get_or (map f ps) k 0

-- The process that x is for is there, and its part of the memory is handed to `handle`.
module _ (code kinds : List ℕ) (ps : List Process) (vs : List ℕ) (x : Message) (sends : List Message) (lines : List Line)
    (p' : Process) (ys part c : List ℕ) (n w : ℕ) (r : Result Counts Refusal) (sends' : List Message) (lines' : List Line)
    (there : x.to < length ps) (wide : 64 * length ps ≤ length vs) (width : w ≡ min (get_or ps x.to absent).width 64)
    (part_is : part ≡ take w (drop (x.to * 64) vs)) (code_is : c ≡ code_of code kinds (get_or ps x.to absent).kind) (many : n ≡ length ps)
    (long : length ys ≡ length part)
    (answers : r ≡ answer (does c n (get_or ps x.to absent) part x) (length sends) (length lines))
    (holds : ◌≡◌ {A = Lent} (record { process = p'; vars = ys; sends = sends'; lines = lines' })
    (lent_after r (does c n (get_or ps x.to absent) part x) (record { process = get_or ps x.to absent; vars = part; sends = sends; lines = lines }))) where
  same_done : does c n (get_or ps x.to absent) part x ≡ done_in code kinds ps vs x
  same_done =
      does_is code kinds ps vs x (get_or ps x.to absent) part c n (sym (get_or-map (λ q. q.kind) ps x.to absent 0 there))
      (actor_at ps vs x.to there ∙ ap (λ l. record { vars = l; seed = (get_or ps x.to absent).seed; sent = (get_or ps x.to absent).sent }) (ap (λ j. take j (drop (x.to * 64) vs)) (sym width) ∙ sym part_is))
      code_is many

  part_long : length ys ≡ w
  part_long =
      let l : length (take w (drop (x.to * 64) vs)) ≡ w = omega (arith, length-take w (drop (x.to * 64) vs), length-drop (x.to * 64) vs) in
      long ∙ ap (λ q. length q) part_is ∙ l

  pub answers_in : r ≡ answer (done_in code kinds ps vs x) (length sends) (length lines)
  answers_in = answers ∙ ap (λ d. answer d (length sends) (length lines)) same_done

  did : (k : Counts) → r ≡ Ok k → Did code kinds x ps vs sends lines (set ps x.to p') (put_mid (x.to * 64) w vs ys) sends' lines'
  unfolding handled_in
  did k e =
      let d = does c n (get_or ps x.to absent) part x in
      let h : ◌≡◌ {A = Lent} (record { process = p'; vars = ys; sends = sends'; lines = lines' }) (lent_after (Ok k) d (record { process = get_or ps x.to absent; vars = part; sends = sends; lines = lines })) =
      holds ∙ ap (λ q. lent_after q d (record { process = get_or ps x.to absent; vars = part; sends = sends; lines = lines })) e in
      let wd : w ≡ min p'.width 64 = width ∙ sym (ap (λ l. min l.process.width 64) h) in
      record {
        actors_are =
            ap (λ j. actors (set ps x.to p') (put_mid (x.to * 64) j vs ys)) wd
            ∙ stored ps vs x.to p' ys there wide (part_long ∙ wd)
            ∙ ap (λ l. set (actors ps vs) x.to (record { vars = l.vars; seed = l.process.seed; sent = l.process.sent })) h
            ∙ ap (λ q. set (actors ps vs) x.to q.process) same_done;
        kinds_are = kept_field (λ p. p.kind) ps x.to p' there (ap (λ l. l.process.kind) h);
        widths_are = kept_field (λ p. p.width) ps x.to p' there (ap (λ l. l.process.width) h);
        sends_are = ap (λ l. l.sends) h ∙ ap (λ q. filled q.sends sends) same_done;
        lines_are = ap (λ l. l.lines) h ∙ ap (λ q. filled q.says lines) same_done;
      }

  untouched : (y : Refusal) → r ≡ Err y → Untouched ps vs sends lines (set ps x.to p') (put_mid (x.to * 64) w vs ys) sends' lines'
  untouched y e =
      let d = does c n (get_or ps x.to absent) part x in
      let h : ◌≡◌ {A = Lent} (record { process = p'; vars = ys; sends = sends'; lines = lines' }) (record { process = get_or ps x.to absent; vars = part; sends = sends; lines = lines }) =
      holds ∙ ap (λ q. lent_after q d (record { process = get_or ps x.to absent; vars = part; sends = sends; lines = lines })) e in
      record {
        processes_are = ap (λ l. set ps x.to l.process) h ∙ set-get_or ps x.to absent;
        vars_are =
            ap (λ l. put_mid (x.to * 64) w vs l.vars) h
            ∙ ap (λ q. put_mid (x.to * 64) w vs q) part_is
            ∙ ap (λ q. take (x.to * 64) vs ++ q) (take-append-drop w (drop (x.to * 64) vs))
            ∙ take-append-drop (x.to * 64) vs;
        sends_are = ap (λ l. l.sends) h;
        lines_are = ap (λ l. l.lines) h;
      }

  pub holds_in : MatchResult r (λ _. Did code kinds x ps vs sends lines (set ps x.to p') (put_mid (x.to * 64) w vs ys) sends' lines')
      (λ _. Untouched ps vs sends lines (set ps x.to p') (put_mid (x.to * 64) w vs ys) sends' lines')
  holds_in = by_result r _ _ did untouched

-- There is no process that x is for: nobody handles it, by the lines of the first kind.
module _ (code kinds : List ℕ) (ps : List Process) (vs : List ℕ) (x : Message) (sends : List Message) (lines : List Line)
    (p' : Process) (ys c : List ℕ) (n : ℕ) (r : Result Counts Refusal) (sends' : List Message) (lines' : List Line)
    (past : length ps ≤ x.to) (code_is : c ≡ code_of code kinds 0) (many : n ≡ length ps)
    (answers : r ≡ answer (does c n absent [] x) (length sends) (length lines))
    (holds : ◌≡◌ {A = Lent} (record { process = p'; vars = ys; sends = sends'; lines = lines' })
    (lent_after r (does c n absent [] x) (record { process = absent; vars = []; sends = sends; lines = lines }))) where
  nobody_done : does c n absent [] x ≡ done_in code kinds ps vs x
  unfolding nobody
  nobody_done =
      does_is code kinds ps vs x absent [] c n (sym (get_or_past (map (λ q. q.kind) ps) x.to 0 (omega (arith, length-map ps (λ q. q.kind)))))
      (get_or_past (actors ps vs) x.to nobody (omega (arith, length_actors ps vs))) code_is many

  pub nobody_answers : r ≡ answer (done_in code kinds ps vs x) (length sends) (length lines)
  nobody_answers = answers ∙ ap (λ d. answer d (length sends) (length lines)) nobody_done

  nobody_did : (k : Counts) → r ≡ Ok k → Did code kinds x ps vs sends lines ps vs sends' lines'
  unfolding handled_in
  nobody_did k e =
      let d = does c n absent [] x in
      let h : ◌≡◌ {A = Lent} (record { process = p'; vars = ys; sends = sends'; lines = lines' }) (lent_after (Ok k) d (record { process = absent; vars = []; sends = sends; lines = lines })) =
      holds ∙ ap (λ q. lent_after q d (record { process = absent; vars = []; sends = sends; lines = lines })) e in
      record {
        actors_are = sym (set_past (actors ps vs) x.to _ (omega (arith, length_actors ps vs)));
        kinds_are = refl;
        widths_are = refl;
        sends_are = ap (λ l. l.sends) h ∙ ap (λ q. filled q.sends sends) nobody_done;
        lines_are = ap (λ l. l.lines) h ∙ ap (λ q. filled q.says lines) nobody_done;
      }

  nobody_untouched : (y : Refusal) → r ≡ Err y → Untouched ps vs sends lines ps vs sends' lines'
  nobody_untouched y e =
      let d = does c n absent [] x in
      let h : ◌≡◌ {A = Lent} (record { process = p'; vars = ys; sends = sends'; lines = lines' }) (record { process = absent; vars = []; sends = sends; lines = lines }) =
      holds ∙ ap (λ q. lent_after q d (record { process = absent; vars = []; sends = sends; lines = lines })) e in
      record { processes_are = refl; vars_are = refl; sends_are = ap (λ l. l.sends) h; lines_are = ap (λ l. l.lines) h }

  pub nobody_holds : MatchResult r (λ _. Did code kinds x ps vs sends lines ps vs sends' lines') (λ _. Untouched ps vs sends lines ps vs sends' lines')
  nobody_holds = by_result r _ _ nobody_did nobody_untouched
