-- Lent slices, all filled.
use Rattle.std.proofs.Common.{◌≡◌, ℕ, ◌*◌, ◌≤◌, true, leb, List, ◌++◌, map, length, drop, sym, ap, ◌∙◌, subst, arith, length-append}
use Rattle.std.proofs.lemmas.Bool.{and_parts, leb-true}
use Rattle.std.proofs.lemmas.List.{length-map}
use Rattle.meaning.specs.declared.Message.{Message}
use Rattle.body.specs.declared.Process.{Process}
use Rattle.grammar.specs.Syntax.{every, Text, IsText, show, show_kinds, show_things, show_notes, spelled_kind, spelled_thing, spelled_note}
use Rattle.grammar.specs.Rules.{Keeps, right_note}
use Rattle.text.specs.Named.{sent, counted}
use Rattle.text.specs.Slices.{Slices, slices, over, words, starts, name_rows, process_of, var_rows, filled, roomy}
use Rattle.text.specs.Writes.{row_of, writes}
use Rattle.text.specs.Parts.{Packed}
use Rattle.text.specs.Tables.{NotesAt, firsts, ThingsAt, KindsAt}
use Rattle.text.proofs.Rows.{writes_over}
use Rattle.text.proofs.Sizes.{words_short, starts_length, names_length, vars_length, counted_length, firsts_are, names_good, things_fit}

-- What is written from the first place on.
writes_first : {A : Type 0} (ws xs : List A) → length ws ≤ length xs → (writes ws (row_of 0 xs)).items ≡ over ws xs
writes_first ws xs h = ap (λ r. r.items) (writes_over ws xs h)

-- What roomy says, part by part.
pub record Roomy (t : Text) (s : Slices) : Type 0 where
  pub code : length (show_kinds t.kinds) ≤ length s.code
  pub kinds : length t.kinds ≤ length s.kinds
  pub names : 65 * length t.kinds ≤ length s.names
  pub processes : length t.things ≤ length s.processes
  pub vars : 64 * length t.things ≤ length s.vars
  pub messages : length t.notes ≤ length s.messages

pub roomy_parts : (t : Text) (s : Slices) → roomy t s ≡ true → Roomy t s
roomy_parts t s h =
    let a = and_parts (leb (length (show_kinds t.kinds)) (length s.code)) _ h in
    let b = and_parts (leb (length t.kinds) (length s.kinds)) _ a.1 in
    let c = and_parts (leb (65 * length t.kinds) (length s.names)) _ b.1 in
    let d = and_parts (leb (length t.things) (length s.processes)) _ c.1 in
    let e = and_parts (leb (64 * length t.things) (length s.vars)) (leb (length t.notes) (length s.messages)) d.1 in
    record {
      code = leb-true _ _ a.0;
      kinds = leb-true _ _ b.0;
      names = leb-true _ _ c.0;
      processes = leb-true _ _ d.0;
      vars = leb-true _ _ e.0;
      messages = leb-true _ _ e.1;
    }

pub same_slices : {c c' k k' n n' : List ℕ} {p p' : List Process} {v v' : List ℕ} {m m' : List Message} → c ≡ c' → k ≡ k' → n ≡ n' → p ≡ p' → v ≡ v' → m ≡ m' →
    slices c k n p v m ≡ slices c' k' n' p' v' m'
same_slices e1 e2 e3 e4 e5 e6 = λ j. slices (e1 j) (e2 j) (e3 j) (e4 j) (e5 j) (e6 j)

pub fills : (bs : List ℕ) (nk nt nn : ℕ) (code kinds names : List ℕ) (ps : List Process) (vs : List ℕ) (ms : List Message) (code' kinds' names' : List ℕ) (ps' : List Process) (vs' : List ℕ) (ms' : List Message) (bs1 bs2 : List ℕ) →
    KindsAt bs nk bs1 code kinds names code' kinds' names' → ThingsAt bs1 nk names' nt bs2 ps vs ps' vs' → NotesAt bs2 nt nn ms ms' →
    (t : Text) → IsText bs t → Keeps t → length t.kinds ≡ nk → length t.things ≡ nt → length t.notes ≡ nn → roomy t (slices code kinds names ps vs ms) ≡ true →
    slices code' kinds' names' ps' vs' ms' ≡ filled t (slices code kinds names ps vs ms)
unfolding show
fills bs nk nt nn code kinds names ps vs ms code' kinds' names' ps' vs' ms' bs1 bs2 f g h t i keeps lk lt ln room =
    let r = roomy_parts t (slices code kinds names ps vs ms) room in
    let s1 = and_parts (every spelled_kind t.kinds) _ i.well_spelled in
    let s2 = and_parts (every spelled_thing t.things) (every spelled_note t.notes) s1.1 in
    let sh = words_short t.kinds s1.0 in
    let whole = keeps.few_bytes in
    let la = length-append (show_kinds t.kinds) (show_things t.things ++ show_notes t.notes) in
    let ro1 = r.code in
    let q1 = f t.kinds (show_things t.things ++ show_notes t.notes) (sym i.shows) s1.0 keeps.kinds_right (omega arith) (omega arith) r.names lk in
    let nl = names_length t.kinds in
    let names_is = q1.names_are ∙ writes_first (name_rows t.kinds) names (omega (arith, r.names)) in
    let pk : Packed (map (λ k. k.name) t.kinds) (firsts nk names') =
    record {
      packed =
          sym (ap (λ n. firsts n names') (sym lk) ∙ ap (firsts (length t.kinds)) names_is ∙ firsts_are t.kinds (drop (length (name_rows t.kinds)) names));
      are_names = names_good t.kinds s1.0;
    } in
    let q2 = g (map (λ k. k.name) t.kinds) t.things (show_notes t.notes) pk (omega arith) q1.goes_on s2.0 (things_fit t.kinds t.things s1.0 keeps.things_right) lt in
    let few = keeps.few_things in
    let q3 = h t.notes q2.goes_on s2.1 (subst (λ n. every (right_note n) t.notes ≡ true) lt keeps.notes_right) (omega arith) ln in
    let e1 = q1.code_is ∙ writes_first (words t.kinds) code (omega arith) in
    let e2 = q1.kinds_are ∙ writes_first (starts 0 t.kinds) kinds (omega (arith, starts_length 0 t.kinds, r.kinds)) in
    let e4 = q2.processes_are ∙ writes_first (map (process_of t.kinds) t.things) ps (omega (arith, length-map t.things (process_of t.kinds), r.processes)) in
    let e5 = q2.vars_are ∙ writes_first (var_rows t.things) vs (omega (arith, vars_length t.things, r.vars)) in
    let e6 =
    q3 ∙ ap (λ n. (writes (counted n 0 (map sent t.notes)) (row_of 0 ms)).items) (sym lt)
    ∙ writes_first (counted (length t.things) 0 (map sent t.notes)) ms
    (omega (arith, counted_length (length t.things) 0 (map sent t.notes), length-map t.notes sent, r.messages)) in
    same_slices e1 e2 names_is e4 e5 e6
