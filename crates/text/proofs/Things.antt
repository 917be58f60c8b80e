-- Things, one after the other.
use Rattle.std.proofs.Common.{◌≡◌, ℕ, suc, ◌+◌, ◌-◌, ◌%◌, ◌<◌, ◌≤◌, true, eqb, leb, List, [], ◌∷◌, ◌++◌, map, length, get_or, drop, codes, sym, refl, ap, ◌∙◌, subst, append_assoc, mod-eq_of_lt, arith}
use Rattle.std.proofs.lemmas.Bool.{and_parts, leb-true, eq-eqb, ne_eqb, cond-true, cond-false}
use Rattle.std.proofs.lemmas.List.{nil_from_length, length-map}
use Rattle.body.specs.declared.Process.{Process}
use Rattle.grammar.specs.Syntax.{is_name, is_number, every, Thing, show_row, show_things, spelled_thing}
use Rattle.grammar.specs.Check.{decimal}
use Rattle.grammar.specs.Rules.{small}
use Rattle.text.specs.Named.{index_of}
use Rattle.text.specs.Slices.{var_rows}
use Rattle.text.specs.Writes.{Row, row_of, writes}
use Rattle.text.specs.Parts.{place_of, Packed, NameAt, is_small}
use Rattle.text.specs.Tables.{firsts, padded, RowAt, fit_thing, process_in}
use Rattle.text.proofs.Rows.{writes_on}
use Rattle.text.proofs.FillTerms.{packed_place}
use Rattle.text.proofs.Firsts.{name_word}
use Rattle.text.proofs.Lists.{padded_row, row_next, every_both}

-- The place of a kind, step by step.
module _ (p n j : ℕ) (ps ps' : List ℕ) (h : j < n) where
  count_down : n - j ≡ suc (n - (j + 1))
  count_down = omega arith

  pub kind_here : get_or ps 0 0 ≡ p → place_of p (firsts (n - j) ps) ≡ 0
  unfolding place_of firsts
  kind_here e = ap (λ m. place_of p (firsts m ps)) count_down ∙ cond-true (eqb p (get_or ps 0 0)) 0 _ (eq-eqb p (get_or ps 0 0) (sym e))

  pub kind_further : (get_or ps 0 0 ≡ p → ⊥) → ps' ≡ drop 65 ps → place_of p (firsts (n - j) ps) ≡ suc (place_of p (firsts (n - (j + 1)) ps'))
  unfolding place_of firsts
  kind_further e d =
      ap (λ m. place_of p (firsts m ps)) count_down
      ∙ cond-false (eqb p (get_or ps 0 0)) 0 _ (ne_eqb p (get_or ps 0 0) (λ q. e (sym q)))
      ∙ ap (λ x. suc (place_of p (firsts (n - (j + 1)) x))) (sym d)

pub kind_none : (p n j : ℕ) (ps : List ℕ) → n ≤ j → place_of p (firsts (n - j) ps) ≡ 0
unfolding place_of firsts
kind_none p n j ps h = let z : n - j ≡ 0 = omega arith in ap (λ m. place_of p (firsts m ps)) z

-- The things that are still to be read.
pub record ThingsLeft (bs : List ℕ) (i count : ℕ) (ks : List (List ℕ)) (xs : List Thing) (k : List ℕ) (r r0 : Row Process) (v v0 : Row ℕ) : Type 0 where
  pub todo : List Thing
  pub there : bs ≡ show_things todo ++ k
  pub spelled : every spelled_thing todo ≡ true
  pub fit : every fit_thing todo ≡ true
  pub many : length todo + i ≡ count
  pub same_processes : writes (map (process_in ks) todo) r ≡ writes (map (process_in ks) xs) r0
  pub same_vars : writes (var_rows todo) v ≡ writes (var_rows xs) v0

pub things_begin : (bs : List ℕ) (count : ℕ) (ks : List (List ℕ)) (xs : List Thing) (k : List ℕ) (r : Row Process) (v : Row ℕ) → r.used ≡ 0 → v.used ≡ 0 → bs ≡ show_things xs ++ k →
    every spelled_thing xs ≡ true → every fit_thing xs ≡ true → length xs ≡ count → ThingsLeft bs 0 count ks xs k r (row_of 0 r.items) v (row_of 0 v.items)
things_begin bs count ks xs k r v u w e s g l =
    subst (λ x. ThingsLeft bs 0 count ks xs k (row_of x r.items) (row_of 0 r.items) v (row_of 0 v.items)) (sym u)
    (subst (λ x. ThingsLeft bs 0 count ks xs k (row_of 0 r.items) (row_of 0 r.items) (row_of x v.items) (row_of 0 v.items)) (sym w)
    (record { todo = xs; there = e; spelled = s; fit = g; many = omega arith; same_processes = refl; same_vars = refl }))

show_thing : (x : Thing) (xs : List Thing) (k : List ℕ) → show_things (x ∷ xs) ++ k ≡ codes "thing " ++ (x.kind ++ (show_row x.numbers ++ 10 ∷ (show_things xs ++ k)))
unfolding show_things
show_thing x xs k = simp append_assoc

abbrev process : ℕ → ℕ → Process
process kind width = record { kind = kind; width = width; seed = 0; sent = 0 }

pub things_more : (bs : List ℕ) (i count : ℕ) (ks : List (List ℕ)) (xs : List Thing) (k : List ℕ) (r r0 : Row Process) (v v0 : Row ℕ) (kinds : ℕ) (ps : List ℕ)
    (bs1 : List ℕ) (p : ℕ) (bs2 bs3 : List ℕ) (width : ℕ) (v' : Row ℕ) (place : ℕ) (r' : Row Process) (bs4 : List ℕ) → Packed ks (firsts kinds ps) → kinds < 4294967296 → i < count →
    bs1 ≡ drop 6 bs → NameAt bs1 p bs2 → RowAt is_small (decimal 0) 0 bs2 64 v bs3 width v' → place ≡ place_of p (firsts kinds ps) → place ≤ kinds →
    r' ≡ writes (process (place % 4294967296) width ∷ []) r → bs4 ≡ drop 1 bs3 →
    ThingsLeft bs i count ks xs k r r0 v v0 → ThingsLeft bs4 (i + 1) count ks xs k r' r0 v' v0
unfolding every var_rows writes
things_more bs i count ks xs k r r0 v v0 kinds ps bs1 p bs2 bs3 width v' place r' bs4 pk hk lt e1 f g ep lp er e4 left =
    go left.todo left.there left.spelled left.fit left.many left.same_processes left.same_vars
  where
    go : (todo : List Thing) → bs ≡ show_things todo ++ k → every spelled_thing todo ≡ true → every fit_thing todo ≡ true → length todo + i ≡ count →
        writes (map (process_in ks) todo) r ≡ writes (map (process_in ks) xs) r0 → writes (var_rows todo) v ≡ writes (var_rows xs) v0 → ThingsLeft bs4 (i + 1) count ks xs k r' r0 v' v0
    go [] e s t m q u = absurd (omega arith)
    go (x ∷ todo) e s t m q u =
        let sp = and_parts (spelled_thing x) (every spelled_thing todo) s in
        let sq = and_parts (is_name x.kind) (every is_number x.numbers) sp.0 in
        let tp = and_parts (fit_thing x) (every fit_thing todo) t in
        let tq = and_parts (leb (length x.numbers) 64) (every small x.numbers) tp.0 in
        let o = row_next x.numbers (show_things todo ++ k) in
        let a = e1 ∙ ap (drop 6) (e ∙ show_thing x todo k) in
        let w = f x.kind o.1 o.0 (a ∙ ap (λ y. x.kind ++ y) o.2) sq.0 o.3 in
        let z = g x.numbers (show_things todo ++ k) (w.1 ∙ sym o.2) (every_both is_number small x.numbers sq.1 tq.1) (leb-true (length x.numbers) 64 tq.0) in
        let kind_is : place % 4294967296 ≡ index_of x.kind ks = mod-eq_of_lt (omega arith) ∙ ep ∙ packed_place ks (firsts kinds ps) x.kind p pk w.0 (name_word x.kind sq.0) in
        let width_is : width ≡ length x.numbers = z.width_is ∙ length-map x.numbers (decimal 0) in
        record {
          todo = todo;
          there = e4 ∙ ap (drop 1) z.goes_on;
          spelled = sp.1;
          fit = tp.1;
          many = omega arith;
          same_processes =
              ap (writes (map (process_in ks) todo))
              (er ∙ ap (λ y. writes (process y width ∷ []) r) kind_is ∙ ap (λ y. writes (process (index_of x.kind ks) y ∷ []) r) width_is) ∙ q;
          same_vars =
              ap (writes (var_rows todo)) z.written ∙ sym (writes_on (padded 0 64 (map (decimal 0) x.numbers)) (var_rows todo) v)
              ∙ ap (λ y. writes (y ++ var_rows todo) v) (padded_row 64 (map (decimal 0) x.numbers)) ∙ u;
        }

pub things_done : (bs : List ℕ) (i count : ℕ) (ks : List (List ℕ)) (xs : List Thing) (k : List ℕ) (r r0 : Row Process) (v v0 : Row ℕ) → count ≤ i →
    ThingsLeft bs i count ks xs k r r0 v v0 → (bs ≡ k) × (r ≡ writes (map (process_in ks) xs) r0) × (v ≡ writes (var_rows xs) v0)
unfolding show_things var_rows writes
things_done bs i count ks xs k r r0 v v0 h left =
    let m = left.many in
    let z : left.todo ≡ [] = nil_from_length left.todo (omega arith) in
    (left.there ∙ ap (λ x. show_things x ++ k) z, ap (λ x. writes (map (process_in ks) x) r) (sym z) ∙ left.same_processes, ap (λ x. writes (var_rows x) v) (sym z) ∙ left.same_vars)
