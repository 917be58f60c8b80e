-- Kinds, one after the other.
use Rattle.std.proofs.Common.{◌≡◌, ℕ, ◌+◌, ◌*◌, ◌%◌, ◌<◌, ◌≤◌, true, false, leb, List, [], ◌∷◌, ◌++◌, map, length, take, drop, sym, refl, ap, ◌∙◌, subst, append_assoc, mod-eq_of_lt, arith, length-append}
use Rattle.std.proofs.lemmas.Bool.{and_parts, leb-true}
use Rattle.std.proofs.lemmas.List.{nil_from_length, length-map, take-take}
use Rattle.grammar.specs.Syntax.{is_name, every, Kind, show_lines, show_kinds, spelled_lines, spelled_kind}
use Rattle.grammar.specs.Check.{most_deep}
use Rattle.grammar.specs.Rules.{distinct, depth, right_lines, right_kind}
use Rattle.words.specs.Words.{pack}
use Rattle.text.specs.Slices.{row, kind_words, words, starts, name_rows}
use Rattle.text.specs.Writes.{Row, row_of, writes}
use Rattle.text.specs.Parts.{Packed, NameAt, LinesAt, closing}
use Rattle.text.specs.Tables.{padded, RowAt, show_kind, KindAt}
use Rattle.text.proofs.Rows.{writes_on, room_on, writes_read}
use Rattle.text.proofs.Lists.{padded_row, padded_length, padded_front, row_next}

pub row_length : (n : ℕ) (xs : List ℕ) → length (row n xs) ≡ n
row_length n xs = ap length (sym (padded_row n xs)) ∙ padded_length n xs

-- A kind's own names, read from where they were written.
own_names : (ws : List (List ℕ)) (start : ℕ) (xs : List ℕ) (r' : Row ℕ) (width : ℕ) → length ws ≤ 64 → start + 64 ≤ length xs → r' ≡ writes (padded 0 64 (map pack ws)) (row_of start xs) →
    width ≡ length (map pack ws) → take width (drop start r'.items) ≡ map pack ws
own_names ws start xs r' width h l e w =
    let m = length-map ws pack in
    let p = padded_length 64 (map pack ws) in
    ap (λ n. take n (drop start r'.items)) w ∙ sym (take-take (length (map pack ws)) 64 (drop start r'.items) (omega arith))
    ∙ ap (take (length (map pack ws)))
    (ap (λ r. take 64 (drop start r.items)) e ∙ ap (λ n. take n (drop start (writes (padded 0 64 (map pack ws)) (row_of start xs)).items)) (sym p)
    ∙ writes_read (padded 0 64 (map pack ws)) start xs (omega arith))
    ∙ padded_front 64 (map pack ws) (omega arith)

pub kind_by : (bs : List ℕ) (ns c : Row ℕ) (bs1 : List ℕ) (p : ℕ) (bs2 : List ℕ) (r1 : Row ℕ) (bs3 : List ℕ) (width : ℕ) (r2 : Row ℕ) (own bs4 bs5 : List ℕ) (c' : Row ℕ) (bs6 : List ℕ) →
    bs1 ≡ drop 5 bs → NameAt bs1 p bs2 → r1 ≡ writes (p ∷ []) ns → RowAt is_name pack 0 bs2 64 r1 bs3 width r2 →
    (r1.used + width ≤ length r2.items → own ≡ take width (drop r1.used r2.items)) → bs4 ≡ drop 1 bs3 → LinesAt bs4 own (length bs4) c bs5 c' → bs6 ≡ drop 4 bs5 →
    KindAt bs ns c bs6 r2 c'
unfolding padded writes
kind_by bs ns c bs1 p bs2 r1 bs3 width r2 own bs4 bs5 c' bs6 e1 f q g o e4 z e6 x k e s r m l =
    let s1 = and_parts (is_name x.name) _ s in
    let s2 = and_parts (every is_name x.numbers) _ s1.1 in
    let s3 = and_parts (leb (length x.numbers) 64) (spelled_lines x.lines) s2.1 in
    let t1 = and_parts (distinct x.numbers) _ r in
    let t2 = and_parts (right_lines x.numbers x.lines) (leb (depth x.lines) most_deep) t1.1 in
    let few = leb-true (length x.numbers) 64 s3.0 in
    let n = row_next x.numbers (show_lines x.lines ++ closing false k) in
    let a = e1 ∙ ap (drop 5) e in
    let w = f x.name n.1 n.0 (a ∙ ap (λ y. x.name ++ y) n.2) s1.0 n.3 in
    let h = g x.numbers (show_lines x.lines ++ closing false k) (w.1 ∙ sym n.2) s2.0 few in
    let o1 = room_on (p ∷ []) 64 ns r1 q (omega arith) in
    let o2 = room_on (padded 0 64 (map pack x.numbers)) 0 r1 r2 h.written (omega (arith, padded_length 64 (map pack x.numbers))) in
    let wi = h.width_is ∙ length-map x.numbers pack in
    let pl = padded_length 64 (map pack x.numbers) in
    let own_is = o (omega arith) ∙ own_names x.numbers r1.used r1.items r2 width few (omega arith) h.written h.width_is in
    let pk : Packed x.numbers own = record { packed = sym own_is; are_names = s2.0 } in
    let b = e4 ∙ ap (drop 1) h.goes_on in
    let y =
    z x.numbers x.lines false k pk b s3.1 t2.0
    (omega (arith, ap length b, length-append (show_lines x.lines) (closing false k))) m in
    record {
      goes_on = e6 ∙ ap (drop 4) y.0;
      names_are =
          h.written ∙ ap (writes (padded 0 64 (map pack x.numbers))) q ∙ ap (λ v. writes (v ∷ padded 0 64 (map pack x.numbers)) ns) w.0
          ∙ ap (λ v. writes v ns) (padded_row 65 (map pack (x.name ∷ x.numbers)));
      code_is = y.1;
    }

-- The kinds that are still to be read.
pub record KindsLeft (bs : List ℕ) (i count : ℕ) (ks : List Kind) (k : List ℕ) (c c0 s s0 ns ns0 : Row ℕ) : Type 0 where
  pub todo : List Kind
  pub there : bs ≡ show_kinds todo ++ k
  pub spelled : every spelled_kind todo ≡ true
  pub right : every right_kind todo ≡ true
  pub many : length todo + i ≡ count
  pub places : c.used + length (words todo) ≤ length c.items
  pub fits : c.used + length (words todo) < 4294967296
  pub name_places : ns.used + 65 * length todo ≤ length ns.items
  pub same_code : writes (words todo) c ≡ writes (words ks) c0
  pub same_starts : writes (starts c.used todo) s ≡ writes (starts 0 ks) s0
  pub same_names : writes (name_rows todo) ns ≡ writes (name_rows ks) ns0

kinds_from : (bs : List ℕ) (count : ℕ) (ks : List Kind) (k code kinds names : List ℕ) → bs ≡ show_kinds ks ++ k → every spelled_kind ks ≡ true → every right_kind ks ≡ true →
    length (words ks) ≤ length code → length (words ks) < 4294967296 → 65 * length ks ≤ length names → length ks ≡ count →
    KindsLeft bs 0 count ks k (row_of 0 code) (row_of 0 code) (row_of 0 kinds) (row_of 0 kinds) (row_of 0 names) (row_of 0 names)
kinds_from bs count ks k code kinds names e s r h m n l =
    record {
      todo = ks;
      there = e;
      spelled = s;
      right = r;
      many = omega arith;
      places = omega arith;
      fits = omega arith;
      name_places = omega arith;
      same_code = refl;
      same_starts = refl;
      same_names = refl;
    }

-- Where none of the places is in use.
pub kinds_begin : (bs : List ℕ) (count : ℕ) (ks : List Kind) (k : List ℕ) (c s ns : Row ℕ) → c.used ≡ 0 → s.used ≡ 0 → ns.used ≡ 0 → bs ≡ show_kinds ks ++ k → every spelled_kind ks ≡ true →
    every right_kind ks ≡ true → length (words ks) ≤ length c.items → length (words ks) < 4294967296 → 65 * length ks ≤ length ns.items → length ks ≡ count →
    KindsLeft bs 0 count ks k c (row_of 0 c.items) s (row_of 0 s.items) ns (row_of 0 ns.items)
kinds_begin bs count ks k c s ns u v w e sp r h m n l =
    subst (λ x. KindsLeft bs 0 count ks k (row_of x c.items) (row_of 0 c.items) s (row_of 0 s.items) ns (row_of 0 ns.items)) (sym u)
    (subst (λ x. KindsLeft bs 0 count ks k (row_of 0 c.items) (row_of 0 c.items) (row_of x s.items) (row_of 0 s.items) ns (row_of 0 ns.items)) (sym v)
    (subst (λ x. KindsLeft bs 0 count ks k (row_of 0 c.items) (row_of 0 c.items) (row_of 0 s.items) (row_of 0 s.items) (row_of x ns.items) (row_of 0 ns.items)) (sym w)
    (kinds_from bs count ks k c.items s.items ns.items e sp r h m n l)))

show_one : (x : Kind) (xs : List Kind) (k : List ℕ) → show_kinds (x ∷ xs) ++ k ≡ show_kind x (show_kinds xs ++ k)
unfolding show_kinds
show_one x xs k = simp append_assoc

pub kinds_more : (bs : List ℕ) (i count : ℕ) (ks : List Kind) (k : List ℕ) (c c0 s s0 ns ns0 : Row ℕ) (bs' : List ℕ) (ns' c' s' : Row ℕ) → i < count → KindAt bs ns c bs' ns' c' →
    s' ≡ writes (c.used % 4294967296 ∷ []) s → KindsLeft bs i count ks k c c0 s s0 ns ns0 → KindsLeft bs' (i + 1) count ks k c' c0 s' s0 ns' ns0
unfolding every words starts name_rows writes
kinds_more bs i count ks k c c0 s s0 ns ns0 bs' ns' c' s' lt f es left =
    go left.todo left.there left.spelled left.right left.many left.places left.fits left.name_places left.same_code left.same_starts left.same_names
  where
    go : (todo : List Kind) → bs ≡ show_kinds todo ++ k → every spelled_kind todo ≡ true → every right_kind todo ≡ true → length todo + i ≡ count →
        c.used + length (words todo) ≤ length c.items → c.used + length (words todo) < 4294967296 → ns.used + 65 * length todo ≤ length ns.items →
        writes (words todo) c ≡ writes (words ks) c0 → writes (starts c.used todo) s ≡ writes (starts 0 ks) s0 → writes (name_rows todo) ns ≡ writes (name_rows ks) ns0 →
        KindsLeft bs' (i + 1) count ks k c' c0 s' s0 ns' ns0
    go [] e sp r m pl fi np q1 q2 q3 = absurd (omega arith)
    go (x ∷ todo) e sp r m pl fi np q1 q2 q3 =
        let s1 = and_parts (spelled_kind x) (every spelled_kind todo) sp in
        let r1 = and_parts (right_kind x) (every right_kind todo) r in
        let la = length-append (kind_words x) (words todo) in
        let w = f x (show_kinds todo ++ k) (e ∙ show_one x todo k) s1.0 r1.0 (omega arith, omega arith) (omega arith) in
        let o1 = room_on (kind_words x) (length (words todo)) c c' w.code_is (omega arith) in
        let rl = row_length 65 (map pack (x.name ∷ x.numbers)) in
        let o2 = room_on (row 65 (map pack (x.name ∷ x.numbers))) (65 * length todo) ns ns' w.names_are (omega arith) in
        record {
          todo = todo;
          there = w.goes_on;
          spelled = s1.1;
          right = r1.1;
          many = omega arith;
          places = o1.1;
          fits = omega arith;
          name_places = o2.1;
          same_code = ap (writes (words todo)) w.code_is ∙ sym (writes_on (kind_words x) (words todo) c) ∙ q1;
          same_starts =
              ap (λ n. writes (starts n todo) s') o1.0
              ∙ ap (writes (starts (c.used + length (kind_words x)) todo)) (es ∙ ap (λ n. writes (n ∷ []) s) (mod-eq_of_lt (omega arith))) ∙ q2;
          same_names = ap (writes (name_rows todo)) w.names_are ∙ sym (writes_on (row 65 (map pack (x.name ∷ x.numbers))) (name_rows todo) ns) ∙ q3;
        }

pub kinds_done : (bs : List ℕ) (i count : ℕ) (ks : List Kind) (k : List ℕ) (c c0 s s0 ns ns0 : Row ℕ) → count ≤ i → KindsLeft bs i count ks k c c0 s s0 ns ns0 →
    (bs ≡ k) × (c ≡ writes (words ks) c0) × (s ≡ writes (starts 0 ks) s0) × (ns ≡ writes (name_rows ks) ns0)
unfolding show_kinds words starts name_rows writes
kinds_done bs i count ks k c c0 s s0 ns ns0 h left =
    let m = left.many in
    let z : left.todo ≡ [] = nil_from_length left.todo (omega arith) in (
      left.there ∙ ap (λ x. show_kinds x ++ k) z,
      ap (λ x. writes (words x) c) (sym z) ∙ left.same_code,
      ap (λ x. writes (starts c.used x) s) (sym z) ∙ left.same_starts,
      ap (λ x. writes (name_rows x) ns) (sym z) ∙ left.same_names,
    )
