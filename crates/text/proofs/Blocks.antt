-- The words of lines.
use Rattle.std.proofs.Common.{◌≡◌, ℕ, ◌+◌, ◌-◌, ◌%◌, ◌<◌, ◌≤◌, Bool, true, false, ◌&&◌, ◌⊎◌, List, [], ◌∷◌, ◌++◌, length, get_or, drop, set, codes, sym, refl, ap, ◌∙◌, subst, inl, inr, mod-eq_of_lt, arith, length-append, length-set}
use Rattle.std.proofs.lemmas.Bool.{and_parts}
use Rattle.body.specs.Encode.{encode_expr, encode}
use Rattle.grammar.specs.Syntax.{all, is_name, Term, show_term, spelled_term, Lines, show_lines, spelled_lines, among}
use Rattle.grammar.specs.Rules.{right_term, right_lines}
use Rattle.words.specs.declared.Word.{Word}
use Rattle.words.specs.declared.Word.TheVariants.{If, Else, End, Again}
use Rattle.words.specs.Words.{pack}
use Rattle.text.specs.Named.{index_of, expr, body}
use Rattle.text.specs.Writes.{Row, row_of, writes}
use Rattle.text.specs.Parts.{Packed, WordAt, HeadAt, SimpleAt, LinesAt, BranchAt, RepeatAt, branch_words, repeat_words, Wrote, Room, closing, between}
use Rattle.text.proofs.Rows.{writes_on, room_on, branch_rows, repeat_rows}
use Rattle.text.proofs.Firsts.{First, by_end, by_else, assigns, draws, says, sends, whens, chooses, agains, first_is, name_word, show_assign, show_draw, show_say, show_send, show_when, show_choose, show_again}

pub lines_none : (ps : List ℕ) (bs : List ℕ) (most : ℕ) (r : Row ℕ) (bs' : List ℕ) (r' : Row ℕ) → most ≡ 0 → LinesAt bs ps most r bs' r'
lines_none ps bs most r bs' r' z ns ls c k pk e s g l m = absurd (omega arith)

pub between_is : (a b n : ℕ) → b ≡ a + n → n < 4294967296 → between a b ≡ n
between_is a b n e h = ap (λ x. x % 4294967296) (omega arith) ∙ mod-eq_of_lt h

module _ (ps : List ℕ) where
  -- The lines behind words that are written.
  next : (r : Row ℕ) (bs2 : List ℕ) (r2 : Row ℕ) (most : ℕ) (bs3 : List ℕ) (r3 : Row ℕ) → LinesAt bs2 ps most r2 bs3 r3 →
      (ns : List (List ℕ)) (ls : Lines) (c : Bool) (k ws : List ℕ) → Packed ns ps → Wrote bs2 (show_lines ls ++ closing c k) ws r r2 → spelled_lines ls ≡ true →
      right_lines ns ls ≡ true → length (show_lines ls) < most → Room (ws ++ encode (body ns ls)) r → Wrote bs3 (closing c k) (ws ++ encode (body ns ls)) r r3
  next r bs2 r2 most bs3 r3 f ns ls c k ws pk q s g l m =
      let a = length-append ws (encode (body ns ls)) in
      let o = room_on ws (length (encode (body ns ls))) r r2 q.1 (omega arith) in
      let z = f ns ls c k pk q.0 s g l (o.1, omega arith) in
      (z.0, z.1 ∙ ap (writes (encode (body ns ls))) q.1 ∙ sym (writes_on ws (encode (body ns ls)) r))

  -- What closes lines.
  pub lines_close : (bs : List ℕ) (most : ℕ) (v : Word) (bs1 : List ℕ) (r r' : Row ℕ) → WordAt bs v bs1 → (v ≡ End) ⊎ (v ≡ Else) → r' ≡ writes (0 ∷ []) r → LinesAt bs ps most r bs r'
  unfolding show_lines body encode
  lines_close bs most v bs1 r r' f h q ns ls c k pk e s g l m = go (first_is bs v bs1 f ls c k e s) e h
    where
      go : {w : Word} {ls : Lines} {c : Bool} → First w ls c → bs ≡ show_lines ls ++ closing c k → (w ≡ End) ⊎ (w ≡ Else) → Wrote bs (closing c k) (encode (body ns ls)) r r'
      go by_end e h = (e, q)
      go by_else e h = (e, q)
      go (assigns {w} {t} {ls} {c}) e (inl h) = absurd (let z : ◌≡◌ {A = ℕ} 0 1 = cc in omega arith)
      go (assigns {w} {t} {ls} {c}) e (inr h) = absurd (let z : ◌≡◌ {A = ℕ} 0 1 = cc in omega arith)
      go (draws {w} {t} {ls} {c}) e (inl h) = absurd (let z : ◌≡◌ {A = ℕ} 0 1 = cc in omega arith)
      go (draws {w} {t} {ls} {c}) e (inr h) = absurd (let z : ◌≡◌ {A = ℕ} 0 1 = cc in omega arith)
      go (says {t} {ls} {c}) e (inl h) = absurd (let z : ◌≡◌ {A = ℕ} 0 1 = cc in omega arith)
      go (says {t} {ls} {c}) e (inr h) = absurd (let z : ◌≡◌ {A = ℕ} 0 1 = cc in omega arith)
      go (sends {t} {u} {v} {ls} {c}) e (inl h) = absurd (let z : ◌≡◌ {A = ℕ} 0 1 = cc in omega arith)
      go (sends {t} {u} {v} {ls} {c}) e (inr h) = absurd (let z : ◌≡◌ {A = ℕ} 0 1 = cc in omega arith)
      go (whens {t} {b} {ls} {c}) e (inl h) = absurd (let z : ◌≡◌ {A = ℕ} 0 1 = cc in omega arith)
      go (whens {t} {b} {ls} {c}) e (inr h) = absurd (let z : ◌≡◌ {A = ℕ} 0 1 = cc in omega arith)
      go (chooses {t} {b} {d} {ls} {c}) e (inl h) = absurd (let z : ◌≡◌ {A = ℕ} 0 1 = cc in omega arith)
      go (chooses {t} {b} {d} {ls} {c}) e (inr h) = absurd (let z : ◌≡◌ {A = ℕ} 0 1 = cc in omega arith)
      go (agains {t} {b} {ls} {c}) e (inl h) = absurd (let z : ◌≡◌ {A = ℕ} 0 1 = cc in omega arith)
      go (agains {t} {b} {ls} {c}) e (inr h) = absurd (let z : ◌≡◌ {A = ℕ} 0 1 = cc in omega arith)

  -- A line with no lines in it.
  pub lines_simple : (bs : List ℕ) (most : ℕ) (bs1 : List ℕ) (r : Row ℕ) (v : Word) (bs2 : List ℕ) (r2 : Row ℕ) (bs3 : List ℕ) (r3 : Row ℕ) → WordAt bs v bs1 →
      (v ≡ If → ⊥) → (v ≡ Again → ⊥) → (v ≡ End → ⊥) → (v ≡ Else → ⊥) → SimpleAt bs1 v ps r bs2 r2 → LinesAt bs2 ps (most - 1) r2 bs3 r3 → LinesAt bs ps most r bs3 r3
  unfolding spelled_lines right_lines body encode all show_lines
  lines_simple bs most bs1 r v bs2 r2 bs3 r3 f h1 h2 h3 h4 q z ns ls c k pk e s g l m = go (first_is bs v bs1 f ls c k e s) f q h1 h2 h3 h4 e s g l m
    where
      go : {v : Word} {ls : Lines} {c : Bool} → First v ls c → WordAt bs v bs1 → SimpleAt bs1 v ps r bs2 r2 → (v ≡ If → ⊥) → (v ≡ Again → ⊥) → (v ≡ End → ⊥) → (v ≡ Else → ⊥) → bs ≡ show_lines ls ++ closing c k →
          spelled_lines ls ≡ true → right_lines ns ls ≡ true → length (show_lines ls) < most → Room (encode (body ns ls)) r → Wrote bs3 (closing c k) (encode (body ns ls)) r r3
      go by_end f q h1 h2 h3 h4 e s g l m = absurd (h3 refl)
      go by_else f q h1 h2 h3 h4 e s g l m = absurd (h4 refl)
      go (whens {t} {b} {ls} {c}) f q h1 h2 h3 h4 e s g l m = absurd (h1 refl)
      go (chooses {t} {b} {d} {ls} {c}) f q h1 h2 h3 h4 e s g l m = absurd (h1 refl)
      go (agains {t} {b} {ls} {c}) f q h1 h2 h3 h4 e s g l m = absurd (h2 refl)
      go (says {t} {ls} {c}) f q h1 h2 h3 h4 e s g l m =
          let sp = and_parts (spelled_term t) (spelled_lines ls) s in
          let rt = and_parts (right_term ns t) (right_lines ns ls) g in
          let a = (f (codes "say") (show_term t ++ 10 ∷ (show_lines ls ++ closing c k)) 32 (e ∙ show_say t ls (closing c k)) refl refl).1 in
          let w = q.says refl ns t (show_lines ls ++ closing c k) pk a sp.0 rt.0 in
          next r bs2 r2 (most - 1) bs3 r3 z ns ls c k (3 ∷ encode_expr (expr ns t)) pk w sp.1 rt.1 (omega (arith, length-append (show_term t) (10 ∷ show_lines ls))) m
      go (sends {t} {u} {v} {ls} {c}) f q h1 h2 h3 h4 e s g l m =
          let sp = and_parts (spelled_term t) (spelled_term u && (spelled_term v && spelled_lines ls)) s in
          let sq = and_parts (spelled_term u) (spelled_term v && spelled_lines ls) sp.1 in
          let sr = and_parts (spelled_term v) (spelled_lines ls) sq.1 in
          let rp = and_parts (right_term ns t) (right_term ns u && (right_term ns v && right_lines ns ls)) g in
          let rq = and_parts (right_term ns u) (right_term ns v && right_lines ns ls) rp.1 in
          let rr = and_parts (right_term ns v) (right_lines ns ls) rq.1 in
          let a = (f (codes "send") (show_term t ++ (codes " to " ++ (show_term u ++ (codes " after " ++ (show_term v ++ 10 ∷ (show_lines ls ++ closing c k)))))) 32 (e ∙ show_send t u v ls (closing c k)) refl refl).1 in
          let w = q.sends refl ns t u v (show_lines ls ++ closing c k) pk a sp.0 sq.0 sr.0 rp.0 rq.0 rr.0 in
          let i = length-append (show_term t) (codes " to " ++ (show_term u ++ (codes " after " ++ (show_term v ++ 10 ∷ show_lines ls)))) in
          let j = length-append (show_term u) (codes " after " ++ (show_term v ++ 10 ∷ show_lines ls)) in
          next r bs2 r2 (most - 1) bs3 r3 z ns ls c k (4 ∷ encode_expr (expr ns v) ++ encode_expr (expr ns u) ++ encode_expr (expr ns t)) pk w sr.1 rr.1
          (omega (arith, length-append (show_term v) (10 ∷ show_lines ls))) m
      go (assigns {w = v} {t} {ls} {c}) f q h1 h2 h3 h4 e s g l m =
          let sp = and_parts (is_name v) (spelled_term t && spelled_lines ls) s in
          let sq = and_parts (spelled_term t) (spelled_lines ls) sp.1 in
          let rp = and_parts (among v ns) (right_term ns t && right_lines ns ls) g in
          let rq = and_parts (right_term ns t) (right_lines ns ls) rp.1 in
          let a = f v (61 ∷ 32 ∷ (show_term t ++ 10 ∷ (show_lines ls ++ closing c k))) 32 (e ∙ show_assign v t ls (closing c k)) (name_word v sp.0) refl in
          let w = (q.puts (pack v) refl).assigns ns v t (show_lines ls ++ closing c k) pk refl (name_word v sp.0) a.1 sq.0 rq.0 in
          let i = length-append v (32 ∷ 61 ∷ 32 ∷ (show_term t ++ 10 ∷ show_lines ls)) in
          next r bs2 r2 (most - 1) bs3 r3 z ns ls c k (1 ∷ index_of v ns ∷ encode_expr (expr ns t)) pk w sq.1 rq.1 (omega (arith, length-append (show_term t) (10 ∷ show_lines ls))) m
      go (draws {w = v} {t} {ls} {c}) f q h1 h2 h3 h4 e s g l m =
          let sp = and_parts (is_name v) (spelled_term t && spelled_lines ls) s in
          let sq = and_parts (spelled_term t) (spelled_lines ls) sp.1 in
          let rp = and_parts (among v ns) (right_term ns t && right_lines ns ls) g in
          let rq = and_parts (right_term ns t) (right_lines ns ls) rp.1 in
          let a = f v (61 ∷ 32 ∷ (codes "draw" ++ 32 ∷ (show_term t ++ 10 ∷ (show_lines ls ++ closing c k)))) 32 (e ∙ show_draw v t ls (closing c k)) (name_word v sp.0) refl in
          let w = (q.puts (pack v) refl).draws ns v t (show_lines ls ++ closing c k) pk refl (name_word v sp.0) a.1 sq.0 rq.0 in
          let i = length-append v (codes " = draw " ++ (show_term t ++ 10 ∷ show_lines ls)) in
          next r bs2 r2 (most - 1) bs3 r3 z ns ls c k (2 ∷ index_of v ns ∷ encode_expr (expr ns t)) pk w sq.1 rq.1 (omega (arith, length-append (show_term t) (10 ∷ show_lines ls))) m

  -- A repeat, and the lines behind it.
  pub repeat_by : (bs1 : List ℕ) (most : ℕ) (r r1 r2 : Row ℕ) (bs3 : List ℕ) (r3 : Row ℕ) (bs4 : List ℕ) (r4 : Row ℕ) (m' : ℕ) (r5 : Row ℕ) (bs5 : List ℕ) →
      r1 ≡ writes (6 ∷ []) r → r2 ≡ writes (0 ∷ []) r1 → HeadAt bs1 ps r2 bs3 r3 → LinesAt bs3 ps most r3 bs4 r4 →
      m' ≡ between r3.used r4.used → r5 ≡ row_of r4.used (set r4.items r1.used m') → bs5 ≡ drop 4 bs4 → RepeatAt bs1 ps most r bs5 r5
  unfolding writes
  repeat_by bs1 most r r1 r2 bs3 r3 bs4 r4 m' r5 bs5 e1 e2 hd z1 em e5 es ns t b k pk e st sb gt gb l m =
      let E = encode_expr (expr ns t) in
      let B = encode (body ns b) in
      let j' = length-append E B in
      let h = hd ns t (show_lines b ++ closing false k) pk e st gt in
      let a3 : r3 ≡ writes (6 ∷ 0 ∷ E) r = h.1 ∙ ap (writes E) (e2 ∙ ap (writes (0 ∷ [])) e1) in
      let o3 = room_on (6 ∷ 0 ∷ E) (length B) r r3 a3 (omega arith) in
      let q1 = z1 ns b false k pk h.0 sb gb l (o3.1, omega arith) in
      let o4 = room_on B 0 r3 r4 q1.1 (omega arith) in
      let w = repeat_rows E B m' r r1 r2 r3 r4 r5 e1 e2 h.1 q1.1 e5 in
      let mm : m' ≡ length B = em ∙ between_is r3.used r4.used (length B) o4.0 (omega arith) in
      (es ∙ ap (drop 4) q1.0, w ∙ ap (λ x. writes (6 ∷ x ∷ E ++ B) r) mm)

  pub lines_again : (bs : List ℕ) (most : ℕ) (v : Word) (bs1 : List ℕ) (r : Row ℕ) (bs2 : List ℕ) (r2 : Row ℕ) (bs3 : List ℕ) (r3 : Row ℕ) → WordAt bs v bs1 → v ≡ Again → RepeatAt bs1 ps (most - 1) r bs2 r2 →
      LinesAt bs2 ps (most - 1) r2 bs3 r3 → LinesAt bs ps most r bs3 r3
  unfolding spelled_lines right_lines body encode all show_lines
  lines_again bs most v bs1 r bs2 r2 bs3 r3 f ew q z ns ls c k pk e s g l m =
      go (subst (λ u. First u ls c) ew (first_is bs v bs1 f ls c k e s)) e s g l m
    where
      go : {ls : Lines} {c : Bool} → First Again ls c → bs ≡ show_lines ls ++ closing c k → spelled_lines ls ≡ true → right_lines ns ls ≡ true → length (show_lines ls) < most →
          Room (encode (body ns ls)) r → Wrote bs3 (closing c k) (encode (body ns ls)) r r3
      go (agains {t} {b} {ls} {c}) e s g l m =
          let E = encode_expr (expr ns t) in
          let B = encode (body ns b) in
          let sp = and_parts (spelled_term t) (spelled_lines b && spelled_lines ls) s in
          let sq = and_parts (spelled_lines b) (spelled_lines ls) sp.1 in
          let rp = and_parts (right_term ns t) (right_lines ns b && right_lines ns ls) g in
          let rq = and_parts (right_lines ns b) (right_lines ns ls) rp.1 in
          let i = length-append (show_term t) (10 ∷ (show_lines b ++ (codes "end" ++ (10 ∷ show_lines ls)))) in
          let j = length-append (show_lines b) (codes "end" ++ (10 ∷ show_lines ls)) in
          let i' = length-append (E ++ B) (encode (body ns ls)) in
          let a = (f (codes "again") (show_term t ++ 10 ∷ (show_lines b ++ closing false (show_lines ls ++ closing c k))) 32 (e ∙ show_again t b ls (closing c k)) refl refl).1 in
          let w = q ns t b (show_lines ls ++ closing c k) pk a sp.0 sq.0 rp.0 rq.0 (omega arith) (omega arith, omega arith) in
          next r bs2 r2 (most - 1) bs3 r3 z ns ls c k (repeat_words E B) pk w sq.1 rq.1 (omega arith) m

  module _ (bs1 : List ℕ) (most : ℕ) (r r1 r2 r3 : Row ℕ) (bs4 : List ℕ) (r4 : Row ℕ) (bs5 : List ℕ) (r5 : Row ℕ) (m' : ℕ) (r6 : Row ℕ)
      (e1 : r1 ≡ writes (5 ∷ []) r) (e2 : r2 ≡ writes (0 ∷ []) r1) (e3 : r3 ≡ writes (0 ∷ []) r2) (hd : HeadAt bs1 ps r3 bs4 r4) (z1 : LinesAt bs4 ps most r4 bs5 r5)
      (em : m' ≡ between r4.used r5.used) (e6 : r6 ≡ row_of r5.used (set r5.items r1.used m')) where
    -- The first lines of a branch with n words more in it.
    one : (ns : List (List ℕ)) (t : Term) (b : Lines) (c : Bool) (k : List ℕ) (n : ℕ) → Packed ns ps → bs1 ≡ 32 ∷ (show_term t ++ 10 ∷ (show_lines b ++ closing c k)) →
        spelled_term t ≡ true → spelled_lines b ≡ true → right_term ns t ≡ true → right_lines ns b ≡ true → length (show_lines b) < most →
        r.used + (3 + length (encode_expr (expr ns t)) + (length (encode (body ns b)) + n)) ≤ length r.items → length (encode (body ns b)) < 4294967296 →
        (bs5 ≡ closing c k) × (r4 ≡ writes (encode_expr (expr ns t)) r3) × (r5 ≡ writes (encode (body ns b)) r4) × (m' ≡ length (encode (body ns b))) × (r6.used + n ≤ length r6.items)
    unfolding writes
    one ns t b c k n pk e st sb gt gb l room small =
        let E = encode_expr (expr ns t) in
        let B = encode (body ns b) in
        let h = hd ns t (show_lines b ++ closing c k) pk e st gt in
        let a4 : r4 ≡ writes (5 ∷ 0 ∷ 0 ∷ E) r = h.1 ∙ ap (writes E) (e3 ∙ ap (writes (0 ∷ [])) (e2 ∙ ap (writes (0 ∷ [])) e1)) in
        let o4 = room_on (5 ∷ 0 ∷ 0 ∷ E) (length B + n) r r4 a4 (omega arith) in
        let q1 = z1 ns b c k pk h.0 sb gb l (omega arith, small) in
        let o5 = room_on B n r4 r5 q1.1 o4.1 in
        let l6 : length r6.items ≡ length r5.items = ap (λ x. length x.items) e6 ∙ length-set r5.items r1.used m' in
        let u6 : r6.used ≡ r5.used = ap (λ x. x.used) e6 in
        (q1.0, h.1, q1.1, em ∙ between_is r4.used r5.used (length B) o5.0 small, omega arith)

    -- The words of a branch whose other lines have the words C.
    rows : (E B C : List ℕ) (n' : ℕ) (r7 r8 : Row ℕ) → r4 ≡ writes E r3 → r5 ≡ writes B r4 → m' ≡ length B → r7 ≡ writes C r6 → n' ≡ length C →
        r8 ≡ row_of r7.used (set r7.items r2.used n') → r8 ≡ writes (branch_words E B C) r
    rows E B C n' r7 r8 e4 e5 mm e7 nn e8 =
        branch_rows E B C m' n' r r1 r2 r3 r4 r5 r6 r7 r8 e1 e2 e3 e4 e5 e6 e7 e8
        ∙ ap (λ x. writes (5 ∷ x ∷ n' ∷ E ++ B ++ C) r) mm ∙ ap (λ x. writes (5 ∷ length B ∷ x ∷ E ++ B ++ C) r) nn

    -- A branch with an else, by the second byte of what closes its first lines.
    pub branch_else : get_or bs5 1 0 ≡ 108 → (bs7 bs8 : List ℕ) (r7 : Row ℕ) (n' : ℕ) (r8 : Row ℕ) (bs9 : List ℕ) → bs7 ≡ drop 5 bs5 →
        LinesAt bs7 ps most r6 bs8 r7 → n' ≡ between r5.used r7.used → r8 ≡ row_of r7.used (set r7.items r2.used n') → bs9 ≡ drop 4 bs8 →
        BranchAt bs1 ps most r bs9 r8
    branch_else hl bs7 bs8 r7 n' r8 bs9 e7 z2 en e8 e9 =
        record {
          whens =
              λ ns t b k pk e st sb gt gb l room.
              (let E = encode_expr (expr ns t) in
              let B = encode (body ns b) in
              let i = length-append (E ++ B) (0 ∷ []) in
              let j = length-append E B in
              let q = one ns t b false k 1 pk e st sb gt gb l (omega arith) (omega arith) in
              let w : get_or bs5 1 0 ≡ 110 = ap (λ x. get_or x 1 0) q.0 in
              absurd (omega arith));
          chooses =
              λ ns t b d k pk e st sb sd gt gb gd l l' room.
              (let E = encode_expr (expr ns t) in
              let B = encode (body ns b) in
              let C = encode (body ns d) in
              let i = length-append (E ++ B) C in
              let j = length-append E B in
              let q = one ns t b true (show_lines d ++ closing false k) (length C) pk e st sb gt gb l (omega arith) (omega arith) in
              let q2 = z2 ns d false k pk (e7 ∙ ap (drop 5) q.0) sd gd l' (q.4, omega arith) in
              let o7 = room_on C 0 r6 r7 q2.1 (let x = q.4 in omega arith) in
              let u6 : r6.used ≡ r5.used = ap (λ x. x.used) e6 in
              (e9 ∙ ap (drop 4) q2.0, rows E B C n' r7 r8 q.1 q.2 q.3 q2.1 (en ∙ between_is r5.used r7.used (length C) (omega arith) (omega arith)) e8));
        }

    -- A branch with none.
    pub branch_none : (get_or bs5 1 0 ≡ 108 → ⊥) → (r7 r8 : Row ℕ) (bs9 : List ℕ) → r7 ≡ writes (0 ∷ []) r6 →
        r8 ≡ row_of r7.used (set r7.items r2.used 1) → bs9 ≡ drop 4 bs5 → BranchAt bs1 ps most r bs9 r8
    branch_none hl r7 r8 bs9 e7 e8 e9 =
        record {
          whens =
              λ ns t b k pk e st sb gt gb l room.
              (let E = encode_expr (expr ns t) in
              let B = encode (body ns b) in
              let i = length-append (E ++ B) (0 ∷ []) in
              let j = length-append E B in
              let q = one ns t b false k 1 pk e st sb gt gb l (omega arith) (omega arith) in
              (e9 ∙ ap (drop 4) q.0, rows E B (0 ∷ []) 1 r7 r8 q.1 q.2 q.3 e7 refl e8));
          chooses =
              λ ns t b d k pk e st sb sd gt gb gd l l' room.
              (let E = encode_expr (expr ns t) in
              let B = encode (body ns b) in
              let C = encode (body ns d) in
              let i = length-append (E ++ B) C in
              let j = length-append E B in
              let q = one ns t b true (show_lines d ++ closing false k) (length C) pk e st sb gt gb l (omega arith) (omega arith) in
              absurd (hl (ap (λ x. get_or x 1 0) q.0)));
        }

  -- A branch, and the lines behind it.
  pub lines_branch : (bs : List ℕ) (most : ℕ) (v : Word) (bs1 : List ℕ) (r : Row ℕ) (bs2 : List ℕ) (r2 : Row ℕ) (bs3 : List ℕ) (r3 : Row ℕ) → WordAt bs v bs1 → v ≡ If → BranchAt bs1 ps (most - 1) r bs2 r2 →
      LinesAt bs2 ps (most - 1) r2 bs3 r3 → LinesAt bs ps most r bs3 r3
  unfolding spelled_lines right_lines body encode all show_lines
  lines_branch bs most v bs1 r bs2 r2 bs3 r3 f ew q z ns ls c k pk e s g l m =
      go (subst (λ u. First u ls c) ew (first_is bs v bs1 f ls c k e s)) e s g l m
    where
      go : {ls : Lines} {c : Bool} → First If ls c → bs ≡ show_lines ls ++ closing c k → spelled_lines ls ≡ true → right_lines ns ls ≡ true → length (show_lines ls) < most →
          Room (encode (body ns ls)) r → Wrote bs3 (closing c k) (encode (body ns ls)) r r3
      go (whens {t} {b} {ls} {c}) e s g l m =
          let E = encode_expr (expr ns t) in
          let B = encode (body ns b) in
          let sp = and_parts (spelled_term t) (spelled_lines b && spelled_lines ls) s in
          let sq = and_parts (spelled_lines b) (spelled_lines ls) sp.1 in
          let rp = and_parts (right_term ns t) (right_lines ns b && right_lines ns ls) g in
          let rq = and_parts (right_lines ns b) (right_lines ns ls) rp.1 in
          let i = length-append (show_term t) (10 ∷ (show_lines b ++ (codes "end" ++ (10 ∷ show_lines ls)))) in
          let j = length-append (show_lines b) (codes "end" ++ (10 ∷ show_lines ls)) in
          let i' = length-append (E ++ B ++ 0 ∷ []) (encode (body ns ls)) in
          let a = (f (codes "if") (show_term t ++ 10 ∷ (show_lines b ++ closing false (show_lines ls ++ closing c k))) 32 (e ∙ show_when t b ls (closing c k)) refl refl).1 in
          let w = q.whens ns t b (show_lines ls ++ closing c k) pk a sp.0 sq.0 rp.0 rq.0 (omega arith) (omega arith, omega arith) in
          next r bs2 r2 (most - 1) bs3 r3 z ns ls c k (branch_words E B (0 ∷ [])) pk w sq.1 rq.1 (omega arith) m
      go (chooses {t} {b} {d} {ls} {c}) e s g l m =
          let E = encode_expr (expr ns t) in
          let B = encode (body ns b) in
          let C = encode (body ns d) in
          let sp = and_parts (spelled_term t) (spelled_lines b && (spelled_lines d && spelled_lines ls)) s in
          let sq = and_parts (spelled_lines b) (spelled_lines d && spelled_lines ls) sp.1 in
          let sr = and_parts (spelled_lines d) (spelled_lines ls) sq.1 in
          let rp = and_parts (right_term ns t) (right_lines ns b && (right_lines ns d && right_lines ns ls)) g in
          let rq = and_parts (right_lines ns b) (right_lines ns d && right_lines ns ls) rp.1 in
          let rr = and_parts (right_lines ns d) (right_lines ns ls) rq.1 in
          let i = length-append (show_term t) (10 ∷ (show_lines b ++ (codes "else" ++ (10 ∷ (show_lines d ++ (codes "end" ++ (10 ∷ show_lines ls))))))) in
          let j = length-append (show_lines b) (codes "else" ++ (10 ∷ (show_lines d ++ (codes "end" ++ (10 ∷ show_lines ls))))) in
          let jj = length-append (show_lines d) (codes "end" ++ (10 ∷ show_lines ls)) in
          let i' = length-append (E ++ B ++ C) (encode (body ns ls)) in
          let a =
          (f (codes "if") (show_term t ++ 10 ∷ (show_lines b ++ closing true (show_lines d ++ closing false (show_lines ls ++ closing c k)))) 32 (e ∙ show_choose t b d ls (closing c k)) refl refl).1 in
          let w =
          q.chooses ns t b d (show_lines ls ++ closing c k) pk a sp.0 sq.0 sr.0 rp.0 rq.0 rr.0 (omega arith) (omega arith) (omega arith, omega arith) in
          next r bs2 r2 (most - 1) bs3 r3 z ns ls c k (branch_words E B C) pk w sr.1 rr.1 (omega arith) m
