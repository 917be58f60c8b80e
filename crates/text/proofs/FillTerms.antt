-- The words of expressions.
use Rattle.std.proofs.Common.{◌≡◌, ℕ, suc, ◌+◌, ◌-◌, ◌<◌, ◌≤◌, Bool, true, false, cond, not, eqb, List, [], ◌∷◌, ◌++◌, map, length, get_or, drop, set, codes, sym, refl, ap, ◌∙◌, subst, append_assoc, arith, length-append}
use Rattle.std.proofs.lemmas.Bool.{both_ways, and_parts, and_from, cond-false, eq-eqb, ne_eqb}
use Rattle.meaning.specs.Model.{Expr, var, it, me, clock}
use Rattle.body.specs.Encode.{encode_expr}
use Rattle.grammar.specs.Syntax as text
use Rattle.grammar.specs.Syntax.{all, among, reserved, is_letter, is_digit, in_word, is_word, is_name, is_operand, is_number, every, Sign, plus, minus, times, over, remains, less, equal, sign_byte, Term, number, word, two, show_term, spelled_term}
use Rattle.grammar.specs.Parse.{got}
use Rattle.grammar.specs.Rules.{right_term}
use Rattle.grammar.proofs.Words.{same_is, same_self, digit_no_letter, word_full, name_full}
use Rattle.words.specs.declared.Word.{Word}
use Rattle.words.specs.declared.Word.TheVariants.{Kind, Say, Send, To, After, If, Else, End, Again, Thing, Message, Draw, It, Me, Now, Name}
use Rattle.words.specs.Words.{pack, word_of, spelling, stands_for_number}
use Rattle.words.specs.Reads.{map_got}
use Rattle.words.proofs.Packs.{pack_same, word_bytes, named, spelled_again, name_named, name_read, operand_read}
use Rattle.text.specs.Named.{index_of, operation, expr}
use Rattle.text.specs.Writes.{Row, row_of, writes}
use Rattle.text.specs.Parts.{place_of, Packed, WordAt, NumberAt, TermAt, PlainAt, OperandAt, sign_word}
use Rattle.text.proofs.Rows.{writes_on, patched}

-- The first byte.
pub first_byte : (k bs : List ℕ) (x : ℕ) → bs ≡ x ∷ k → get_or bs 0 0 ≡ x
first_byte k bs x e = ap (λ l. get_or l 0 0) e

show_two : (s : Sign) (t u : Term) (k : List ℕ) →
    show_term (two s t u) ++ k ≡ 40 ∷ (show_term t ++ (32 ∷ sign_byte s ∷ 32 ∷ (show_term u ++ (41 ∷ k))))
unfolding show_term
show_two s t u k = simp append_assoc

pub two_length : (s : Sign) (t u : Term) → length (show_term (two s t u)) ≡ length (show_term t) + length (show_term u) + 5
unfolding show_term
two_length s t u =
    let i = length-append (show_term t) (32 ∷ sign_byte s ∷ 32 ∷ (show_term u ++ (41 ∷ []))) in
    let j = length-append (show_term u) (41 ∷ []) in omega arith

-- How an expression begins: with a digit, a letter or a parenthesis.
pub data Begins : Term → ℕ → Type 0 where
  digit : {x : ℕ} (ds : List ℕ) → is_digit x ≡ true → Begins (number (x ∷ ds)) x
  letter : {x : ℕ} (w : List ℕ) → is_letter x ≡ true → Begins (word (x ∷ w)) x
  paren : (s : Sign) (t u : Term) → Begins (two s t u) 40

begins : (t : Term) → spelled_term t ≡ true → (x : ℕ) × (k : List ℕ) × (show_term t ≡ x ∷ k) × Begins t x
unfolding spelled_term show_term
begins (number []) h = absurd (both_ways true (sym h) refl)
begins (number (x ∷ ds)) h = (x, ds, refl, digit ds (and_parts (is_digit x) _ h).0)
begins (word []) h = absurd (both_ways true (sym h) refl)
begins (word (x ∷ w)) h = (x, w, refl, letter w (and_parts (is_letter x) _ (and_parts (is_word (x ∷ w)) _ h).0).0)
begins (two s t u) h = (40, _, refl, paren s t u)

-- By the byte at the place.
pub begins_so : (k : List ℕ) (bs : List ℕ) (b : ℕ) (t : Term) → bs ≡ show_term t ++ b ∷ k → spelled_term t ≡ true → Begins t (get_or bs 0 0)
begins_so k bs b t e h =
    let g = begins t h in
    subst (Begins t) (sym (first_byte (g.1 ++ b ∷ k) bs g.0 (e ∙ ap (λ z. z ++ b ∷ k) g.2))) g.3

pub term_some : (t : Term) → spelled_term t ≡ true → 0 < length (show_term t)
term_some t h = let g = begins t h in let z = ap length g.2 in omega arith

-- The sign's word opens the operation.
pub encode_two : (s : Sign) (e f : Expr) → encode_expr (operation s e f) ≡ sign_word (sign_byte s) ∷ encode_expr e ++ encode_expr f
unfolding encode_expr
encode_two plus e f = refl
encode_two minus e f = refl
encode_two times e f = refl
encode_two over e f = refl
encode_two remains e f = refl
encode_two less e f = refl
encode_two equal e f = refl

-- A name's place among names is that of the packed name.
name_word : (w : List ℕ) → is_name w ≡ true → is_word w ≡ true
name_word w h = (and_parts (is_word w) (not (among w reserved)) h).0

same_packed : (w v : List ℕ) → is_word w ≡ true → is_word v ≡ true → eqb (pack w) (pack v) ≡ text.same w v
same_packed w v h g = go (text.same w v) refl
  where
    go : (b : Bool) → text.same w v ≡ b → eqb (pack w) (pack v) ≡ text.same w v
    go true s = eq-eqb (pack w) (pack v) (ap pack (same_is w v s)) ∙ sym s
    go false s =
        ne_eqb (pack w) (pack v)
        (λ e. both_ways (text.same w v) s (ap (text.same w) (sym (pack_same w v (word_bytes w h).0 (word_bytes v g).0 e)) ∙ same_self w)) ∙ sym s

pub place_index : (w : List ℕ) (ns : List (List ℕ)) → is_word w ≡ true → every is_name ns ≡ true → place_of (pack w) (map pack ns) ≡ index_of w ns
unfolding place_of index_of every
place_index w [] h g = refl
place_index w (v ∷ vs) h g =
    let p = and_parts (is_name v) (every is_name vs) g in
    ap (λ b. cond b 0 (suc (place_of (pack w) (map pack vs)))) (same_packed w v h (name_word v p.0))
    ∙ ap (λ n. cond (text.same w v) 0 (suc n)) (place_index w vs h p.1)

pub packed_place : (ns : List (List ℕ)) (ps w : List ℕ) (p : ℕ) → Packed ns ps → p ≡ pack w → is_word w ≡ true → place_of p ps ≡ index_of w ns
packed_place ns ps w p k e h = ap (λ x. place_of x ps) e ∙ ap (place_of (pack w)) (sym k.packed) ∙ place_index w ns h k.are_names

-- A word of the language by what it is read as.
pub so : (w : List ℕ) (k : Word) → is_word w ≡ true → k ≡ word_of w → w ≡ spelling k
so w k h e = sym (spelled_again w h) ∙ ap spelling (sym e)

-- And a word that isn't that one.
pub not_so : (w v : List ℕ) (k : Word) → word_of v ≡ k → (k ≡ word_of w → ⊥) → text.same w v ≡ false
not_so w v k e h = go (text.same w v) refl
  where
    go : (b : Bool) → text.same w v ≡ b → text.same w v ≡ false
    go true s = absurd (h (sym e ∙ ap word_of (sym (same_is w v s))))
    go false s = s

operand_word : (w : List ℕ) → is_operand w ≡ true → is_word w ≡ true
operand_word w h = (and_parts (is_word w) _ h).0

-- What is read as a name is that name packed.
pub named_is : (w : List ℕ) (p : ℕ) → is_word w ≡ true → word_of w ≡ Name p → pack w ≡ p
named_is w p h e =
    let n : is_name w ≡ true = name_named w h ∙ ap named e in
    let r = name_read (w ++ 32 ∷ []) p (32 ∷ []) (ap (map_got word_of) (word_full w (32 ∷ []) h refl) ∙ ap (λ v. got v (32 ∷ [])) e) in
    let g : got (pack w) (32 ∷ []) ≡ got p (32 ∷ []) = sym (ap (map_got pack) (name_full w (32 ∷ []) n refl)) ∙ r in
    cc

it_no_name : {p : ℕ} → It ≡ Name p → ⊥
it_no_name e = let z : ◌≡◌ {A = ℕ} 0 1 = cc in omega arith

me_no_name : {p : ℕ} → Me ≡ Name p → ⊥
me_no_name e = let z : ◌≡◌ {A = ℕ} 0 1 = cc in omega arith

now_no_name : {p : ℕ} → Now ≡ Name p → ⊥
now_no_name e = let z : ◌≡◌ {A = ℕ} 0 1 = cc in omega arith

module _ (ps : List ℕ) (v : Word) (r r' : Row ℕ) where
  pub operand_it : v ≡ It → r' ≡ writes (2 ∷ []) r → OperandAt ps v r r'
  unfolding expr text.same encode_expr
  operand_it e q ns w k n h = q ∙ ap (λ x. writes (encode_expr (expr ns (word x))) r) (sym (so w It (operand_word w h) (sym e ∙ n)))

  pub operand_me : v ≡ Me → r' ≡ writes (3 ∷ []) r → OperandAt ps v r r'
  unfolding expr text.same encode_expr
  operand_me e q ns w k n h = q ∙ ap (λ x. writes (encode_expr (expr ns (word x))) r) (sym (so w Me (operand_word w h) (sym e ∙ n)))

  pub operand_now : v ≡ Now → r' ≡ writes (4 ∷ []) r → OperandAt ps v r r'
  unfolding expr text.same encode_expr
  operand_now e q ns w k n h = q ∙ ap (λ x. writes (encode_expr (expr ns (word x))) r) (sym (so w Now (operand_word w h) (sym e ∙ n)))

  pub operand_name : (p k : ℕ) → v ≡ Name p → k ≡ place_of p ps → r' ≡ writes (1 ∷ k ∷ []) r → OperandAt ps v r r'
  unfolding expr encode_expr pack
  operand_name p k i e q ns w pk n h =
      let o : word_of w ≡ Name p = sym n ∙ i in
      let a = cond-false (text.same w (codes "it")) it _ (not_so w (codes "it") It refl (λ z. it_no_name (z ∙ o))) in
      let b = cond-false (text.same w (codes "me")) me _ (not_so w (codes "me") Me refl (λ z. me_no_name (z ∙ o))) in
      let d = cond-false (text.same w (codes "now")) clock (var (index_of w ns)) (not_so w (codes "now") Now refl (λ z. now_no_name (z ∙ o))) in
      q ∙ ap (λ z. writes (1 ∷ z ∷ []) r) (e ∙ packed_place ns ps w p pk (sym (named_is w p (operand_word w h) o)) (operand_word w h)) ∙ ap (λ z. writes (encode_expr z) r) (sym (a ∙ b ∙ d))

  -- No other word stands for a number.
  pub operand_none : stands_for_number v ≡ false → OperandAt ps v r r'
  operand_none z ns w k n h =
      absurd (both_ways (is_operand w)
      (ap is_operand (sym (spelled_again w (operand_word w h))) ∙ operand_read (w ++ 32 ∷ []) (word_of w) (32 ∷ []) (ap (map_got word_of) (word_full w (32 ∷ []) (operand_word w h) refl))
      ∙ ap stands_for_number (sym n) ∙ z) h)

-- What is neither a name nor one of three words stands for no number.
pub no_number : (v : Word) → (v ≡ It → ⊥) → (v ≡ Me → ⊥) → (v ≡ Now → ⊥) → ((p : ℕ) → v ≡ Name p → ⊥) → stands_for_number v ≡ false
no_number Kind a b c d = refl
no_number Say a b c d = refl
no_number Send a b c d = refl
no_number To a b c d = refl
no_number After a b c d = refl
no_number If a b c d = refl
no_number Else a b c d = refl
no_number End a b c d = refl
no_number Again a b c d = refl
no_number Thing a b c d = refl
no_number Message a b c d = refl
no_number Draw a b c d = refl
no_number It a b c d = absurd (a refl)
no_number Me a b c d = absurd (b refl)
no_number Now a b c d = absurd (c refl)
no_number (Name p) a b c d = absurd (d p refl)

-- None is so deep.
pub term_none : (ps : List ℕ) (bs : List ℕ) (depth : ℕ) (bs' : List ℕ) (r r' : Row ℕ) → depth ≡ 0 → TermAt bs ps depth r bs' r'
term_none ps bs depth bs' r r' z ns t k b pk e s g n l = let q = term_some t s in absurd (omega arith)

module _ (ps : List ℕ) (bs bs' : List ℕ) (r r' : Row ℕ) where
  pub plain_digits : (m : ℕ) → is_digit (get_or bs 0 0) ≡ true → NumberAt bs m bs' → r' ≡ writes (0 ∷ m ∷ []) r → PlainAt bs ps r bs' r'
  unfolding spelled_term show_term right_term expr encode_expr
  plain_digits m d f q o ns t k b pk e s g n = go t e s g (begins_so k bs b t e s)
    where
      go : (t : Term) → bs ≡ show_term t ++ b ∷ k → spelled_term t ≡ true → right_term ns t ≡ true → Begins t (get_or bs 0 0) →
          (bs' ≡ b ∷ k) × (r' ≡ writes (encode_expr (expr ns t)) r)
      go (number ds) e s g z = let w = f ds k b e (and_from (is_number ds) _ s g) n in (w.1, q ∙ ap (λ x. writes (0 ∷ x ∷ []) r) w.0)
      go (word w) e s g (letter v z) = absurd (both_ways (is_letter (get_or bs 0 0)) (digit_no_letter (get_or bs 0 0) d) z)
      go (two s t u) e h g z = absurd (opens z d)
        where
          opens : {x : ℕ} → Begins (two s t u) x → is_digit x ≡ true → ⊥
          opens (paren s t u) d = both_ways false refl d

  pub plain_word : (v : Word) → is_digit (get_or bs 0 0) ≡ false → WordAt bs v bs' → OperandAt ps v r r' → PlainAt bs ps r bs' r'
  unfolding spelled_term show_term
  plain_word v d f q o ns t k b pk e s g n = go t e s (begins_so k bs b t e s)
    where
      go : (t : Term) → bs ≡ show_term t ++ b ∷ k → spelled_term t ≡ true → Begins t (get_or bs 0 0) →
          (bs' ≡ b ∷ k) × (r' ≡ writes (encode_expr (expr ns t)) r)
      go (number ds) e s (digit v z) = absurd (both_ways (is_digit (get_or bs 0 0)) d z)
      go (word w) e s z = let h = (and_parts (is_word w) _ s).0 in let u = f w k b e h n in (u.1, q ns w pk u.0 s)
      go (two s t u) e h z = absurd (opens z o)
        where
          opens : {x : ℕ} → Begins (two s t u) x → (x ≡ 40 → ⊥) → ⊥
          opens (paren s t u) d = d refl

  pub term_plain : (depth : ℕ) → (get_or bs 0 0 ≡ 40 → ⊥) → PlainAt bs ps r bs' r' → TermAt bs ps depth r bs' r'
  term_plain depth o f ns t k b pk e s g n l = f o ns t k b pk e s g n

-- Two expressions with a sign between.
pub term_two : (ps bs : List ℕ) (depth : ℕ) (r : Row ℕ) (bs1 : List ℕ) (r1 : Row ℕ) (bs2 : List ℕ) (r2 : Row ℕ) (bs3 : List ℕ) (w : ℕ) (r3 : Row ℕ) (bs4 bs5 : List ℕ) (r5 : Row ℕ) (bs6 : List ℕ) →
    get_or bs 0 0 ≡ 40 →
    bs1 ≡ drop 1 bs →
    r1 ≡ writes (0 ∷ []) r →
    TermAt bs1 ps (depth - 1) r1 bs2 r2 →
    bs3 ≡ drop 1 bs2 →
    w ≡ sign_word (get_or bs3 0 0) →
    r3 ≡ row_of r2.used (set r2.items r.used w) →
    bs4 ≡ drop 2 bs3 →
    TermAt bs4 ps (depth - 1) r3 bs5 r5 →
    bs6 ≡ drop 1 bs5 →
    TermAt bs ps depth r bs6 r5
unfolding spelled_term right_term expr writes
term_two ps bs depth r bs1 r1 bs2 r2 bs3 w r3 bs4 bs5 r5 bs6 o e1 p1 t1 e3 ew p3 e4 t2 e6 ns t k b pk e s g n l = go t e s g l (begins_so k bs b t e s)
  where
    go : (t : Term) → bs ≡ show_term t ++ b ∷ k → spelled_term t ≡ true → right_term ns t ≡ true → length (show_term t) ≤ depth → Begins t (get_or bs 0 0) →
        (bs6 ≡ b ∷ k) × (r5 ≡ writes (encode_expr (expr ns t)) r)
    go (number ds) e s g l (digit v z) = absurd (both_ways (is_digit (get_or bs 0 0)) (ap is_digit o) z)
    go (word v) e s g l (letter u z) = absurd (both_ways (is_letter (get_or bs 0 0)) (ap is_letter o) z)
    go (two s t u) e h g l z =
        let sp = and_parts (spelled_term t) (spelled_term u) h in
        let rt = and_parts (right_term ns t) (right_term ns u) g in
        let len = two_length s t u in
        let a0 = e ∙ show_two s t u (b ∷ k) in
        let a1 = e1 ∙ ap (drop 1) a0 in
        let q1 = t1 ns t (sign_byte s ∷ 32 ∷ (show_term u ++ (41 ∷ b ∷ k))) 32 pk a1 sp.0 rt.0 refl (omega arith) in
        let a3 = e3 ∙ ap (drop 1) q1.0 in
        let a4 = e4 ∙ ap (drop 2) a3 in
        let q2 = t2 ns u (b ∷ k) 41 pk a4 sp.1 rt.1 refl (omega arith) in
        let ws = ew ∙ ap sign_word (first_byte (32 ∷ (show_term u ++ (41 ∷ b ∷ k))) bs3 (sign_byte s) a3) in
        let f1 = q1.1 ∙ ap (writes (encode_expr (expr ns t))) p1 in
        let f2 = p3 ∙ patched 0 w (encode_expr (expr ns t)) r.used r2.used r.items r2.items f1 in (
          e6 ∙ ap (drop 1) q2.0,
          q2.1 ∙ ap (writes (encode_expr (expr ns u))) f2 ∙ sym (writes_on (w ∷ encode_expr (expr ns t)) (encode_expr (expr ns u)) r)
              ∙ ap (λ x. writes (x ∷ encode_expr (expr ns t) ++ encode_expr (expr ns u)) r) ws
              ∙ ap (λ x. writes x r) (sym (encode_two s (expr ns t) (expr ns u))),
        )
