-- Packed words: they fit 64 bits, differ where words do, and come back unpacked.
use Rattle.std.proofs.Common.{◌≡◌, ℕ, zero, suc, ◌+◌, ◌*◌, ◌/◌, ◌%◌, ◌<◌, ◌≤◌, Bool, true, false, not, cond, eqb, leb, ◌⊎◌, List, [], ◌∷◌, length, codes, sym, refl, ap, ◌∙◌, ap₂, subst, inl, inr, arith}
use Rattle.std.proofs.lemmas.Nat.{div-add-mod', div-mul-add, mod-mul-add, div_below}
use Rattle.std.proofs.lemmas.Bool.{eq-eqb, ne_eqb, cases_eq, eqb-true, eqb-false, both_ways, and_parts, and_from, leb-true, or_cases, cond_both, or_from, or_left, not_from_false, cond-true, cond-false, cases_Bool}
use Rattle.grammar.specs.Syntax.{all, same, in_word, is_letter, is_digit, among, reserved, is_word, is_name, is_operand}
use Rattle.grammar.specs.Parse.{Got, got, bad, read_word, read_name, checked}
use Rattle.grammar.proofs.Leaves.{words, bytes, passes}
use Rattle.grammar.proofs.Reading.{Outcome}
use Rattle.grammar.proofs.Words.{same_is}
use Rattle.words.specs.declared.Word.{Word}
use Rattle.words.specs.declared.Word.TheVariants.{Kind, Say, Send, To, After, If, Else, End, Again, Thing, Message, Draw, It, Me, Now, Name}
use Rattle.std.specs.Int.{from_le_bytes}
use Rattle.std.proofs.Common.{w64, replicate}
use borrow.Rule.Slice.PartMut.{put_mid}
use Rattle.words.specs.Reads.{map_got}
use Rattle.words.specs.Words.{pack, unpack, unpack_upto, word_by, word_of, spelling, stands_for_number}

-- 256 to the n.
abbrev most : ℕ → ℕ
most zero = 1
most (suc n) = 256 * most n

-- The bytes of words lie between 48 and 122.
pub in_range : (b : ℕ) → in_word b ≡ true → (48 ≤ b) × (b ≤ 122)
in_range b h = go (or_cases (is_letter b) (is_digit b) h)
  where
    go : (is_letter b ≡ true) ⊎ (is_digit b ≡ true) → (48 ≤ b) × (b ≤ 122)
    go (inl l) = let p = and_parts (leb 97 b) (leb b 122) l in (omega (arith, leb-true 97 b p.0), leb-true b 122 p.1)
    go (inr l) = let p = and_parts (leb 48 b) (leb b 57) l in (leb-true 48 b p.0, omega (arith, leb-true b 57 p.1))

-- Words that are packed the same are the same.
pub pack_same : (w v : List ℕ) → all in_word w ≡ true → all in_word v ≡ true → pack w ≡ pack v → w ≡ v
unfolding pack all
pack_same [] [] h k e = refl
pack_same [] (c ∷ cs) h k e = let r = in_range c (and_parts (in_word c) _ k).0 in absurd (omega arith)
pack_same (b ∷ bs) [] h k e = let r = in_range b (and_parts (in_word b) _ h).0 in absurd (omega arith)
pack_same (b ∷ bs) (c ∷ cs) h k e =
    let p = and_parts (in_word b) (all in_word bs) h in
    let q = and_parts (in_word c) (all in_word cs) k in
    let r = in_range b p.0 in
    let t = in_range c q.0 in
    let x : pack bs ≡ pack cs = omega arith in
    let y : b ≡ c = omega arith in
    λ i. y i ∷ pack_same bs cs p.1 q.1 x i

pack_unpack : (n p : ℕ) → p < most n → pack (unpack_upto n p) ≡ p
unfolding pack unpack_upto
pack_unpack zero p h = omega arith
pack_unpack (suc n) p h = go (cases_eq p 0) (pack_unpack n (p / 256) (div_below p 256 (most n) (omega arith) (omega arith)))
  where
    go : (p ≡ 0) ⊎ (p ≡ 0 → ⊥) → pack (unpack_upto n (p / 256)) ≡ p / 256 → pack (unpack_upto (suc n) p) ≡ p
    go (inl e) r = ap pack (cond-true (eqb p 0) _ _ (eq-eqb p 0 e)) ∙ sym e
    go (inr e) r =
        let d = div-add-mod' p 256 in
        let q : p % 256 + 256 * pack (unpack_upto n (p / 256)) ≡ p = omega arith in
        ap pack (cond-false (eqb p 0) _ _ (ne_eqb p 0 e)) ∙ q

unpack_pack : (n : ℕ) (w : List ℕ) → all in_word w ≡ true → length w ≤ n → unpack_upto n (pack w) ≡ w
unfolding pack unpack_upto all
unpack_pack zero [] h l = refl
unpack_pack (suc n) [] h l = refl
unpack_pack zero (b ∷ w) h l = absurd (omega arith)
unpack_pack (suc n) (b ∷ w) h l =
    let p = and_parts (in_word b) (all in_word w) h in
    let r = in_range b p.0 in
    let s : pack (b ∷ w) ≡ pack w * 256 + b = omega arith in
    let z : pack (b ∷ w) ≡ 0 → ⊥ = λ e. omega arith in
    let m : pack (b ∷ w) % 256 ≡ b = ap (λ x. x % 256) s ∙ mod-mul-add (pack w) 256 b (omega arith) in
    let d : pack (b ∷ w) / 256 ≡ pack w = ap (λ x. x / 256) s ∙ div-mul-add (pack w) 256 b (omega arith) in
    cond-false (eqb (pack (b ∷ w)) 0) _ _ (ne_eqb (pack (b ∷ w)) 0 z)
    ∙ ap₂ (λ x y. x ∷ unpack_upto n y) m d ∙ ap (λ t. b ∷ t) (unpack_pack n w p.1 (omega arith))

-- What is read as a word is one.
pub word_good : (bs w r : List ℕ) → read_word bs ≡ got w r → is_word w ≡ true
word_good bs w r e =
    let o = (words {e = suc (length bs)} {n = 0}).reading bs (omega arith) in
    (subst (λ g. Outcome bytes (passes is_word) o.front g) e o.outcome).fine

pub word_bytes : (w : List ℕ) → is_word w ≡ true → (all in_word w ≡ true) × (length w ≤ 8)
unfolding all
word_bytes [] h = absurd (both_ways false refl h)
word_bytes (b ∷ bs) h =
    let p = and_parts (is_letter b) _ h in
    let q = and_parts (all in_word bs) (leb (length bs) 7) p.1 in
    (and_from (in_word b) (all in_word bs) (or_left (is_letter b) (is_digit b) p.0) q.0, omega (arith, leb-true (length bs) 7 q.1))

pub checked_ok : (p : List ℕ → Bool) (g : Got (List ℕ)) (w r : List ℕ) → g ≡ got w r → p w ≡ true → checked p g ≡ got w r
checked_ok p g w r e h = ap (checked p) e ∙ cond-true (p w) _ _ h

pub checked_bad : (p : List ℕ → Bool) (g : Got (List ℕ)) (w r : List ℕ) → g ≡ got w r → p w ≡ false → checked p g ≡ bad r
checked_bad p g w r e h = ap (checked p) e ∙ cond-false (p w) _ _ h

-- A word comes back from what it is packed as.
pub unpacked : (w : List ℕ) → is_word w ≡ true → unpack (pack w) ≡ w
unpacked w h = let b = word_bytes w h in unpack_pack 8 w b.0 b.1

pub packed_again : (p : ℕ) → p < 18446744073709551616 → pack (unpack p) ≡ p
packed_again p h = pack_unpack 8 p h

-- Whether it is no word of the language.
abbrev pub named : Word → Bool
named Kind = false
named Say = false
named Send = false
named To = false
named After = false
named If = false
named Else = false
named End = false
named Again = false
named Thing = false
named Message = false
named Draw = false
named It = false
named Me = false
named Now = false
named (Name p) = true

-- A packed word is the name, or as a word of the language is spelled.
abbrev Spelled : ℕ → Word → Type 0
Spelled p k = (k ≡ Name p) ⊎ ((named k ≡ false) × (p ≡ pack (spelling k)))

spelled : (p : ℕ) → Spelled p (word_by p)
unfolding pack
spelled p =
    cond_both (eqb p 1684957547) Kind _ (Spelled p) (λ e. inr (refl, eqb-true p 1684957547 e)) (λ _. cond_both (eqb p 7954803) Say _ (Spelled p) (λ e. inr (refl, eqb-true p 7954803 e)) (λ _. cond_both (eqb p 1684956531) Send _ (Spelled p) (λ e. inr (refl, eqb-true p 1684956531 e)) (λ _. cond_both (eqb p 28532) To _ (Spelled p) (λ e. inr (refl, eqb-true p 28532 e)) (λ _. cond_both (eqb p 491328398945) After _ (Spelled p) (λ e. inr (refl, eqb-true p 491328398945 e)) (λ _. cond_both (eqb p 26217) If _ (Spelled p) (λ e. inr (refl, eqb-true p 26217 e)) (λ _. cond_both (eqb p 1702063205) Else _ (Spelled p) (λ e. inr (refl, eqb-true p 1702063205 e)) (λ _. cond_both (eqb p 6581861) End _ (Spelled p) (λ e. inr (refl, eqb-true p 6581861 e)) (λ _. cond_both (eqb p 474214393697) Again _ (Spelled p) (λ e. inr (refl, eqb-true p 474214393697 e)) (λ _. cond_both (eqb p 444234033268) Thing _ (Spelled p) (λ e. inr (refl, eqb-true p 444234033268 e)) (λ _. cond_both (eqb p 28542640894207341) Message _ (Spelled p) (λ e. inr (refl, eqb-true p 28542640894207341 e)) (λ _. cond_both (eqb p 2002874980) Draw _ (Spelled p) (λ e. inr (refl, eqb-true p 2002874980 e)) (λ _. cond_both (eqb p 29801) It _ (Spelled p) (λ e. inr (refl, eqb-true p 29801 e)) (λ _. cond_both (eqb p 25965) Me _ (Spelled p) (λ e. inr (refl, eqb-true p 25965 e)) (λ _. cond_both (eqb p 7827310) Now _ (Spelled p) (λ e. inr (refl, eqb-true p 7827310 e)) (λ _. inl refl)))))))))))))))

-- What is named is none of the language's.
other_word : (b : Bool) (k rest : Word) → named k ≡ false → named (cond b k rest) ≡ true → (b ≡ false) × (named rest ≡ true)
other_word true k rest n e = absurd (both_ways (named k) n e)
other_word false k rest n e = (refl, e)

-- A packed word that is none of the language's differs from each of them.
differs : (w v : List ℕ) (c : ℕ) → all in_word w ≡ true → all in_word v ≡ true → pack v ≡ c → eqb (pack w) c ≡ false → same w v ≡ false
differs w v c h k e n = go (same w v) refl
  where
    go : (b : Bool) → same w v ≡ b → same w v ≡ false
    go true s = absurd (eqb-false (pack w) c n (ap pack (same_is w v s) ∙ e))
    go false s = s

no_word : (w : List ℕ) → all in_word w ≡ true → named (word_of w) ≡ true → among w reserved ≡ false
unfolding among pack all
no_word w h e =
    let d0 = other_word (eqb (pack w) 1684957547) Kind _ refl e in
    let d1 = other_word (eqb (pack w) 7954803) Say _ refl d0.1 in
    let d2 = other_word (eqb (pack w) 1684956531) Send _ refl d1.1 in
    let d3 = other_word (eqb (pack w) 28532) To _ refl d2.1 in
    let d4 = other_word (eqb (pack w) 491328398945) After _ refl d3.1 in
    let d5 = other_word (eqb (pack w) 26217) If _ refl d4.1 in
    let d6 = other_word (eqb (pack w) 1702063205) Else _ refl d5.1 in
    let d7 = other_word (eqb (pack w) 6581861) End _ refl d6.1 in
    let d8 = other_word (eqb (pack w) 474214393697) Again _ refl d7.1 in
    let d9 = other_word (eqb (pack w) 444234033268) Thing _ refl d8.1 in
    let d10 = other_word (eqb (pack w) 28542640894207341) Message _ refl d9.1 in
    let d11 = other_word (eqb (pack w) 2002874980) Draw _ refl d10.1 in
    let d12 = other_word (eqb (pack w) 29801) It _ refl d11.1 in
    let d13 = other_word (eqb (pack w) 25965) Me _ refl d12.1 in
    let d14 = other_word (eqb (pack w) 7827310) Now _ refl d13.1 in
    or_from (same w (codes "kind")) _ (differs w (codes "kind") 1684957547 h refl refl d0.0) (or_from (same w (codes "say")) _ (differs w (codes "say") 7954803 h refl refl d1.0) (or_from (same w (codes "send")) _ (differs w (codes "send") 1684956531 h refl refl d2.0) (or_from (same w (codes "to")) _ (differs w (codes "to") 28532 h refl refl d3.0) (or_from (same w (codes "after")) _ (differs w (codes "after") 491328398945 h refl refl d4.0) (or_from (same w (codes "if")) _ (differs w (codes "if") 26217 h refl refl d5.0) (or_from (same w (codes "else")) _ (differs w (codes "else") 1702063205 h refl refl d6.0) (or_from (same w (codes "end")) _ (differs w (codes "end") 6581861 h refl refl d7.0) (or_from (same w (codes "again")) _ (differs w (codes "again") 474214393697 h refl refl d8.0) (or_from (same w (codes "thing")) _ (differs w (codes "thing") 444234033268 h refl refl d9.0) (or_from (same w (codes "message")) _ (differs w (codes "message") 28542640894207341 h refl refl d10.0) (or_from (same w (codes "draw")) _ (differs w (codes "draw") 2002874980 h refl refl d11.0) (or_from (same w (codes "it")) _ (differs w (codes "it") 29801 h refl refl d12.0) (or_from (same w (codes "me")) _ (differs w (codes "me") 25965 h refl refl d13.0) (or_from (same w (codes "now")) _ (differs w (codes "now") 7827310 h refl refl d14.0) (refl)))))))))))))))

-- Of the language's words none is a name.
word_no_name : (k : Word) → named k ≡ false → is_name (spelling k) ≡ false
unfolding all among same
word_no_name Kind h = refl
word_no_name Say h = refl
word_no_name Send h = refl
word_no_name To h = refl
word_no_name After h = refl
word_no_name If h = refl
word_no_name Else h = refl
word_no_name End h = refl
word_no_name Again h = refl
word_no_name Thing h = refl
word_no_name Message h = refl
word_no_name Draw h = refl
word_no_name It h = refl
word_no_name Me h = refl
word_no_name Now h = refl
word_no_name (Name p) h = absurd (both_ways true h refl)

spelling_bytes : (k : Word) → named k ≡ false → all in_word (spelling k) ≡ true
unfolding all
spelling_bytes Kind h = refl
spelling_bytes Say h = refl
spelling_bytes Send h = refl
spelling_bytes To h = refl
spelling_bytes After h = refl
spelling_bytes If h = refl
spelling_bytes Else h = refl
spelling_bytes End h = refl
spelling_bytes Again h = refl
spelling_bytes Thing h = refl
spelling_bytes Message h = refl
spelling_bytes Draw h = refl
spelling_bytes It h = refl
spelling_bytes Me h = refl
spelling_bytes Now h = refl
spelling_bytes (Name p) h = absurd (both_ways true h refl)

-- A word is what the one that it is read as spells.
pub spelled_again : (w : List ℕ) → is_word w ≡ true → spelling (word_of w) ≡ w
spelled_again w h = go (word_of w) (spelled (pack w))
  where
    go : (k : Word) → Spelled (pack w) k → spelling k ≡ w
    go k (inl n) = ap spelling n ∙ unpacked w h
    go k (inr s) = sym (pack_same w (spelling k) (word_bytes w h).0 (spelling_bytes k s.0) s.1)

pub name_named : (w : List ℕ) → is_word w ≡ true → is_name w ≡ named (word_of w)
name_named w h = go (cases_Bool (named (word_of w)))
  where
    go : (named (word_of w) ≡ true) ⊎ (named (word_of w) ≡ false) → is_name w ≡ named (word_of w)
    go (inl n) = and_from (is_word w) _ h (not_from_false (among w reserved) (no_word w (word_bytes w h).0 n)) ∙ sym n
    go (inr n) = ap is_name (sym (spelled_again w h)) ∙ word_no_name (word_of w) n ∙ sym n

-- A word that was read, in bytes.
pub read_back : (bs : List ℕ) (k : Word) (r : List ℕ) → map_got word_of (read_word bs) ≡ got k r → (read_word bs ≡ got (spelling k) r) × (is_name (spelling k) ≡ named k) × (k ≡ word_of (spelling k))
read_back bs k r e = go (read_word bs) refl e
  where
    go : (g : Got (List ℕ)) → read_word bs ≡ g → map_got word_of g ≡ got k r → (read_word bs ≡ got (spelling k) r) × (is_name (spelling k) ≡ named k) × (k ≡ word_of (spelling k))
    go (bad c) f m = absurd (let z : ◌≡◌ {A = ℕ} 0 1 = cc in omega arith)
    go (got w c) f m =
        let good = word_good bs w c f in
        let h : word_of w ≡ k = cc in
        let q : c ≡ r = cc in
        let s : w ≡ spelling k = sym (spelled_again w good) ∙ ap spelling h in
        (f ∙ ap₂ got s q, ap is_name (sym s) ∙ name_named w good ∙ ap named h, sym h ∙ ap word_of s)

-- What is read as a name is that name packed.
pub named_is : (q p : ℕ) → word_by q ≡ Name p → q ≡ p
named_is q p e = go (word_by q) (spelled q) e
  where
    go : (k : Word) → Spelled q k → k ≡ Name p → q ≡ p
    go k (inl n) e = let z : Name q ≡ Name p = sym n ∙ e in cc
    go k (inr s) e = absurd (both_ways (named k) s.0 (ap named e))

pub name_read : (bs : List ℕ) (p : ℕ) (r : List ℕ) → map_got word_of (read_word bs) ≡ got (Name p) r → map_got pack (read_name bs) ≡ got p r
name_read bs p r e =
    let b = read_back bs (Name p) r e in
    ap (map_got pack) (checked_ok is_name (read_word bs) (unpack p) r b.0 b.1) ∙ ap (λ q. got q r) (named_is (pack (unpack p)) p (sym b.2))

pub no_name_read : (bs : List ℕ) (k : Word) (r : List ℕ) → map_got word_of (read_word bs) ≡ got k r → ((p : ℕ) → k ≡ Name p → ⊥) → map_got pack (read_name bs) ≡ bad r
no_name_read bs k r e h =
    let b = read_back bs k r e in
    ap (map_got pack) (checked_bad is_name (read_word bs) (spelling k) r b.0 (b.1 ∙ unnamed k h))
  where
    unnamed : (k : Word) → ((p : ℕ) → k ≡ Name p → ⊥) → named k ≡ false
    unnamed Kind h = refl
    unnamed Say h = refl
    unnamed Send h = refl
    unnamed To h = refl
    unnamed After h = refl
    unnamed If h = refl
    unnamed Else h = refl
    unnamed End h = refl
    unnamed Again h = refl
    unnamed Thing h = refl
    unnamed Message h = refl
    unnamed Draw h = refl
    unnamed It h = refl
    unnamed Me h = refl
    unnamed Now h = refl
    unnamed (Name p) h = absurd (h p refl)

-- A word that was read may stand for a number by what it was read as.
word_operand : (k : Word) → named k ≡ false → is_operand (spelling k) ≡ stands_for_number k
unfolding all among same
word_operand Kind h = refl
word_operand Say h = refl
word_operand Send h = refl
word_operand To h = refl
word_operand After h = refl
word_operand If h = refl
word_operand Else h = refl
word_operand End h = refl
word_operand Again h = refl
word_operand Thing h = refl
word_operand Message h = refl
word_operand Draw h = refl
word_operand It h = refl
word_operand Me h = refl
word_operand Now h = refl
word_operand (Name p) h = absurd (both_ways true h refl)

pub operand_read : (bs : List ℕ) (k : Word) (r : List ℕ) → map_got word_of (read_word bs) ≡ got k r → is_operand (spelling k) ≡ stands_for_number k
operand_read bs k r e = let b = read_back bs k r e in go (cases_Bool (named k)) (b.1)
  where
    a_name : (w : List ℕ) → is_name w ≡ true → is_operand w ≡ true
    a_name w h = let p = and_parts (is_word w) _ h in and_from (is_word w) _ p.0 (or_left (not (among w reserved)) _ p.1)

    numbers : (k : Word) → named k ≡ true → stands_for_number k ≡ true
    numbers Kind h = absurd (both_ways false refl h)
    numbers Say h = absurd (both_ways false refl h)
    numbers Send h = absurd (both_ways false refl h)
    numbers To h = absurd (both_ways false refl h)
    numbers After h = absurd (both_ways false refl h)
    numbers If h = absurd (both_ways false refl h)
    numbers Else h = absurd (both_ways false refl h)
    numbers End h = absurd (both_ways false refl h)
    numbers Again h = absurd (both_ways false refl h)
    numbers Thing h = absurd (both_ways false refl h)
    numbers Message h = absurd (both_ways false refl h)
    numbers Draw h = absurd (both_ways false refl h)
    numbers It h = refl
    numbers Me h = refl
    numbers Now h = refl
    numbers (Name p) h = refl

    go : (named k ≡ true) ⊎ (named k ≡ false) → is_name (spelling k) ≡ named k → is_operand (spelling k) ≡ stands_for_number k
    go (inl n) e = a_name (spelling k) (e ∙ n) ∙ sym (numbers k n)
    go (inr n) e = word_operand k n

-- The bytes of a word in the first of eight places, the lowest first.
pub bytes_packed : (w : List ℕ) → length w ≤ 8 → from_le_bytes w64 (put_mid 0 (length w) (replicate 8 0) w) ≡ pack w
unfolding pack
bytes_packed [] l = omega arith
bytes_packed (a ∷ []) l = omega arith
bytes_packed (a ∷ b ∷ []) l = omega arith
bytes_packed (a ∷ b ∷ c ∷ []) l = omega arith
bytes_packed (a ∷ b ∷ c ∷ d ∷ []) l = omega arith
bytes_packed (a ∷ b ∷ c ∷ d ∷ e ∷ []) l = omega arith
bytes_packed (a ∷ b ∷ c ∷ d ∷ e ∷ f ∷ []) l = omega arith
bytes_packed (a ∷ b ∷ c ∷ d ∷ e ∷ f ∷ g ∷ []) l = omega arith
bytes_packed (a ∷ b ∷ c ∷ d ∷ e ∷ f ∷ g ∷ h ∷ []) l = omega arith
bytes_packed (a ∷ b ∷ c ∷ d ∷ e ∷ f ∷ g ∷ h ∷ i ∷ w) l = absurd (omega arith)
