-- The first word of lines, and how they go on behind it.
use Rattle.std.proofs.Common.{◌≡◌, ℕ, Bool, true, false, not, List, ◌∷◌, ◌++◌, codes, sym, refl, ap, ◌∙◌, subst, append_assoc}
use Rattle.std.proofs.lemmas.Bool.{both_ways, and_parts}
use Rattle.grammar.specs.Syntax.{all, among, reserved, is_word, is_name, Term, show_term, Lines, none, assign, draw, say, send, when, choose, again, show_lines, spelled_lines}
use Rattle.words.specs.declared.Word.{Word}
use Rattle.words.specs.declared.Word.TheVariants.{Kind, Say, Send, To, After, If, Else, End, Again, Thing, Message, Draw, It, Me, Now, Name}
use Rattle.words.specs.Words.{pack, word_of}
use Rattle.words.proofs.Packs.{named, name_named}
use Rattle.text.specs.Parts.{WordAt, closing}
use Rattle.text.proofs.FillTerms.{named_is}

pub name_word : (w : List ℕ) → is_name w ≡ true → is_word w ≡ true
name_word w h = (and_parts (is_word w) (not (among w reserved)) h).0

-- A name is read as that name.
pub name_by : (w : List ℕ) → is_name w ≡ true → word_of w ≡ Name (pack w)
name_by w h = go (word_of w) refl (sym (name_named w (name_word w h)) ∙ h)
  where
    go : (k : Word) → word_of w ≡ k → named k ≡ true → word_of w ≡ Name (pack w)
    go Kind e n = absurd (both_ways false refl n)
    go Say e n = absurd (both_ways false refl n)
    go Send e n = absurd (both_ways false refl n)
    go To e n = absurd (both_ways false refl n)
    go After e n = absurd (both_ways false refl n)
    go If e n = absurd (both_ways false refl n)
    go Else e n = absurd (both_ways false refl n)
    go End e n = absurd (both_ways false refl n)
    go Again e n = absurd (both_ways false refl n)
    go Thing e n = absurd (both_ways false refl n)
    go Message e n = absurd (both_ways false refl n)
    go Draw e n = absurd (both_ways false refl n)
    go It e n = absurd (both_ways false refl n)
    go Me e n = absurd (both_ways false refl n)
    go Now e n = absurd (both_ways false refl n)
    go (Name p) e n = e ∙ ap (λ q. Name q) (sym (named_is w p (name_word w h) e))

-- Each line with r behind it.
pub show_assign : (w : List ℕ) (t : Term) (ls : Lines) (r : List ℕ) →
    show_lines (assign w t ls) ++ r ≡ w ++ (32 ∷ 61 ∷ 32 ∷ (show_term t ++ (10 ∷ (show_lines ls ++ r))))
unfolding show_lines
show_assign w t ls r = simp append_assoc

pub show_draw : (w : List ℕ) (t : Term) (ls : Lines) (r : List ℕ) →
    show_lines (draw w t ls) ++ r ≡ w ++ (32 ∷ 61 ∷ 32 ∷ (codes "draw" ++ (32 ∷ (show_term t ++ (10 ∷ (show_lines ls ++ r))))))
unfolding show_lines
show_draw w t ls r = simp append_assoc

pub show_say : (t : Term) (ls : Lines) (r : List ℕ) → show_lines (say t ls) ++ r ≡ codes "say" ++ (32 ∷ (show_term t ++ (10 ∷ (show_lines ls ++ r))))
unfolding show_lines
show_say t ls r = simp append_assoc

pub show_send : (t u v : Term) (ls : Lines) (r : List ℕ) →
    show_lines (send t u v ls) ++ r
    ≡ codes "send" ++ (32 ∷ (show_term t ++ (codes " to " ++ (show_term u ++ (codes " after " ++ (show_term v ++ (10 ∷ (show_lines ls ++ r))))))))
unfolding show_lines
show_send t u v ls r = simp append_assoc

pub show_when : (t : Term) (b ls : Lines) (r : List ℕ) →
    show_lines (when t b ls) ++ r ≡ codes "if" ++ (32 ∷ (show_term t ++ (10 ∷ (show_lines b ++ closing false (show_lines ls ++ r)))))
unfolding show_lines
show_when t b ls r = simp append_assoc

pub show_choose : (t : Term) (b d ls : Lines) (r : List ℕ) →
    show_lines (choose t b d ls) ++ r
    ≡ codes "if" ++ (32 ∷ (show_term t ++ (10 ∷ (show_lines b ++ closing true (show_lines d ++ closing false (show_lines ls ++ r))))))
unfolding show_lines
show_choose t b d ls r = simp append_assoc

pub show_again : (t : Term) (b ls : Lines) (r : List ℕ) →
    show_lines (again t b ls) ++ r ≡ codes "again" ++ (32 ∷ (show_term t ++ (10 ∷ (show_lines b ++ closing false (show_lines ls ++ r)))))
unfolding show_lines
show_again t b ls r = simp append_assoc

-- The first word of lines that close so.
pub data First : Word → Lines → Bool → Type 0 where
  by_end : First End none false
  by_else : First Else none true
  assigns : {w : List ℕ} {t : Term} {ls : Lines} {c : Bool} → First (Name (pack w)) (assign w t ls) c
  draws : {w : List ℕ} {t : Term} {ls : Lines} {c : Bool} → First (Name (pack w)) (draw w t ls) c
  says : {t : Term} {ls : Lines} {c : Bool} → First Say (say t ls) c
  sends : {t u v : Term} {ls : Lines} {c : Bool} → First Send (send t u v ls) c
  whens : {t : Term} {b ls : Lines} {c : Bool} → First If (when t b ls) c
  chooses : {t : Term} {b d ls : Lines} {c : Bool} → First If (choose t b d ls) c
  agains : {t : Term} {b ls : Lines} {c : Bool} → First Again (again t b ls) c

module _ (bs : List ℕ) (v : Word) (bs' : List ℕ) (f : WordAt bs v bs') where
  by_word : (w k : List ℕ) (b : Word) (ls : Lines) (c : Bool) → bs ≡ w ++ 32 ∷ k → is_word w ≡ true → word_of w ≡ b → First b ls c → First v ls c
  by_word w k b ls c e h q x = subst (λ u. First u ls c) (sym ((f w k 32 e h refl).0 ∙ q)) x

  pub first_is : (ls : Lines) (c : Bool) (k : List ℕ) → bs ≡ show_lines ls ++ closing c k → spelled_lines ls ≡ true → First v ls c
  unfolding spelled_lines all pack show_lines
  first_is none true k e h = subst (λ u. First u none true) (sym (f (codes "else") k 10 e refl refl).0) by_else
  first_is none false k e h = subst (λ u. First u none false) (sym (f (codes "end") k 10 e refl refl).0) by_end
  first_is (assign w t ls) c k e h =
      let n = (and_parts (is_name w) _ h).0 in
      by_word w _ (Name (pack w)) (assign w t ls) c (e ∙ show_assign w t ls (closing c k)) (name_word w n) (name_by w n) assigns
  first_is (draw w t ls) c k e h =
      let n = (and_parts (is_name w) _ h).0 in
      by_word w _ (Name (pack w)) (draw w t ls) c (e ∙ show_draw w t ls (closing c k)) (name_word w n) (name_by w n) draws
  first_is (say t ls) c k e h = by_word (codes "say") _ Say (say t ls) c (e ∙ show_say t ls (closing c k)) refl refl says
  first_is (send t u v ls) c k e h = by_word (codes "send") _ Send (send t u v ls) c (e ∙ show_send t u v ls (closing c k)) refl refl sends
  first_is (when t b ls) c k e h = by_word (codes "if") _ If (when t b ls) c (e ∙ show_when t b ls (closing c k)) refl refl whens
  first_is (choose t b d ls) c k e h = by_word (codes "if") _ If (choose t b d ls) c (e ∙ show_choose t b d ls (closing c k)) refl refl chooses
  first_is (again t b ls) c k e h = by_word (codes "again") _ Again (again t b ls) c (e ∙ show_again t b ls (closing c k)) refl refl agains
