-- What is promised of texts.
use Rattle.std.proofs.Common.{◌≡◌, ℕ, suc, List, [], ◌∷◌, ◌++◌, length, sym, ◌∙◌, subst, append-nil, arith}
use Rattle.grammar.specs.Syntax.{Text, IsText, show, spelled}
use Rattle.grammar.specs.Parse.{got, bad, parse}
use Rattle.grammar.specs.Promise.{OneTree, ReadShown, StopsFirst}
use Rattle.grammar.proofs.Reading.{Reading, by_length}
use Rattle.grammar.proofs.Leaves.{passes}
use Rattle.grammar.proofs.Full.{text_full}
use Rattle.grammar.proofs.Parts.{kinds_reads}

pub one_tree : OneTree
one_tree bs t u h k = (let p = text_full bs t h in let q = text_full bs u k in cc)

-- How bytes are read.
text_reading : (bs : List ℕ) → Reading (λ m bs. parse bs) show (passes spelled) [] 0 bs (parse bs)
unfolding parse
text_reading bs = (by_length kinds_reads {e = 0} {n = suc (length bs)}).reading bs (omega arith)

pub read_shown : ReadShown
read_shown bs t = ((λ h. go (subst (Reading (λ m bs. parse bs) show (passes spelled) [] 0 bs) h (text_reading bs))), text_full bs t)
  where
    go : Reading (λ m bs. parse bs) show (passes spelled) [] 0 bs (got t []) → IsText bs t
    go r = record { shows = sym r.outcome.shows ∙ sym (append-nil r.front) ∙ sym r.splits; well_spelled = r.outcome.fine }

pub stops_first : StopsFirst
stops_first bs rest h = go (subst (Reading (λ m bs. parse bs) show (passes spelled) [] 0 bs) h (text_reading bs))
  where
    go : Reading (λ m bs. parse bs) show (passes spelled) [] 0 bs (bad rest) →
        (front : List ℕ) × (bs ≡ front ++ rest)
        × ((more : List ℕ) × (t : Text) × IsText (front ++ more) t)
        × ((b : ℕ) (c more : List ℕ) (t : Text) → rest ≡ b ∷ c → IsText (front ++ b ∷ more) t → ⊥)
        × ((t : Text) → IsText bs t → ⊥)
    go r = (
      r.front,
      r.splits,
      (r.outcome.more, r.outcome.value, record { shows = sym r.outcome.shows; well_spelled = r.outcome.fine }),
      (λ b c more t e k.
          (let p = r.local b c more (suc (length (r.front ++ b ∷ more))) e (omega arith) in
          let q = text_full (r.front ++ b ∷ more) t k in
          let z : ◌≡◌ {A = ℕ} 0 1 = cc in omega arith)),
      (λ t k. (let q = text_full bs t k in let z : ◌≡◌ {A = ℕ} 0 1 = cc in omega arith)),
    )
