-- Putting messages in one after the other: what the loop keeps, and that it gives `insert_all`.
use Rattle.std.proofs.Common.{◌≡◌, ℕ, ◌+◌, ◌<◌, ◌≤◌, List, length, get_or, drop, sym, ap, ◌∙◌, arith}
use Rattle.std.proofs.lemmas.List.{at_drop_more, at_drop_all, drop-drop}
use Rattle.meaning.specs.declared.Message.{Message}
use Rattle.meaning.specs.Model.{insert_all}
use Rattle.queue.specs.Row.{waiting, Inserted, InsertedAll}

-- i of xs are in, and the others, put in among those that wait now, give the whole
pub record Part (xs start : List Message) (first : ℕ) (i : ℕ) (row : List Message) (len : ℕ) : Type 0 where
  pub so_far : len ≡ first + i
  pub gives : insert_all (drop i xs) (waiting row len) ≡ insert_all xs (waiting start first)
  pub behind : drop len row ≡ drop len start

module _ (xs start : List Message) (first i : ℕ) (row : List Message) (len : ℕ) where
  pub part_more :
      (d : Message) (row' : List Message) → i < length xs → Part xs start first i row len →
      Inserted (get_or xs i d) row len row' (len + 1) → Part xs start first (i + 1) row' (len + 1)
  unfolding insert_all
  part_more d row' h p one =
      record {
        so_far = omega arith;
        gives =
            ap (insert_all (drop (i + 1) xs)) one.in_place
            ∙ sym (at_drop_more (λ ys. insert_all ys (waiting row len)) xs i d h)
            ∙ p.gives;
        behind = one.behind ∙ sym (drop-drop 1 len row) ∙ ap (drop 1) p.behind ∙ drop-drop 1 len start;
      }

  pub part_all :
      i ≡ length xs → first + length xs ≤ length start → Part xs start first i row len → InsertedAll xs start first row len
  unfolding insert_all
  part_all all room p =
      record {
        room = room;
        as_many_more = omega arith;
        in_place = sym (at_drop_all (λ ys. insert_all ys (waiting row len)) xs i (omega arith)) ∙ p.gives;
        behind = p.behind;
      }
