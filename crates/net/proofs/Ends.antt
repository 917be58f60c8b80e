-- Fair rounds come to an end.
use Rattle.std.proofs.Common.{◌≡◌, ℕ, zero, suc, ◌+◌, ◌*◌, ◌<◌, ◌≤◌, true, List, [], length, sym, refl, ap, ◌∙◌, subst, arith}
use Rattle.std.proofs.lemmas.Bool.{both_ways, le-leb}
use Rattle.meaning.specs.Model.{steps, start, iterate}
use Rattle.meaning.proofs.Ordered.{length_insert_all}
use Rattle.meaning.proofs.States.{fine_start}
use Rattle.worker.specs.Worker as one
use Rattle.worker.specs.Worker.{Worker}
use Rattle.worker.proofs.Played.{Right, plays, silent}
use Rattle.worker.proofs.Played as played
use Rattle.worker.proofs.Ends.{Roomy, ends_in}
use Rattle.net.specs.Net.{Given, Turn, meant}
use Rattle.net.specs.Promise.{job, begin, after, worker_in, ComesToEnd}
use Rattle.net.proofs.Turns.{fair, fair_first, after_many}
use Rattle.net.proofs.Told.{first}

outside_places : (g : Given) → length (meant g 0).pending ≤ g.places → length g.outside ≤ g.places
unfolding steps start
outside_places g h = omega (arith, length_insert_all g.outside [])

ready : (g : Given) → length g.outside ≤ g.places → (begin g 0).ready ≡ true
unfolding one.begin
ready g h = le-leb (length g.outside) g.places h

-- From a right worker that is ready.
ends : (n : ℕ) (w : Worker) (k : ℕ) → w.ready ≡ true → Roomy w.job k → Right w → k + length (played.meant w.job k).said < n →
    (iterate n one.work w).done ≡ true
ends n w k e r (plays c f p) l = ends_in n w c k e r p (omega arith)
ends n w k e r (silent f t d) l = absurd (both_ways w.ready f e)

fair_some : (g : Given) (n r : ℕ) (ts : List Turn) → n ≡ g.workers → 1 ≤ n →
    worker_in g 0 (fair (begin g 0) n r (after g ts)) ≡ iterate r one.work (worker_in g 0 (after g ts))
fair_some g zero r ts e l = absurd (omega arith)
fair_some g (suc n) r ts e l = fair_first (begin g 0) n r (after g ts) (begin g 0) (omega (arith, after_many g ts))

pub comes_to_end : ComesToEnd
comes_to_end g k ts f pending lines over =
    let h = first g ts f in
    let w = worker_in g 0 (after g ts) in
    let o = outside_places g (pending 0 (omega arith)) in
    let r : Roomy (job g 0) k =
    record {
      sound = fine_start g.model g.luck g.outside f.proper f.from_outside;
      few_places = f.few_places;
      some_time = f.some_time;
      bounded_time = f.bounded_time;
      few_outside = o;
      few_pending = pending;
      few_lines = lines;
      over = over;
    } in
    ap (λ z. z.done) (fair_some g g.workers (16 * (k + length (meant g k).said + 1)) ts refl f.some_workers)
    ∙ ends (16 * (k + length (meant g k).said + 1)) w k (h.1 ∙ ready g o) (subst (λ j. Roomy j k) (sym h.0) r) h.2
    (omega (arith, ap (λ j. length (played.meant j k).said) h.0))
