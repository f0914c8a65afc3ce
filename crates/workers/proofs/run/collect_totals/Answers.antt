use Rattle.std.proofs.Common.{rules, arith, ◌≡◌, ◌+◌, ◌∷◌, length}
use Rattle.std.specs.Vec.Iter.{into_iter_items, into_iter_len}
use Rattle.workers.specs.declared.worker_state.DrainedWorker.{DrainedWorker}
use Rattle.workers.proofs.Tallied.{tallied_all, tallied_step}
use Rattle.workers.proofs.run.collect_totals.Goals as goal

pub loop-worker_state-preserved : goal.loop-worker_state-preserved
loop-worker_state-preserved g c =
    let H : Type 0 = DrainedWorker g.row.J.Denot g.row.E.Denot g.row.N.Denot g.J.RunParams in
    let split : into_iter_items c.loop-worker_state.worker_state-iterator ≡ c.in-Some.worker_state ∷ into_iter_items c.next.new.self = search rules in
    let less : into_iter_len c.loop-worker_state.worker_state-iterator ≡ into_iter_len c.next.new.self + 1 = search rules in
    let totals = c.loop-worker_state.totals in
    record {
      seats = omega (arith, less, c.loop-worker_state.invariant.seats, c.in_ok-add.ensures.seats);
      own = λ w lt.
          tallied_step {H = H} (λ h. h.worker_state.worker) (λ h. h.worker_state.tally) totals.tallies c.add.new.self.tallies c.in-Some.worker_state (into_iter_items c.loop-worker_state.worker_state-iterator) (into_iter_items c.next.new.self) w _
          (omega (arith, lt, totals.sized)) split c.in_ok-add.ensures.tallies (c.loop-worker_state.invariant.own w lt);
    }

pub returns-clause-own : goal.returns-clause-own
returns-clause-own g c =
    let H : Type 0 = DrainedWorker g.row.J.Denot g.row.E.Denot g.row.N.Denot g.J.RunParams in
    let none : length (into_iter_items c.loop-worker_state.worker_state-iterator) ≡ 0 = search rules in
    λ w lt. tallied_all {H = H} (λ h. h.worker_state.worker) (λ h. h.worker_state.tally) c.loop-worker_state.totals.tallies (into_iter_items c.loop-worker_state.worker_state-iterator) w _ none (c.loop-worker_state.invariant.own w lt)
