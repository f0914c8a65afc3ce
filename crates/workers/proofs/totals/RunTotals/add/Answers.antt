use Rattle.std.proofs.Common.{rules, arith, ◌≡◌, ◌<◌, ◌∙◌, ◌+◌, ◌++◌, ◌∷◌, [], ap, length, length-set, map, slice_index, List, ℕ}
use Rattle.pool.specs.declared.pool.PoolSeat.{PoolSeat}
use Rattle.pool.specs.declared.protocol.SeatView.{SeatView}
use Rattle.pool.specs.Seats.{view, seat_pool}
use Rattle.pool.specs.Views.{total}
use Rattle.pool.proofs.Gathered.{total_popped}
use Rattle.workers.proofs.Added.{sum_more, all_more}
use Rattle.workers.proofs.Tallied.{sum_set, theirs}
use Rattle.workers.proofs.totals.RunTotals.add.Goals as goal

pub invariant_of-self-2-clause-offers : goal.invariant_of-self-2-clause-offers
invariant_of-self-2-clause-offers g c =
    let old = c.args.self.now.seats.items in
    let s = c.args.ended.worker_state.offers.seat in
    let items : c.push_reserved.new.self.items ≡ old ++ s ∷ [] = search rules in
    let f : SeatView → ℕ = λ v. length v.offered in
    let e = ap (λ (l : List PoolSeat). total f (map view l)) items ∙ total_popped f old s in
    omega (arith, e, c.args.self.now.offers, c.args.ended.worker_state.offers.offers)

pub invariant_of-self-2-clause-takes : goal.invariant_of-self-2-clause-takes
invariant_of-self-2-clause-takes g c =
    let old = c.args.self.now.seats.items in
    let s = c.args.ended.worker_state.offers.seat in
    let items : c.push_reserved.new.self.items ≡ old ++ s ∷ [] = search rules in
    let draws : c.push_reserved-2.new.self.items ≡ c.args.self.now.draws.items ++ c.args.ended.worker_state.offers.drawn ∷ [] = search rules in
    let f : SeatView → ℕ = λ v. length v.taken in
    let e = ap (λ (l : List PoolSeat). total f (map view l)) items ∙ total_popped f old s in
    let d = sum_more c.args.self.now.draws.items c.push_reserved-2.new.self.items c.args.ended.worker_state.offers.drawn draws in
    omega (arith, e, d, c.args.self.now.takes, c.args.ended.worker_state.offers.takes)

pub invariant_of-self-2-clause-tallied : goal.invariant_of-self-2-clause-tallied
invariant_of-self-2-clause-tallied g c =
    let ts = c.args.self.now.tallies in
    let worker_state = c.args.ended.worker_state in
    let place = theirs g.J.RunParams.engines g.J.RunParams.workers worker_state.worker worker_state.kind worker_state.place in
    let within : worker_state.worker < length ts = omega (arith, place, c.check.ensures.few, c.args.self.now.sized) in
    omega (arith, sum_set ts worker_state.worker worker_state.tally within, c.args.self.now.tallied, worker_state.tallied, c.merge.ensures.amount, c.check.ensures.amounts.0)

pub invariant_of-self-2-clause-sized : goal.invariant_of-self-2-clause-sized
invariant_of-self-2-clause-sized g c =
    let ts = c.args.self.now.tallies in
    let v = c.args.ended.worker_state.worker in
    length-set ts v (slice_index ts v + c.args.ended.worker_state.tally) ∙ c.args.self.now.sized

pub invariant_of-self-2-clause-of_pool : goal.invariant_of-self-2-clause-of_pool
invariant_of-self-2-clause-of_pool g c =
    let old = c.args.self.now.seats.items in
    let s = c.args.ended.worker_state.offers.seat in
    let items : c.push_reserved.new.self.items ≡ old ++ s ∷ [] = search rules in
    all_more (λ (x : PoolSeat). seat_pool x ≡ g.J.RunParams.pool) old c.push_reserved.new.self.items s items c.args.self.now.of_pool c.args.ended.worker_state.of_pool
