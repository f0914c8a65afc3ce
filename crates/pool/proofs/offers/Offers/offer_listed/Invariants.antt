use Rattle.std.proofs.Common.{◌≡◌, ◌+◌, length, reverse, vec_len}
use Rattle.pool.specs.declared.protocol.SeatView.{SeatView}
use Rattle.pool.specs.Seats.{IsSeatOf, view}
use Rattle.pool.specs.Offering.{OfferedEach}
use Rattle.pool.proofs.offers.Offers.offer_listed.Given as goal

abbrev pub invariant-loop-fresh : goal.invariant-loop-fresh
invariant-loop-fresh l = record {
  seat : IsSeatOf l.pool l.seat;
  did : (end : SeatView) → OfferedEach (reverse l.list.items) (view l.seat) end → OfferedEach (reverse l.fn.self.list.items) (view l.fn.self.seat) end;
  offers : length (view l.seat).offered ≡ l.offered;
  takes : length (view l.seat).taken ≡ l.fn.self.drawn;
  each : l.offered + l.full + vec_len l.list ≡ l.fn.self.offered + l.fn.self.full + vec_len l.fn.self.list;
  left : l.pending + vec_len l.fn.self.list ≡ l.fn.self.pending + vec_len l.list;
}

abbrev pub decreases-loop-fresh : goal.decreases-loop-fresh
decreases-loop-fresh l = vec_len l.list
