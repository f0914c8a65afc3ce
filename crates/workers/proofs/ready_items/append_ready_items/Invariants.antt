use Rattle.std.proofs.Common.{◌≤◌, ◌≡◌, ◌+◌, length, vec_capacity, vec_len}
use Rattle.workers.proofs.Listing.{IsListedTo}
use Rattle.workers.proofs.ready_items.append_ready_items.Given as goal

abbrev pub invariant-loop-place : goal.invariant-loop-place
invariant-loop-place l = record {
  listed : IsListedTo l.board l.fn.list.items l.list.items l.place;
  len : vec_len l.list ≡ vec_len l.fn.list + l.place;
  room : vec_len l.fn.list + length l.board.newly ≤ vec_capacity l.list;
}
