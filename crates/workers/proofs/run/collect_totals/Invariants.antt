use Rattle.std.proofs.Common.{◌≡◌, ◌+◌, ◌<◌, ℕ, if◌then◌else◌, nat_eq, slice_index, vec_len}
use Rattle.std.specs.List.{sum_by}
use Rattle.std.specs.Vec.Iter.{into_iter_items, into_iter_len}
use Rattle.workers.proofs.run.collect_totals.Given as goal
use Rattle.values.specs.Limits.{max_threads}

abbrev pub invariant-loop-worker_state : goal.invariant-loop-worker_state
invariant-loop-worker_state g l = record {
  seats : vec_len l.totals.seats + into_iter_len l.worker_state-iterator ≡ vec_len l.fn.worker_states;
  own : (w : ℕ) → w < max_threads → slice_index l.totals.tallies w + sum_by (λ h. if nat_eq h.worker_state.worker w then h.worker_state.tally else 0) (into_iter_items l.worker_state-iterator) ≡ sum_by (λ h. if nat_eq h.worker_state.worker w then h.worker_state.tally else 0) l.fn.worker_states.items;
}
