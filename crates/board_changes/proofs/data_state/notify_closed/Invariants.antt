use Rattle.std.proofs.Common.{◌≡◌, ◌+◌, ◌-◌, ◌≤◌, ◌++◌, length, map, take, vec_len, vec_capacity}
use Rattle.board_history.specs.Fields.{Whole}
use Rattle.board_data.specs.View.{want_view}
use Rattle.board_changes.proofs.data_state.notify_closed.Given as goal

abbrev pub invariant-loop-d : goal.invariant-loop-d
invariant-loop-d l =
    (map want_view l.known.items ≡ map want_view l.initial.known.items ++ map Whole (take l.d-index l.closed))
    × (vec_len l.initial.known + length l.closed ≤ vec_capacity l.initial.known → vec_len l.known + (length l.closed - l.d-index) ≤ vec_capacity l.known)
