use Rattle.std.proofs.Common.{◌≡◌, ◌+◌, ◌≤◌, ◌++◌, map, take, vec_len, vec_capacity, Some}
use Rattle.board_data.specs.View.{want_view}
use Rattle.board_changes.specs.World.{elements_of}
use Rattle.board_changes.proofs.data_state.notify_elements.Given as goal

abbrev pub invariant-loop-one : goal.invariant-loop-one
invariant-loop-one l =
    (map want_view l.known.items ≡ map want_view l.initial.known.items ++ elements_of (Some l.d) (take l.one-index l.elements))
    × (vec_len l.known ≡ vec_len l.initial.known + l.one-index)
    × (vec_capacity l.initial.known ≤ vec_capacity l.known)
