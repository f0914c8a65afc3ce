use Rattle.std.proofs.Common.{◌≡◌, ◌≤◌, ◌+◌, ◌-◌, ◌++◌, drop, length, vec_capacity, vec_len}
use Rattle.board_instances.specs.Names.{spot_slot}
use Rattle.board_instances.specs.View.{frames_view}
use Rattle.board_data.proofs.Closed.{all_closing, step}
use Rattle.board_data.proofs.Steps.{one_by_one}
use Rattle.board_data.proofs.holds.close_all.Given as goal

abbrev pub invariant-loop-spot : goal.invariant-loop-spot
invariant-loop-spot l =
    (one_by_one (step (spot_slot (frames_view l.instances.slots) l.at)) (drop l.spot-index l.writes) l.store
    ≡ one_by_one (step (spot_slot (frames_view l.instances.slots) l.at)) l.writes l.initial.store)
    × (vec_len l.initial.closed + length l.writes ≤ vec_capacity l.initial.closed →
    (vec_len l.closed + (length l.writes - l.spot-index) ≤ vec_capacity l.closed)
    × (l.closed.items ++ all_closing (spot_slot (frames_view l.instances.slots) l.at) (drop l.spot-index l.writes) l.store
    ≡ l.initial.closed.items ++ all_closing (spot_slot (frames_view l.instances.slots) l.at) l.writes l.initial.store))
