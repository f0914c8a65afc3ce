use Rattle.std.proofs.Common.{◌≡◌, ◌*◌, drop}
use Rattle.board_instances.specs.Names.{spot_slot}
use Rattle.board_instances.specs.View.{frames_view}
use Rattle.board_data.proofs.Held.{hold_step}
use Rattle.board_data.proofs.Steps.{one_by_one}
use Rattle.board_data.proofs.holds.hold_outer.Given as goal

abbrev pub invariant-loop-hold : goal.invariant-loop-hold
invariant-loop-hold l =
    one_by_one (hold_step (spot_slot (frames_view l.instances.slots) l.at) (λ h. l.times * h.reads) (λ h. l.times * h.writes)) (drop l.hold-index l.outer) l.store
    ≡ one_by_one (hold_step (spot_slot (frames_view l.instances.slots) l.at) (λ h. l.times * h.reads) (λ h. l.times * h.writes)) l.outer l.initial.store
