use Rattle.std.proofs.Common.{◌≡◌, drop}
use Rattle.board_instances.specs.Names.{spot_slot}
use Rattle.board_instances.specs.View.{frames_view}
use Rattle.data_store.specs.Data.{without_read}
use Rattle.board_data.proofs.Given.{give_step}
use Rattle.board_data.proofs.Steps.{one_by_one}
use Rattle.board_data.proofs.holds.release_all.Given as goal

abbrev pub invariant-loop-spot : goal.invariant-loop-spot
invariant-loop-spot l =
    one_by_one (give_step (λ x. x.reads) without_read (spot_slot (frames_view l.instances.slots) l.at)) (drop l.spot-index l.reads) l.store
    ≡ one_by_one (give_step (λ x. x.reads) without_read (spot_slot (frames_view l.instances.slots) l.at)) l.reads l.initial.store
