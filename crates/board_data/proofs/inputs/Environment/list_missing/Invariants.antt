use Rattle.std.proofs.Common.{◌≡◌, ◌++◌, ◌-◌, length, map, drop}
use Rattle.std.specs.List.{flat_map}
use Rattle.smallvec.specs.SmallVec.{HasRoomFor}
use Rattle.board_instances.specs.Names.{led_slot}
use Rattle.board_instances.specs.View.{frames_view}
use Rattle.board_data.specs.View.{cells_view, want_view}
use Rattle.board_data.specs.Wanted.{wanted_missed}
use Rattle.board_data.proofs.inputs.Environment.list_missing.Given as goal

abbrev pub invariant-loop-wanted : goal.invariant-loop-wanted
invariant-loop-wanted l =
    (map want_view l.inputs.items ++ flat_map (wanted_missed l.self.program.now (cells_view l.self.store.now.cells) (led_slot (frames_view l.self.instances.now.slots) l.self.at)) (drop l.wanted-index l.needs)
    ≡ map want_view l.initial.inputs.items ++ flat_map (wanted_missed l.self.program.now (cells_view l.self.store.now.cells) (led_slot (frames_view l.self.instances.now.slots) l.self.at)) l.needs)
    × (HasRoomFor l.initial.inputs (length l.needs) → HasRoomFor l.inputs (length l.needs - l.wanted-index))
