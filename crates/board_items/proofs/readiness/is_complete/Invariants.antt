use Rattle.std.proofs.Common.{◌≡◌, drop}
use Rattle.std.specs.List.{flat_map}
use Rattle.board_data.specs.View.{cells_view}
use Rattle.board_data.specs.Wanted.{wanted_missed}
use Rattle.board_instances.specs.Names.{led_slot}
use Rattle.board_instances.specs.View.{frames_view}
use Rattle.board_items.proofs.readiness.is_complete.Given as goal

abbrev pub invariant-loop-wanted : goal.invariant-loop-wanted
invariant-loop-wanted l =
    flat_map (wanted_missed l.view.program.now (cells_view l.view.store.now.cells) (led_slot (frames_view l.view.instances.now.slots) l.view.at)) (drop l.wanted-index l.needs)
    ≡ flat_map (wanted_missed l.view.program.now (cells_view l.view.store.now.cells) (led_slot (frames_view l.view.instances.now.slots) l.view.at)) l.needs
