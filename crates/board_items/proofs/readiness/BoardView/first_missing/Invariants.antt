use Rattle.std.proofs.Common.{◌≡◌, drop}
use Rattle.std.specs.List.{flat_map}
use Rattle.board_data.specs.View.{cells_view}
use Rattle.board_data.specs.Wanted.{wanted_missed}
use Rattle.board_instances.specs.Names.{led_slot}
use Rattle.board_instances.specs.View.{frames_view}
use Rattle.board_items.proofs.readiness.BoardView.first_missing.Given as goal

abbrev pub invariant-loop-place : goal.invariant-loop-place
invariant-loop-place l =
    flat_map (wanted_missed l.self.program.now (cells_view l.self.store.now.cells) (led_slot (frames_view l.self.instances.now.slots) l.at)) (drop l.place l.needs)
    ≡ flat_map (wanted_missed l.self.program.now (cells_view l.self.store.now.cells) (led_slot (frames_view l.self.instances.now.slots) l.at)) l.needs
