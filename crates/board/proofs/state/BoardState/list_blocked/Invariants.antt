use Rattle.std.proofs.Common.{◌≡◌, ◌++◌, map, drop}
use Rattle.std.specs.List.{filter_map}
use Rattle.board_data.specs.View.{cells_view}
use Rattle.board_instances.specs.View.{frames_view, rows_view}
use Rattle.board.specs.Stuck.{blocked_row, place_of}
use Rattle.board.proofs.state.BoardState.list_blocked.Given as goal

abbrev pub invariant-loop-item : goal.invariant-loop-item
invariant-loop-item l =
    map place_of l.statements.items ++ filter_map (blocked_row l.program (frames_view l.self.data_state.instances.slots) (cells_view l.self.data_state.store.cells)) (rows_view (drop l.item-index l.self.items.rows.items))
    ≡ filter_map (blocked_row l.program (frames_view l.self.data_state.instances.slots) (cells_view l.self.data_state.store.cells)) (rows_view l.self.items.rows.items)
