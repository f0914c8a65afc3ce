use Rattle.std.proofs.Common.{◌≡◌, map, drop}
use Rattle.board_data.specs.View.{cells_view}
use Rattle.board_instances.specs.View.{frames_view}
use Rattle.task_code.specs.View.{header_view}
use Rattle.board.specs.Stuck.{first_unknown}
use Rattle.board.proofs.state.BoardState.first_unknown.Given as goal

abbrev pub invariant-loop-header : goal.invariant-loop-header
invariant-loop-header l =
    first_unknown l.program (frames_view l.self.data_state.instances.slots) (cells_view l.self.data_state.store.cells) l.at l.body (map header_view (drop l.header-index l.headers))
    ≡ first_unknown l.program (frames_view l.self.data_state.instances.slots) (cells_view l.self.data_state.store.cells) l.at l.body (map header_view l.headers)
