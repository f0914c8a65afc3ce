use Rattle.std.proofs.Common.{◌≡◌, map, drop}
use Rattle.board_data.specs.View.{cells_view}
use Rattle.board_instances.specs.View.{frames_view}
use Rattle.task_code.specs.View.{need_view}
use Rattle.board.specs.Stuck.{is_header_known}
use Rattle.board.proofs.state.BoardState.is_header_known.Given as goal

abbrev pub invariant-loop-need : goal.invariant-loop-need
invariant-loop-need l =
    is_header_known l.program (frames_view l.self.data_state.instances.slots) (cells_view l.self.data_state.store.cells) l.at l.body (map need_view (drop l.need-index l.header.needs.items))
    ≡ is_header_known l.program (frames_view l.self.data_state.instances.slots) (cells_view l.self.data_state.store.cells) l.at l.body (map need_view l.header.needs.items)
