use Rattle.std.proofs.Common.{map, sym}
use Rattle.task_code.specs.View.{event_view}
use Rattle.board.proofs.Own.{lines_here}
use Rattle.board.proofs.board.Board.into_parts.Goals as goal

pub returns-clause-lines : goal.returns-clause-lines
returns-clause-lines c =
    rw (← c.self.view_is, c.into_lines.ensures) (sym (lines_here c.self.inside.program c.self.invariant.whole (map event_view c.self.inside.history.items) c.self.inside.core c.self.invariant.stand))
