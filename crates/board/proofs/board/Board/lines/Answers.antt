use Rattle.std.proofs.Common.{map}
use Rattle.task_code.specs.View.{event_view}
use Rattle.board.proofs.Own.{lines_here}
use Rattle.board.proofs.board.Board.lines.Goals as goal

pub returns : goal.returns
returns c = rw (← c.self.view_is) (lines_here c.self.inside.program c.self.invariant.whole (map event_view c.self.inside.history.items) c.self.inside.core c.self.invariant.stand)
