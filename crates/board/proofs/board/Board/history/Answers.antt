use Rattle.std.proofs.Common.{map}
use Rattle.task_code.specs.View.{event_view}
use Rattle.board.proofs.Own.{run_here}
use Rattle.board.proofs.board.Board.history.Goals as goal

pub returns-clause-replays : goal.returns-clause-replays
returns-clause-replays c = rw (← c.self.view_is) (run_here c.self.inside.program c.self.invariant.whole (map event_view c.self.inside.history.items) c.self.inside.core c.self.invariant.stand)
