use Rattle.std.proofs.Common.{map}
use Rattle.task_code.specs.View.{event_view}
use Rattle.board.proofs.Storing.{exact_here, so_many}
use Rattle.board.proofs.board.Board.stored.Goals as goal

pub returns-clause-count : goal.returns-clause-count
returns-clause-count c =
    rw (← c.self.view_is) (so_many c.self.inside.program c.self.invariant.whole (map event_view c.self.inside.history.items) c.self.inside.core c.self.invariant.stand c.len.result c.len.ensures)

pub returns-clause-exact : goal.returns-clause-exact
returns-clause-exact c =
    rw (← c.self.view_is) (exact_here c.self.inside.program c.self.invariant.whole (map event_view c.self.inside.history.items) c.self.inside.core c.self.invariant.stand)
