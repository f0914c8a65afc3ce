use Rattle.std.proofs.Common.{map}
use Rattle.task_code.specs.View.{event_view}
use Rattle.board.proofs.BlockedBy.{blocked_told}
use Rattle.board.proofs.board.Board.blocked.Goals as goal

pub returns : goal.returns
returns c =
    rw (← c.self.view_is) (blocked_told c.self.inside.program c.self.invariant.whole (map event_view c.self.inside.history.items) c.self.inside.core c.self.invariant.stand c.blocked.result c.blocked.ensures.places c.blocked.ensures.order)
