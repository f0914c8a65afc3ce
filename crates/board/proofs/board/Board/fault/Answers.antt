use Rattle.std.proofs.Common.{rules, map}
use Rattle.task_code.specs.View.{event_view}
use Rattle.board.proofs.Own.{fault_here, free_state}
use Rattle.board.proofs.board.Board.fault.Goals as goal

pub returns-in-None-clause-none : goal.returns-in-None-clause-none
returns-in-None-clause-none c = rw (← c.self.view_is) (free_state c.self.inside.program c.self.invariant.whole (map event_view c.self.inside.history.items) c.self.inside.core c.self.invariant.stand (search rules))

pub returns-in-Some-clause-some : goal.returns-in-Some-clause-some
returns-in-Some-clause-some c = rw (← c.self.view_is) (fault_here c.self.inside.program c.self.invariant.whole (map event_view c.self.inside.history.items) c.self.inside.core c.self.invariant.stand c.in-Some.met (search rules))
