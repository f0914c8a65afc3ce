use Rattle.std.proofs.Common.{rules, map, ◌≡◌, true, is_some}
use Rattle.task_code.specs.View.{event_view}
use Rattle.board.proofs.Own.{free_core, is_met, run_here}
use Rattle.board.proofs.Staying.{work_begun}
use Rattle.board.proofs.board.Board.end_trusted.Goals as goal

pub end_begun-requires-clause-items : goal.end_begun-requires-clause-items
end_begun-requires-clause-items c =
    work_begun c.args.self.now (rw (← c.self.view_is) (run_here c.self.inside.program c.self.invariant.whole (map event_view c.self.inside.history.items) c.self.inside.core c.self.invariant.stand)) c.args.worker c.args.done c.requires.own

pub returns-then-is_some-clause-refused : goal.returns-then-is_some-clause-refused
returns-then-is_some-clause-refused c =
    let test : is_some c.self.inside.core.fault ≡ true = search rules in
    rw (← c.self.view_is) (λ g. is_met c.self.inside.core.fault test (free_core c.self.inside.program c.self.invariant.whole (map event_view c.self.inside.history.items) c.self.inside.core c.self.invariant.stand g.0))
