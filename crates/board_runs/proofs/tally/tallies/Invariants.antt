use Rattle.std.proofs.Common.{map, take}
use Rattle.task_code.specs.View.{event_view}
use Rattle.board_runs.specs.Report.{AreTallies}
use Rattle.board_runs.proofs.tally.tallies.Given as goal

abbrev pub invariant-loop-event : goal.invariant-loop-event
invariant-loop-event l = AreTallies (map event_view (take l.event-index l.history.items)) l.tallies
