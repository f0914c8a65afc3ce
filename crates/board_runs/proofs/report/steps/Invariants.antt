use Rattle.std.proofs.Common.{◌≡◌, take}
use Rattle.board_runs.proofs.report.steps.Given as goal

abbrev pub invariant-loop-step : goal.invariant-loop-step
invariant-loop-step l = l.copies.items ≡ take l.step-index l.path.items
