use Rattle.std.proofs.Common.{◌≡◌, ◌-◌, ◌++◌, map}
use Rattle.board_history.specs.Fields.{path_from, path_of}
use Rattle.board_instances.specs.View.{frames_view, step_view}
use Rattle.board_instances.proofs.instance.steps_back.Given as goal

abbrev pub invariant-loop-step : goal.invariant-loop-step
invariant-loop-step l = map step_view l.steps.items ++ path_from (frames_view l.instances.slots) (l.step-end - l.step) l.next ≡ path_of (frames_view l.fn.instances.slots) l.fn.at
