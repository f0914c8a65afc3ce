use Rattle.std.proofs.Common.{◌≡◌, ◌-◌}
use Rattle.board_history.specs.Fields.{frame_up}
use Rattle.board_instances.specs.View.{frames_view}
use Rattle.board_instances.proofs.instance.ancestor.Given as goal

abbrev pub invariant-loop-step : goal.invariant-loop-step
invariant-loop-step l = frame_up (frames_view l.instances.slots) l.levels l.at ≡ frame_up (frames_view l.instances.slots) (l.levels - l.step) l.key
