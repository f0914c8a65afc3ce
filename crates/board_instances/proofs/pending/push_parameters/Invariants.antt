use Rattle.std.proofs.Common.{◌≡◌, ◌++◌, drop, map}
use Rattle.board_instances.specs.Openings.{passed_from}
use Rattle.board_instances.specs.View.{frames_view, slot_view}
use Rattle.board_instances.proofs.pending.push_parameters.Given as goal

abbrev pub invariant-loop-place : goal.invariant-loop-place
invariant-loop-place l = map slot_view l.slots.items ++ passed_from (frames_view l.around.instances.now.slots) l.around.at l.call l.place (drop l.place l.arguments) ≡ map slot_view l.fn.slots.items ++ passed_from (frames_view l.around.instances.now.slots) l.around.at l.call 0 l.arguments
