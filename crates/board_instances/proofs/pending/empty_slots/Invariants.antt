use Rattle.std.proofs.Common.{◌≡◌, map, replicate}
use Rattle.board_history.specs.Fields.{Absent}
use Rattle.board_instances.specs.View.{slot_view}
use Rattle.board_instances.proofs.pending.empty_slots.Given as goal

abbrev pub invariant-loop-place : goal.invariant-loop-place
invariant-loop-place l = map slot_view l.slots.items ≡ replicate l.place Absent
