use Rattle.std.proofs.Common.{◌≡◌, ◌<◌, IsSome, length, take}
use Rattle.board_history.specs.Fields.{slot_at}
use Rattle.task_code.specs.Code.{body}
use Rattle.task_code.specs.Compute.{pairs}
use Rattle.board_instances.specs.Turns.{AddsTurns}
use Rattle.board_instances.specs.View.{frames_view}
use Rattle.board_instances.proofs.turns.push_elements.Given as goal

abbrev pub invariant-loop-one : goal.invariant-loop-one
invariant-loop-one l = record {
  added : 0 < length (body l.site.around.program.now l.site.body).entries → IsSome (slot_at (frames_view l.site.around.instances.now.slots) l.site.around.at) → AddsTurns l.site.around.program.now (frames_view l.site.around.instances.now.slots) l.site.around.at l.site.body l.site.offset (pairs (take l.one-index l.elements)) l.fn.list.items l.list.items;
  none : length (body l.site.around.program.now l.site.body).entries ≡ 0 → l.list.items ≡ l.fn.list.items;
}
