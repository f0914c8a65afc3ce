use Rattle.std.proofs.Common.{◌+◌, List, Option, Some, None, IsSome}
use Rattle.slab.specs.Slab.{slab_len}
use Rattle.board_history.specs.Ending.{TakenOff}
use Rattle.board_history.specs.Fields.{Frame, slot_at}
use Rattle.board_instances.specs.Nested.{IsNested}
use Rattle.board_instances.specs.View.{frames_view}
use Rattle.board_instances.proofs.Slots.{LiesIn}
use Rattle.board_instances.proofs.instance.leave.Given as goal

abbrev pub invariant-loop-next : goal.invariant-loop-next
invariant-loop-next l = IsNested (frames_view l.fn.instances.slots) → IsSome (slot_at (frames_view l.fn.instances.slots) l.fn.at) → ((gs : List (Option Frame)) → TakenOff gs (frames_view l.instances.slots) l.next → TakenOff gs (frames_view l.fn.instances.slots) (Some l.fn.at)) × LiesIn (frames_view l.instances.slots) l.next

abbrev pub decreases-loop-next : goal.decreases-loop-next
decreases-loop-next l = slab_len l.instances + elim l.next [ None ↦ 0 | Some k ↦ 1 ]
