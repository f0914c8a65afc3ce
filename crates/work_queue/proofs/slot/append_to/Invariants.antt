use Rattle.std.proofs.Common.{◌≡◌, ◌++◌, map}
use Rattle.std.specs.VecDeque.Iter.{deque_iter_rest}
use Rattle.work_queue.specs.Entries.{listed}
use Rattle.work_queue.specs.Slots.{waiting}
use Rattle.work_queue.proofs.slot.append_to.Given as goal

-- what the list is to be is what it is, with what waits in the slots that are left
abbrev pub invariant-loop-slot : goal.invariant-loop-slot
invariant-loop-slot l = l.initial.list.items ++ map (listed l.kind) (waiting l.slots.items) ≡ l.list.items ++ map (listed l.kind) (waiting (deque_iter_rest l.slot-iterator))
