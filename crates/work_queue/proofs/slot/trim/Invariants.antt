use Rattle.std.proofs.Common.{◌≡◌}
use Rattle.std.specs.VecDeque.{deque_len}
use Rattle.work_queue.specs.Slots.{waiting, IsRising}
use Rattle.work_queue.proofs.slot.trim.Given as goal

-- the entries rise, and the same ones wait
abbrev pub invariant-front : goal.invariant-front
invariant-front l = record { rising : IsRising l.slots.items; same : waiting l.slots.items ≡ waiting l.initial.slots.items }

abbrev pub decreases-front : goal.decreases-front
decreases-front l = deque_len l.slots
