use Rattle.std.proofs.Common.{◌≡◌, ℕ, ◌<◌, ◌≤◌, length, take, count_by, is_some, slice_index_or, None}
use Rattle.rules.specs.Places.{IsFound}
use Rattle.rules.proofs.subscribers.Subscribers.renew.Given as goal

-- what lies in the slots so far is found, and there are no more strays than items in them
abbrev pub invariant-loop-slot : goal.invariant-loop-slot
invariant-loop-slot l =
    ((k : ℕ) → k < l.slot → IsFound l.self k (slice_index_or l.waiters.slots k None))
    × (l.self.place ≡ l.fn.self.place)
    × (length l.self.strays ≤ count_by is_some (take l.slot l.waiters.slots))
