use Rattle.std.proofs.Common.{◌≡◌, ◌≤◌, max}
use Rattle.work_queue.proofs.kind_queue.KindQueue.reserve.Given as goal

-- there is as much room as before, or as the loop has come to, and it comes to no more than is wanted
abbrev pub invariant-loop-laid : goal.invariant-loop-laid
invariant-loop-laid l = record { is : l.self ≡ record l.initial.self { room = l._laid }; most : l._laid ≤ max l.before l.n }
