use Rattle.std.proofs.Common.{ℕ, ℤ, ◌≡◌, ◌++◌, drop, map}
use Rattle.work_queue.specs.declared.entry.Kind.{Kind as QueueKind}
use Rattle.board.proofs.board.numbers_of.Given as goal

abbrev pub invariant-loop-one : goal.invariant-loop-one
invariant-loop-one l =
    l.numbers.items ++ map (λ (x : QueueKind × ℤ × ℕ). x.2) (drop l.one-index l.listed) ≡ map (λ (x : QueueKind × ℤ × ℕ). x.2) l.listed
