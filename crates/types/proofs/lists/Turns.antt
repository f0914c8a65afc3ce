-- The turns of a loop.
use Rattle.std.proofs.Common.{ℕ, ◌+◌, ◌-◌, ◌<◌, arith}

-- each turn leaves fewer of them
pub turns_left : (n i : ℕ) → i < n → n - (i + 1) < n - i
turns_left n i below = omega arith
