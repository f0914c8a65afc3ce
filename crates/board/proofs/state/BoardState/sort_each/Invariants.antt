use Rattle.std.proofs.Common.{◌≡◌}
use Rattle.board.proofs.state.BoardState.sort_each.Given as goal

abbrev pub invariant-loop-wanted : goal.invariant-loop-wanted
invariant-loop-wanted l = l.self ≡ l.initial.self
