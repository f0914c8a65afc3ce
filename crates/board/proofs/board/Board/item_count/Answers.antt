use Rattle.std.proofs.Common.{rules}
use Rattle.board.proofs.Remaining.{count_told, left_within}
use Rattle.board.proofs.board.Board.item_count.Goals as goal

pub returns-clause-next : goal.returns-clause-next
returns-clause-next c = rw (← c.self.view_is) (count_told c.self.inside c.self.invariant c.len.result (search rules))

pub returns-clause-within : goal.returns-clause-within
returns-clause-within c = rw (← c.self.view_is) (left_within c.self.inside c.self.invariant c.len.result (search rules))
