use Rattle.board.proofs.Remaining.{running_told}
use Rattle.board.proofs.board.Board.running_count.Goals as goal

pub returns : goal.returns
returns c = rw (← c.self.view_is) (running_told c.self.inside c.self.invariant)
