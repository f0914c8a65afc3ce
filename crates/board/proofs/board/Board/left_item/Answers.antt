use Rattle.board.proofs.Remaining.{left_told, none_told, only_told}
use Rattle.board.proofs.board.Board.left_item.Goals as goal

pub returns-clause-some : goal.returns-clause-some
returns-clause-some c = rw (← c.self.view_is) (left_told c.self.inside c.self.invariant c.args.number c.live_item.result c.live_item.ensures.some c.live_item.ensures.live)

pub returns-clause-only : goal.returns-clause-only
returns-clause-only c = rw (← c.self.view_is) (only_told c.self.inside c.self.invariant c.args.number c.live_item.result c.live_item.ensures.some)

pub returns-clause-none : goal.returns-clause-none
returns-clause-none c = rw (← c.self.view_is) (none_told c.self.inside c.self.invariant c.args.number c.live_item.result c.live_item.ensures.none)
