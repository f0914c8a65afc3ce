use Rattle.board.proofs.Remaining.{none_here, sees_told}
use Rattle.board.proofs.board.Board.environment.Goals as goal

pub returns-in-Some-clause-some : goal.returns-in-Some-clause-some
returns-in-Some-clause-some c =
    rw (← c.self.view_is) (sees_told c.self.inside c.self.invariant c.args.number c.in-Some.left c.in-Some.ensures.some c.in-Some.ensures.live c.view.result c.view.ensures.program c.view.ensures.instances c.view.ensures.store c.view.ensures.at)

pub returns-in-None-clause-none : goal.returns-in-None-clause-none
returns-in-None-clause-none c = rw (← c.self.view_is) (none_here c.self.inside c.self.invariant c.args.number c.in-None.ensures.none)
