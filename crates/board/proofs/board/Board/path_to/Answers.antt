use Rattle.board.proofs.Remaining.{no_path, none_here, path_told}
use Rattle.board.proofs.board.Board.path_to.Goals as goal

pub returns-in-Some : goal.returns-in-Some
returns-in-Some c =
    rw (← c.self.view_is) (path_told c.self.inside c.self.invariant c.args.number c.in-Some.left c.in-Some.ensures.some c.path_of.result c.path_of.ensures)

pub returns-in-None : goal.returns-in-None
returns-in-None c =
    rw (← c.self.view_is) (no_path c.self.inside c.self.invariant c.args.number c.new.result.items (none_here c.self.inside c.self.invariant c.args.number c.in-None.ensures.none))
