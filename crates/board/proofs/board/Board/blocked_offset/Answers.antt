use Rattle.std.proofs.Common.{rules}
use Rattle.board_instances.specs.View.{row_view}
use Rattle.board.proofs.Remaining.{no_offset, nothing_blocked, offset_found}
use Rattle.board.proofs.board.Board.blocked_offset.Goals as goal

pub returns-in_ok-found-in-Some-clause-some : goal.returns-in_ok-found-in-Some-clause-some
returns-in_ok-found-in-Some-clause-some c =
    rw (← c.self.view_is) (offset_found c.self.inside c.self.invariant c.args.number (row_view c.in-Some.row) (search rules) c.in_ok-found-in-Some.found c.offset_in.result c.offset_in.ensures c.in_ok-found-in-Some.ensures)

pub returns-in_ok-found-in-Some-clause-none : goal.returns-in_ok-found-in-Some-clause-none
returns-in_ok-found-in-Some-clause-none c =
    rw (← c.self.view_is) (no_offset c.self.inside c.self.invariant c.args.number (row_view c.in-Some.row) (search rules) c.in_ok-found-in-Some.found c.offset_in.result c.offset_in.ensures c.in_ok-found-in-Some.ensures)

pub returns-in-None-clause-none : goal.returns-in-None-clause-none
returns-in-None-clause-none c = rw (← c.self.view_is) (nothing_blocked c.self.inside c.self.invariant c.args.number (search rules))
