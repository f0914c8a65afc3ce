use Rattle.std.proofs.Common.{rules, ◌≡◌, true, false, is_none, length}
use Rattle.board.proofs.Going.{going, not_going}
use Rattle.board.proofs.Own.{none_of, some_of}
use Rattle.board.proofs.board.Board.is_going.Goals as goal

pub returns-then-is_none : goal.returns-then-is_none
returns-then-is_none c =
    let test : is_none c.self.inside.core.fault ≡ true = search rules in
    let len : c.len.result ≡ length c.self.inside.history.items = search rules in
    rw (← c.self.view_is) (going c.self.inside c.self.invariant (none_of c.self.inside.core.fault test) c.len.result len)

pub returns-else-is_none : goal.returns-else-is_none
returns-else-is_none c =
    let test : is_none c.self.inside.core.fault ≡ false = search rules in
    rw (← c.self.view_is) (not_going c.self.inside c.self.invariant (some_of c.self.inside.core.fault test) c.is_none.result c.if-is_none.false)
