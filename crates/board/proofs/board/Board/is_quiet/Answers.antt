use Rattle.std.proofs.Common.{rules, ◌≡◌, true, false, is_none}
use Rattle.board.proofs.Firsts.{not_quiet, quiet_is, quiet_still}
use Rattle.board.proofs.Own.{none_of, some_of}
use Rattle.board.proofs.board.Board.is_quiet.Goals as goal

pub returns-then-is_none : goal.returns-then-is_none
returns-then-is_none c =
    let test : is_none c.self.inside.core.fault ≡ true = search rules in
    let still = c.is_quiescent.ensures in
    rw (← c.self.view_is) (
      (λ t. let r = still.0 t in quiet_is c.self.inside c.self.invariant (none_of c.self.inside.core.fault test) r.0 r.1 r.2),
      (λ q. still.1 (quiet_still c.self.inside c.self.invariant q)),
    )

pub returns-else-is_none : goal.returns-else-is_none
returns-else-is_none c =
    let test : is_none c.self.inside.core.fault ≡ false = search rules in
    rw (← c.self.view_is) (not_quiet c.self.inside c.self.invariant (some_of c.self.inside.core.fault test) c.is_none.result c.if-is_none.false)
