use Rattle.std.proofs.Common.{◌≡◌, map, drop}
use lib.Pointwise.{pointwise}
use Rattle.board_work.proofs.view_eq.all_same.Given as goal

abbrev pub invariant-loop-one : goal.invariant-loop-one
invariant-loop-one g l =
    pointwise g.T.ViewEq.same (map g.T.ViewEq.meaning l.ones) (map g.T.ViewEq.meaning l.others)
    ≡ pointwise g.T.ViewEq.same (map g.T.ViewEq.meaning (drop l.one-index l.ones)) (map g.T.ViewEq.meaning l.rest)
