use Rattle.std.proofs.Common.{◌≡◌, drop}
use Rattle.task_code.specs.View.{exprs_view}
use Rattle.board_work.specs.Same.{exprs_eq}
use Rattle.board_work.proofs.view_eq.+same.Given as goal

abbrev pub invariant-are_same_exprs-loop-one : goal.invariant-are_same_exprs-loop-one
invariant-are_same_exprs-loop-one l =
    exprs_eq (exprs_view l.ones.items) (exprs_view l.others.items)
    ≡ exprs_eq (exprs_view (drop l.one-index l.ones.items)) (exprs_view l.rest)
