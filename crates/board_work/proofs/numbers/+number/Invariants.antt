use Rattle.std.proofs.Common.{◌≡◌, drop}
use Rattle.values.specs.Operators.{added, scaled, all_values}
use Rattle.task_code.specs.Compute.{evals}
use Rattle.task_code.specs.View.{exprs_view}
use Rattle.board_work.specs.Chains.{chain_from}
use Rattle.board_work.specs.View.{answers_view}
use Rattle.board_work.proofs.numbers.+number.Given as goal

abbrev pub invariant-sum_from-loop-place : goal.invariant-sum_from-loop-place
invariant-sum_from-loop-place l =
    chain_from added l.start l.signs (all_values (evals (answers_view l.answers) (exprs_view l.rest)))
    ≡ chain_from added l.total (drop l.place l.signs) (all_values (evals (answers_view l.answers) (exprs_view (drop l.place l.rest))))

abbrev pub invariant-product_from-loop-place : goal.invariant-product_from-loop-place
invariant-product_from-loop-place l =
    chain_from scaled l.start l.factors (all_values (evals (answers_view l.answers) (exprs_view l.rest)))
    ≡ chain_from scaled l.total (drop l.place l.factors) (all_values (evals (answers_view l.answers) (exprs_view (drop l.place l.rest))))
