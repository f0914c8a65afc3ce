use Rattle.std.proofs.Common.{◌≡◌, drop}
use Rattle.values.specs.Operators.{all_values}
use Rattle.task_code.specs.Compute.{evals}
use Rattle.task_code.specs.View.{exprs_view}
use Rattle.board_work.specs.View.{answers_view}
use Rattle.board_work.specs.Outcome.{in_front}
use Rattle.board_work.proofs.evaluation.+value.Given as goal

abbrev pub invariant-append_values-loop-expr : goal.invariant-append_values-loop-expr
invariant-append_values-loop-expr l =
    in_front l.initial.values.items (all_values (evals (answers_view l.answers) (exprs_view l.exprs.items)))
    ≡ in_front l.values.items (all_values (evals (answers_view l.answers) (exprs_view (drop l.expr-index l.exprs.items))))
