use Rattle.std.proofs.Common.{◌≡◌, ◌++◌, drop}
use Rattle.flow.specs.View.{exprs_view}
use Rattle.explain_inputs.specs.Inputs.{inputs_view, exprs_inputs}
use Rattle.explain_inputs.proofs.input.+add.Given as goal

abbrev pub invariant-add_exprs-loop-expr : goal.invariant-add_exprs-loop-expr
invariant-add_exprs-loop-expr g l =
    inputs_view l.initial.inputs.items ++ exprs_inputs (exprs_view l.exprs.items) ≡ inputs_view l.inputs.items ++ exprs_inputs (exprs_view (drop l.expr-index l.exprs.items))
