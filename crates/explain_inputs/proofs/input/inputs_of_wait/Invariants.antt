use Rattle.std.proofs.Common.{◌≡◌, ◌++◌, drop, map}
use Rattle.flow.specs.View.{awaited_view}
use Rattle.explain_inputs.specs.Inputs.{awaited_input, inputs_view}
use Rattle.explain_inputs.proofs.input.inputs_of_wait.Given as goal

abbrev pub invariant-loop-name : goal.invariant-loop-name
invariant-loop-name l =
    map awaited_input (map awaited_view l.names) ≡ inputs_view l.inputs.items ++ map awaited_input (map awaited_view (drop l.name-index l.names))
