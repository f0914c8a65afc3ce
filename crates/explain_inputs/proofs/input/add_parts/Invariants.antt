use Rattle.std.proofs.Common.{◌≡◌, ◌++◌, drop}
use Rattle.flow.specs.View.{parts_view}
use Rattle.explain_inputs.specs.Inputs.{inputs_view, parts_inputs}
use Rattle.explain_inputs.proofs.input.add_parts.Given as goal

abbrev pub invariant-loop-part : goal.invariant-loop-part
invariant-loop-part g l =
    inputs_view l.initial.inputs.items ++ parts_inputs (parts_view l.parts) ≡ inputs_view l.inputs.items ++ parts_inputs (parts_view (drop l.part-index l.parts))
