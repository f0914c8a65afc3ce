use Rattle.std.proofs.Common.{◌≡◌, ◌++◌, drop}
use Rattle.meaning_cells.specs.Listed.{outers_listed}
use Rattle.explain_inputs.specs.Inputs.{inputs_view, outers_inputs}
use Rattle.explain_inputs.proofs.input.add_outers.Given as goal

abbrev pub invariant-loop-outer : goal.invariant-loop-outer
invariant-loop-outer g l =
    inputs_view l.initial.inputs.items ++ outers_inputs (outers_listed l.outers) ≡ inputs_view l.inputs.items ++ outers_inputs (outers_listed (drop l.outer-index l.outers))
