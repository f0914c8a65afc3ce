-- The value of a variable in a table.
use Rattle.std.specs.Prelude.{Option, Some, None, slice_get}
use Rattle.language.specs.Core.{Owned, local, input, output}
use Rattle.assign_check.specs.declared.summaries.table.VariableTable.{VariableTable}

abbrev pub or_empty : {T : Type 0} → T → Option T → T
or_empty empty None = empty
or_empty empty (Some value) = value

abbrev pub at : {T : Type 0} → VariableTable T → Owned → T
at t (local n) = or_empty t.empty (slice_get t.locals.items n)
at t (input i) = or_empty t.empty (slice_get t.inputs.items i)
at t (output i) = or_empty t.empty (slice_get t.outputs.items i)
