use Rattle.std.proofs.Common.{◌≡◌, ◌++◌, map, take}
use Rattle.flow.specs.View.{names_view}
use Rattle.task_code.specs.View.{variable_view}
use Rattle.code_rules.specs.Laying.{output_scalars}
use Rattle.emit_cells.proofs.data.add_outputs.Given as goal

abbrev pub invariant-loop-name : goal.invariant-loop-name
invariant-loop-name g l = map variable_view l.makes.items ≡ map variable_view l.fn.makes.items ++ output_scalars (names_view (take l.name-index l.names.items))
