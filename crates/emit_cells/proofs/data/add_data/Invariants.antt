use Rattle.std.proofs.Common.{◌≡◌, ◌++◌, None, map, take}
use Rattle.flow.specs.View.{parts_view}
use Rattle.task_code.specs.View.{variable_view}
use Rattle.code_rules.specs.Laying.{data_in}
use Rattle.emit_cells.proofs.data.add_data.Given as goal

abbrev pub invariant-loop-at : goal.invariant-loop-at
invariant-loop-at g l = map variable_view l.makes.items ≡ map variable_view l.fn.makes.items ++ data_in None (take l.at (parts_view l.parts.items))
