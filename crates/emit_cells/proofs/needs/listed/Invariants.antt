use Rattle.std.proofs.Common.{◌≡◌, map, take}
use Rattle.task_code.specs.View as code_view
use Rattle.emit_cells.specs.PlainNeeds.{need_of}
use Rattle.emit_cells.proofs.needs.listed.Given as goal

abbrev pub invariant-loop-number : goal.invariant-loop-number
invariant-loop-number l = map code_view.need_view l.found.items ≡ map need_of (take l.number l.needs.keys)
