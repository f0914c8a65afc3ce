use Rattle.std.proofs.Common.{map, take}
use Rattle.flow.specs.View.{awaited_view}
use Rattle.code_rules.specs.CodeNames.{awaited_need}
use Rattle.code_rules.specs.Room.{AwaitedRoom, Each}
use Rattle.emit_cells.specs.PlainNeeds.{Notes}
use Rattle.emit_statements.proofs.waits.note_names.Given as goal

abbrev pub invariant-loop-name : goal.invariant-loop-name
invariant-loop-name g l = Each (AwaitedRoom l.inputs) (map awaited_view l.names.items) → Notes l.fn.needs.keys l.needs.keys (map (awaited_need l.inputs) (map awaited_view (take l.name-index l.names.items)))
