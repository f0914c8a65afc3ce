use Rattle.std.proofs.Common.{take}
use Rattle.flow.specs.View.{exprs_view}
use Rattle.code_rules.specs.CodeNames.{wanted_all}
use Rattle.code_rules.specs.Room.{ExprsRoom}
use Rattle.emit_cells.specs.PlainNeeds.{Notes}
use Rattle.emit_cells.proofs.needs.+note.Given as goal

abbrev pub invariant-note_all-loop-expr : goal.invariant-note_all-loop-expr
invariant-note_all-loop-expr g l = ExprsRoom l.inputs (exprs_view l.exprs.items) → Notes l.fn.needs.keys l.needs.keys (wanted_all l.inputs (exprs_view (take l.expr-index l.exprs.items)))
