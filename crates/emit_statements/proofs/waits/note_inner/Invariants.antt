use Rattle.std.proofs.Common.{take}
use Rattle.std.specs.List.{flat_map}
use Rattle.emit_cells.specs.PlainNeeds.{Notes}
use Rattle.emit_statements.specs.Blocks.{InnerRoom, inner_headers}
use Rattle.emit_statements.proofs.waits.note_inner.Given as goal

abbrev pub invariant-loop-merged : goal.invariant-loop-merged
invariant-loop-merged g l = InnerRoom l.inputs l.inner.items → Notes l.fn.needs.keys l.needs.keys (flat_map (λ h. h.needs) (inner_headers l.inputs (take l.merged-index l.inner.items)))
