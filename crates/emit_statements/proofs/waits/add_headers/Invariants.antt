use Rattle.std.proofs.Common.{◌≡◌, ◌++◌, map, take}
use Rattle.task_code.specs.View as code_view
use Rattle.emit_statements.specs.Blocks.{InnerRoom, inner_headers}
use Rattle.emit_statements.proofs.waits.add_headers.Given as goal

abbrev pub invariant-loop-merged : goal.invariant-loop-merged
invariant-loop-merged g l = InnerRoom l.inputs l.inner.items → map code_view.header_view l.headers.items ≡ map code_view.header_view l.fn.headers.items ++ inner_headers l.inputs (take l.merged-index l.inner.items)
