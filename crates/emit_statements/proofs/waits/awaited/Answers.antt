use Rattle.task_code.specs.View as code_view
use Rattle.emit_statements.proofs.Merged.{array_awaited, scalar_awaited}
use Rattle.emit_statements.proofs.waits.awaited.Goals as goal

pub returns-in-Array : goal.returns-in-Array
returns-in-Array c room = array_awaited c.args.inputs c.args.name (code_view.name_view c.named.result) c.in-Array.is c.named.ensures room

pub returns-in-Scalar : goal.returns-in-Scalar
returns-in-Scalar c room = scalar_awaited c.args.inputs c.args.name (code_view.name_view c.named-in-Scalar.result) c.in-Scalar.is c.named-in-Scalar.ensures room
