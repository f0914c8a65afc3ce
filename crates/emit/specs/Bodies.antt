-- Bodies of blocks.
use Rattle.std.specs.Prelude.{map}
use Rattle.task_code.specs.Code.{Body, Opener}
use Rattle.task_code.specs.View.{variable_view}
use Rattle.emit_statements.specs.declared.block_builder.BlockBuilder.{BlockBuilder}

-- the body of a finished block with this opener
abbrev pub opened_by : Opener → BlockBuilder → Body
opened_by o f = record { opener = o; makes = map variable_view f.makes.items; entries = f.entries.items }
