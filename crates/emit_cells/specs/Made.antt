-- Entries without rights.
use Rattle.std.specs.Prelude.{List, []}
use Rattle.language.specs.Core.{Expr}
use Rattle.task_code.specs.Code.{Act, Cell, Entry, Need}
use Rattle.code_rules.specs.CodeNames.{each_once, over, wanted}
use Rattle.emit_cells.specs.declared.entries.EntryOrigin.{EntryOrigin}
use Rattle.emit_cells.specs.declared.entries.StatementContext.{StatementContext}

abbrev pub made : StatementContext → EntryOrigin → List Need → Act → Entry
made s w ns a = record { node = w.node; at = s.at; offset = w.offset; priority = s.priority; needs = ns; act = a; reads = []; writes = [] }

-- the entry of a cell with a datum, which is the value of an expression
abbrev pub made_cell : StatementContext → EntryOrigin → Expr → Entry
made_cell s w e = made s w (each_once (wanted s.inputs e)) (Cell (over s.inputs (each_once (wanted s.inputs e)) e))
