-- The values of the outermost cells of a statement, as other entries read them.
use Rattle.std.specs.Prelude.{None}
use Rattle.language.specs.Core.{Expr, Outer}
use Rattle.code_rules.specs.IsCodeOf.{seen_as}
use Rattle.code_rules.specs.Laying.{plain_after}
use Rattle.emit_cells.specs.Before.{last_of}

-- the expression of a plain cell, or else its datum
abbrev pub seen_last : Outer → Expr
seen_last o = seen_as (plain_after (last_of None o.parts) o.cell.form) o.cell.node o.cell.form
