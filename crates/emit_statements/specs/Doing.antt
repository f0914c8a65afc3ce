-- The use that a statement makes of the value of its own entry.
use Rattle.std.specs.Prelude.{ℤ}
use Rattle.language.specs.Core.{Action, Outer, assign, fill, print, assert}
use Rattle.flow.specs.View.{name_view}
use Rattle.emit_statements.specs.declared.own.ValueUse.{ValueUse}
use Rattle.emit_statements.specs.declared.own.ValueUse.TheVariants as Uses

-- the action with this priority
abbrev pub action_of : ValueUse → ℤ → Outer → Action
action_of (Uses.Set x) p o = assign (name_view x) o
action_of (Uses.Fill a) p o = fill (name_view a) o
action_of Uses.Print p o = print p o
action_of Uses.Assert p o = assert p o
