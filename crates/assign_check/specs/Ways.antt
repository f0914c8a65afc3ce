-- The variables on a control path of the program.
use Rattle.std.specs.Prelude.{List, map}
use Rattle.language.specs.Core.{Owned}
use Rattle.types.specs.Typed.{owned_name}
use Rattle.assign_check.specs.declared.targets.control_path.ControlPath.{ControlPath}

-- the variables that a control path assigns
abbrev pub listed : ControlPath → List Owned
listed w = map owned_name w.list.items
