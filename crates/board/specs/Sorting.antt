-- Removal of consecutive duplicates from a list of statements.
use Rattle.std.specs.Prelude.{◌-◌, Bool, false, List, [], ◌∷◌, ◌++◌, None, Some, length, slice_get, if◌then◌else◌}
use Rattle.paths.specs.declared.statements.StatementInstance.{StatementInstance}
use Rattle.paths.specs.Order.{same_statement}

-- the statement is the last of these
abbrev pub is_last : List StatementInstance → StatementInstance → Bool
is_last found s = elim (slice_get found (length found - 1)) [ None ↦ false | Some t ↦ same_statement s t ]

-- each of the others is appended to these, unless it is the last of them
abbrev pub each_once : List StatementInstance → List StatementInstance → List StatementInstance
each_once found [] = found
each_once found (s ∷ ss) = each_once (if is_last found s then found else found ++ s ∷ []) ss
