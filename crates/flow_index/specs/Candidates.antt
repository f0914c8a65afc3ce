-- The statements at an offset that can be blocked.
use Rattle.std.specs.Prelude.{ℕ, Bool, true, false, ◌&&◌, nat_eq, List, [], ◌∷◌, filter, Option, Some, None}
use Rattle.language.specs.Core.{Stmt, Action, declare, call_alone}
use Rattle.language.specs.Parts.{stmt_action, stmt_at}

-- neither a declaration nor a call alone (docs/LANGUAGE.md, Blocked statements)
abbrev pub can_be_blocked : Action → Bool
can_be_blocked (declare v) = false
can_be_blocked (call_alone p ps c) = false
can_be_blocked _ = true

abbrev pub is_candidate : ℕ → Stmt → Bool
is_candidate at st = nat_eq at (stmt_at st) && can_be_blocked (stmt_action st)

-- those of these statements that are at the offset and can be blocked
abbrev pub candidates : ℕ → List Stmt → List Stmt
candidates at ss = filter (is_candidate at) ss

-- the only element of a list
abbrev pub only : List Stmt → Option Stmt
only [] = None
only (st ∷ []) = Some st
only (st ∷ u ∷ ss) = None
