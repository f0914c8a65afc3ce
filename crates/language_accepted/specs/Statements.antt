-- Distinctness of statement numbers in the core of each script: they differ from those of cells and of other
-- statements.
use Rattle.std.specs.Prelude.{◌≡◌, ◌≢◌, ◌⊎◌}
use Rattle.language.specs.Core.{Cell, Stmt, Action, declare, Core}
use Rattle.language.specs.Members.{◌∈◌}
use Rattle.language.specs.Parts.{cells, script_stmts, stmt_action, stmt_node}

abbrev pub IsDeclaration : Action → Type 0
IsDeclaration (declare v) = Unit {0}
IsDeclaration a = ⊥

pub record StmtsApart (s : Core) : Type 0 where
  pub no_cell : (st x : Stmt) (c : Cell) → st ∈ script_stmts s → x ∈ script_stmts s → c ∈ cells st → stmt_node x ≢ c.node
  -- a declaration with a right side is two statements with one number
  pub once : (st x : Stmt) → st ∈ script_stmts s → x ∈ script_stmts s → stmt_node st ≡ stmt_node x → (IsDeclaration (stmt_action st) ⊎ IsDeclaration (stmt_action x)) ⊎ (st ≡ x)
