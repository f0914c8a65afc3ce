-- Reports with equal contents.
use Rattle.std.specs.Prelude.{◌≡◌, ℕ, List, map}
use Rattle.task_code.specs.Places as Places
use Rattle.paths.specs.declared.statements.StatementInstance.{StatementInstance}
use Rattle.board.specs.View.{path_view}
use Rattle.board_runs.specs.declared.report.End.{End}
use Rattle.board_runs.specs.declared.report.End.TheVariants as Ends
use Rattle.board_runs.specs.declared.report.Report.{Report}

-- a statement's offset, and its path from the outermost step on
abbrev pub place_view : StatementInstance → ℕ × List Places.Step
place_view s = (s.at, path_view s.path.items)

-- both quiet, both at the limit, or the same fault at the same statement
abbrev pub SameEnd : End → End → Type 0
SameEnd (Ends.Fault f) (Ends.Fault g) = (f.kind ≡ g.kind) × (place_view f.statement ≡ place_view g.statement)
SameEnd Ends.Quiet Ends.Quiet = Unit {0}
SameEnd Ends.Limit Ends.Limit = Unit {0}
SameEnd _ _ = ⊥

-- all contents are equal
pub record SameReport (r s : Report) : Type 0 where
  pub code : r.program ≡ s.program
  pub history : r.history.items ≡ s.history.items
  pub lines : r.lines.items ≡ s.lines.items
  pub end : SameEnd r.end s.end
  pub blocked : map place_view r.blocked.items ≡ map place_view s.blocked.items
  pub tallies : r.tallies ≡ s.tallies
