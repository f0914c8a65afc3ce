-- How the report of a run, and its printed text, relate to the meaning of the script.
use Rattle.std.specs.Prelude.{◌≡◌, ℕ, List}
use Rattle.dataflow.specs.System.{In}
use Rattle.language.specs.Core.{Core}
use Rattle.language.specs.Facts as Facts
use Rattle.language.specs.Meaning.{Meaning}
use Rattle.language.specs.Outcomes.{Blocked, Clean, Faults, Lines}
use Rattle.language.specs.Places.{Path}
use Rattle.task_code.specs.Places.{Step}
use Rattle.headline.specs.Headline.{PartOfLines, script_path, script_fault}
use Rattle.paths.specs.declared.faults.Fault.{Fault}
use Rattle.paths.specs.declared.statements.StatementInstance.{StatementInstance}
use Rattle.board.specs.Blocked.{InTextOrder, path_of}
use Rattle.board_effects.specs.Effects.{kind_of_fault}
use Rattle.board_runs.specs.declared.report.End.TheVariants as Was
use Rattle.board_runs.specs.declared.report.Report.{Report}
use Rattle.swt_trace.specs.Report.{ReportText}
use Rattle.swt_command.specs.Files.{Files, HasScript}
use Rattle.swt_command.specs.Sinks.{Held, Took}

-- the script has no fault; the report has exactly its lines, in some order, and exactly its blocked statements, in text
-- order
pub record IsWhole (s : Core) (r : Report) : Type 0 where
  pub no_fault : (f : Facts.Fault) (at : ℕ) (path : Path) → Faults (Meaning s) f at path → ⊥
  pub lines : Lines (Meaning s) r.lines.items
  pub blocked : (t : StatementInstance) → In t r.blocked.items → Blocked s (Meaning s) t.at (script_path (path_of t))
  pub blocked_all : (at : ℕ) (path : List Step) → Blocked s (Meaning s) at (script_path path) → (t : StatementInstance) × In t r.blocked.items × (t.at ≡ at) × (path_of t ≡ path)
  pub order : InTextOrder r.blocked.items

-- the fault is among the script's faults, at its statement
abbrev pub IsScriptFault : Core → Fault → Type 0
IsScriptFault s f = Faults (Meaning s) (script_fault (kind_of_fault f.kind)) f.statement.at (script_path (path_of f.statement))

-- a report that ends quiet is whole; if no key is written twice, the lines of any report are a part of the script's,
-- and the fault in which it ends is among the script's
pub record IsMeant (s : Core) (r : Report) : Type 0 where
  pub whole : r.end ≡ Was.Quiet → IsWhole s r
  pub part : Clean s → PartOfLines (Meaning s) r.lines.items
  pub fault : Clean s → (f : Fault) → r.end ≡ Was.Fault f → IsScriptFault s f

-- the report agrees with the meaning of the script of the first file
abbrev pub IsMeantBy : Files → Report → Type 0
IsMeantBy files r = (s : Core) × HasScript files 0 s × IsMeant s r

-- the text was printed of a report that ends quiet and has all that the first file's script means
abbrev pub PrintsWhole : Files → (out new : Held) → Type 0
PrintsWhole files out new = (s : Core) × HasScript files 0 s × ((r : Report) × (r.end ≡ Was.Quiet) × IsWhole s r × Took out (ReportText r) new)
