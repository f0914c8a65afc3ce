-- Reports with the same content, of any code, and the text that two commands print.
use Rattle.std.specs.Prelude.{◌≡◌, ◌⊎◌, ℕ, List, map}
use Rattle.board_runs.specs.declared.report.Report.{Report}
use Rattle.board_runs.specs.Same.{SameEnd, place_view}
use Rattle.swt_command.specs.Sinks.{Held, Took}
use Rattle.task_code.specs.Code.{Code}

-- the same report with other code
abbrev pub of_code : Code → Report → Report
of_code D r = record { program = D; history = r.history; lines = r.lines; end = r.end; blocked = r.blocked; tallies = r.tallies }

-- the contents of two reports are the same, except for the code
pub record TellSame (r s : Report) : Type 0 where
  pub history : r.history.items ≡ s.history.items
  pub lines : r.lines.items ≡ s.lines.items
  pub end : SameEnd r.end s.end
  pub blocked : map place_view r.blocked.items ≡ map place_view s.blocked.items
  pub tallies : r.tallies ≡ s.tallies

-- the statuses of a command that has printed a report: quiet, a fault, blocked, the limit
abbrev pub IsOfReport : ℕ → Type 0
IsOfReport n = (n ≡ 0) ⊎ ((n ≡ 3) ⊎ ((n ≡ 4) ⊎ (n ≡ 5)))

-- both sinks received the same text
pub record PrintOneText (out out_new again again_new : Held) : Type 0 where
  pub text : List ℕ
  pub first : Took out text out_new
  pub second : Took again text again_new
