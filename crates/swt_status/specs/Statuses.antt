-- The exit code of a process, by the status of its command, and the status of a run, by its report.
use Rattle.std.specs.Prelude.{ℕ, List, [], ◌∷◌}
use Rattle.paths.specs.declared.statements.StatementInstance.{StatementInstance}
use Rattle.board_runs.specs.declared.report.End.{End}
use Rattle.board_runs.specs.declared.report.End.TheVariants as Was
use Rattle.board_runs.specs.declared.report.Report.{Report}
use Rattle.swt_status.specs.declared.status.Status.{Status}
use Rattle.swt_status.specs.declared.status.Status.TheVariants.{Done, Refused, Usage, Fault, Blocked, Limit, Memory, Failed}

abbrev pub number_of : Status → ℕ
number_of Done = 0
number_of Refused = 1
number_of Usage = 2
number_of Fault = 3
number_of Blocked = 4
number_of Limit = 5
number_of Memory = 6
number_of Failed = 7

abbrev pub end_status : End → List StatementInstance → Status
end_status (Was.Fault f) blocked = Fault
end_status Was.Quiet [] = Done
end_status Was.Quiet (b ∷ bs) = Blocked
end_status Was.Limit blocked = Limit

-- the status for a report
abbrev pub report_status : Report → Status
report_status r = end_status r.end r.blocked.items
