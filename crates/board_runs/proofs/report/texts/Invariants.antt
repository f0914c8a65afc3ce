use Rattle.std.proofs.Common.{◌≡◌, map, take}
use Rattle.board_runs.specs.Report.{line_bytes}
use Rattle.board_runs.proofs.report.texts.Given as goal

abbrev pub invariant-loop-line : goal.invariant-loop-line
invariant-loop-line l = l.texts.items ≡ map line_bytes (take l.line-index l.lines.items)
