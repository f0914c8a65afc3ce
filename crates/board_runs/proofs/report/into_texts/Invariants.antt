use Rattle.std.proofs.Common.{◌≡◌, ◌++◌, map}
use Rattle.std.specs.Vec.Iter.{into_iter_items}
use Rattle.board_runs.specs.Report.{line_bytes}
use Rattle.board_runs.proofs.report.into_texts.Given as goal

abbrev pub invariant-loop-line : goal.invariant-loop-line
invariant-loop-line l = map line_bytes l.fn.lines.items ≡ l.texts.items ++ map line_bytes (into_iter_items l.line-iterator)
