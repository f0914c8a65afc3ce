use Rattle.std.proofs.Common.{◌≡◌, ◌++◌, take}
use Rattle.std.specs.List.{flat_map}
use Rattle.swt_trace.specs.Report.{blocked_line}
use Rattle.swt_trace.proofs.report.write_blocked.Given as goal

abbrev pub invariant-loop-statement : goal.invariant-loop-statement
invariant-loop-statement g l = record {
  taken : g.W.Sink.taken l.sink ≡ g.W.Sink.taken l.fn.sink ++ flat_map blocked_line (take l.statement-index l.blocked.items);
  failures : g.W.Sink.failures l.sink ≡ g.W.Sink.failures l.fn.sink;
}
