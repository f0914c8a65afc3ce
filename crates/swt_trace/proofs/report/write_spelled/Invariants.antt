use Rattle.std.proofs.Common.{◌≡◌, ◌++◌, take}
use Rattle.std.specs.List.{flat_map}
use Rattle.swt_trace.specs.Report.{spelled}
use Rattle.swt_trace.proofs.report.write_spelled.Given as goal

abbrev pub invariant-loop-byte : goal.invariant-loop-byte
invariant-loop-byte g l = record {
  taken : g.W.Sink.taken l.sink ≡ g.W.Sink.taken l.fn.sink ++ flat_map spelled (take l.byte-index l.bytes);
  failures : g.W.Sink.failures l.sink ≡ g.W.Sink.failures l.fn.sink;
}
