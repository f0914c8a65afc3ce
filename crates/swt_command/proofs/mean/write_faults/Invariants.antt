use Rattle.std.proofs.Common.{◌≡◌, ◌++◌, take}
use Rattle.std.specs.List.{flat_map}
use Rattle.swt_trace.specs.Report.{fault_line}
use Rattle.swt_command.proofs.mean.write_faults.Given as goal

abbrev pub invariant-loop-fault : goal.invariant-loop-fault
invariant-loop-fault g l = record {
  taken : g.W.Sink.taken l.sink ≡ g.W.Sink.taken l.fn.sink ++ flat_map fault_line (take l.fault-index l.faults.items);
  failures : g.W.Sink.failures l.sink ≡ g.W.Sink.failures l.fn.sink;
}
