use Rattle.std.proofs.Common.{◌≡◌, ◌++◌, take}
use Rattle.std.specs.List.{flat_map}
use Rattle.swt_trace.specs.Report.{step_text}
use Rattle.swt_trace.proofs.report.write_steps.Given as goal

abbrev pub invariant-loop-step : goal.invariant-loop-step
invariant-loop-step g l = record {
  taken : g.W.Sink.taken l.sink ≡ g.W.Sink.taken l.fn.sink ++ flat_map step_text (take l.step-index l.steps.items);
  failures : g.W.Sink.failures l.sink ≡ g.W.Sink.failures l.fn.sink;
}
