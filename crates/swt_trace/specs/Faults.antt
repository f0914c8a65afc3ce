-- The errors of reading a trace as errors of replaying it.
use Rattle.swt_trace.specs.declared.fault.ReplayFault.{ReplayFault}
use Rattle.swt_trace.specs.declared.fault.ReplayFault.TheVariants as Replay
use Rattle.swt_trace.specs.declared.fault.TraceError.{TraceError}
use Rattle.swt_trace.specs.declared.fault.TraceError.TheVariants as Trace

abbrev pub replay_fault : TraceError → ReplayFault
replay_fault (Trace.BadLine n) = Replay.BadLine n
replay_fault Trace.Memory = Replay.Memory
