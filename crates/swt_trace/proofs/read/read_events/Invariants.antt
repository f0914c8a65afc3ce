use Rattle.std.proofs.Common.{◌≡◌, ◌≤◌, length, All}
use Rattle.swt_trace.specs.Trace.{IsInRange, event_lines, max_events}
use Rattle.swt_trace.proofs.read.read_events.Given as goal

abbrev pub invariant-loop-rest : goal.invariant-loop-rest
invariant-loop-rest l = record {
  text : l.bytes ≡ event_lines l.events.items l.rest;
  in_range : All IsInRange l.events.items;
  few : length l.events.items ≤ max_events;
}

abbrev pub decreases-loop-rest : goal.decreases-loop-rest
decreases-loop-rest l = length l.rest
