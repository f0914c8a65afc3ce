use Rattle.std.proofs.Common.{◌≡◌}
use Rattle.swt_command.specs.Files.{contents}
use Rattle.swt_command.specs.Sinks.{held}
use Rattle.swt_command.proofs.Checking.{SoFar}
use Rattle.swt_command.proofs.check.check_files.Given as goal

abbrev pub invariant-loop-place : goal.invariant-loop-place
invariant-loop-place g l = record {
  so_far : SoFar l.names (contents l.files) l.place l.status (held (g.O.Sink.taken l.fn.out) (g.O.Sink.failures l.fn.out)) (held (g.O.Sink.taken l.out) (g.O.Sink.failures l.out));
  failures : g.O.Sink.failures l.out ≡ g.O.Sink.failures l.fn.out;
}
