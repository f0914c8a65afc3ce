use Rattle.std.proofs.Common.{◌≡◌, Bool, []}
use Rattle.host.specs.Events.{asked, changes, inputs, links, reads}
use Rattle.swt_command.specs.Sinks.{held}
use Rattle.swt_process.specs.Warned.{IsNoted}
use Rattle.swt_process.proofs.InTurn.{Judging}
use Rattle.swt_process.proofs.each.check_each.Given as goal

abbrev pub invariant-loop-place : goal.invariant-loop-place
invariant-loop-place g l = record {
  judging : Judging l.names (reads (g.H.Host.history l.host)) l.place l.status (held (g.O.Sink.taken l.fn.out) (g.O.Sink.failures l.fn.out)) (held (g.O.Sink.taken l.out) (g.O.Sink.failures l.out));
  failures : g.O.Sink.failures l.out ≡ g.O.Sink.failures l.fn.out;
  known : l.known.items ≡ inputs (g.H.Host.history l.host);
  noted : (denies : Bool) → IsNoted denies l.fn.warnings [] → IsNoted denies l.warnings (reads (g.H.Host.history l.host));
  asked : asked (g.H.Host.history l.host) ≡ asked (g.H.Host.history l.fn.host);
  links : links (g.H.Host.history l.host) ≡ links (g.H.Host.history l.fn.host);
  changes : changes (g.H.Host.history l.host) ≡ changes (g.H.Host.history l.fn.host);
}
