use Rattle.std.proofs.Common.{rules}
use Rattle.swt_command.specs.Sinks.{held}
use Rattle.swt_process.proofs.Denying.{obeys_check}
use Rattle.swt_process.proofs.request.execute.Goals as goal

pub returns-in-Check-clause-obeys : goal.returns-in-Check-clause-obeys
returns-in-Check-clause-obeys g c =
    obeys_check c.args.request.now c.as_slice.result.now (g.H.Host.history c.check_all-status.new.host) (held (g.O.Sink.taken c.args.out.now) (g.O.Sink.failures c.args.out.now))
    (held (g.O.Sink.taken c.check_all-status.new.out) (g.O.Sink.failures c.check_all-status.new.out)) (held (g.E.Sink.taken c.args.err.now) (g.E.Sink.failures c.args.err.now))
    (held (g.E.Sink.taken c.check_all-status.new.err) (g.E.Sink.failures c.check_all-status.new.err)) c.check_all-status.result (search rules) c.check_all-status.ensures.ran
