use Rattle.swt_command.specs.Sinks.{held}
use Rattle.swt_process.proofs.Denying.{undenied}
use Rattle.swt_process.proofs.each.check_files.Goals as goal

pub returns-clause-ran : goal.returns-clause-ran
returns-clause-ran g c =
    let ran = c.check_all.ensures.ran in
    undenied c.args.names.now (g.H.Host.history c.check_all.new.host) (held (g.O.Sink.taken c.args.out.now) (g.O.Sink.failures c.args.out.now))
    (held (g.O.Sink.taken c.check_all.new.out) (g.O.Sink.failures c.check_all.new.out)) (held (g.E.Sink.taken c.args.err.now) (g.E.Sink.failures c.args.err.now)) ran.1
    (held (g.E.Sink.taken c.check_all.new.err) (g.E.Sink.failures c.check_all.new.err)) ran.0 c.check_all.result ran.2 ran.3
