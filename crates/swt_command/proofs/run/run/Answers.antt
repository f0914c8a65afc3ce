use Rattle.swt_command.specs.Files.{contents}
use Rattle.swt_command.specs.Sinks.{held}
use Rattle.swt_command.proofs.Stops.{run_traced}
use Rattle.swt_command.proofs.run.run.Goals as goal

pub returns-in-Ok : goal.returns-in-Ok
returns-in-Ok g c =
    run_traced (contents c.args.files.now) c.args.engines c.args.workers c.args.steps c.args.wanted c.in_ok-report.report c.traced.result
    (held (g.O.Sink.taken c.args.out.now) (g.O.Sink.failures c.args.out.now)) (held (g.O.Sink.taken c.write_report.new.sink) (g.O.Sink.failures c.write_report.new.sink))
    (held (g.S.Sink.taken c.args.trace.now) (g.S.Sink.failures c.args.trace.now)) (held (g.S.Sink.taken c.traced.new.trace) (g.S.Sink.failures c.traced.new.trace))
    c.in_ok-report.ensures (c.in-Ok.ensures.ok, c.in-Ok.ensures.none_failed) c.traced.ensures
