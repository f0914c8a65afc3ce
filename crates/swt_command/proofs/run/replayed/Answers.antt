use Rattle.swt_status.specs.declared.stop.CommandStop.{CommandStop}
use Rattle.swt_command.specs.Files.{contents}
use Rattle.swt_command.specs.Runs.{Replayed, StopsBeforeReplay}
use Rattle.swt_command.proofs.Stops.{at_script, handed_on, no_trace, run_again}
use Rattle.swt_command.proofs.run.replayed.Goals as goal

pub returns-in_err-code : goal.returns-in_err-code
returns-in_err-code c =
    handed_on (Replayed (contents c.args.files.now)) (λ (stop : CommandStop). StopsBeforeReplay (contents c.args.files.now) stop.place stop.trouble)
    c.from_residual.result c.in_err-code.field-0.0 c.from_residual.ensures.1
    (at_script (contents c.args.files.now) c.in_err-code.field-0.0 c.in_err-code.ensures.0 c.in_err-code.ensures.1)

pub returns-in_err-trace : goal.returns-in_err-trace
returns-in_err-trace c =
    handed_on (Replayed (contents c.args.files.now)) (λ (stop : CommandStop). StopsBeforeReplay (contents c.args.files.now) stop.place stop.trouble)
    c.from_residual-in_err-trace.result c.in_err-trace.field-0.0 c.from_residual-in_err-trace.ensures.1
    (no_trace (contents c.args.files.now) c.in_ok-code.code c.in_err-trace.field-0.0 c.in_ok-code.ensures c.in_err-trace.ensures.0 c.in_err-trace.ensures.1 c.in_err-trace.ensures.2)

pub returns : goal.returns
returns c =
    run_again (contents c.args.files.now) c.in_ok-code.code c.in_ok-trace.trace.now c.report_of_trace.result c.in_ok-code.ensures c.in_ok-trace.ensures c.report_of_trace.ensures
