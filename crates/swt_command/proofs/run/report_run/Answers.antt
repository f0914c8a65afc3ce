use Rattle.std.proofs.Common.{refl, sym, ap, subst, Err}
use Rattle.swt_status.specs.declared.failure.CommandFailure.{CommandFailure}
use Rattle.swt_command.specs.Files.{contents}
use Rattle.swt_command.specs.Runs.{StopsBeforeRun}
use Rattle.swt_command.proofs.Stops.{no_report}
use Rattle.swt_command.proofs.run.report_run.Goals as goal

pub returns : goal.returns
returns g c = (
  refl,
  subst (λ (t : CommandFailure). StopsBeforeRun (contents c.args.files.now) c.args.engines c.args.workers t) (sym c.trouble_of.ensures)
      (no_report (contents c.args.files.now) c.args.engines c.args.workers c.in_ok-program.program c.in-Err.fault c.in_ok-program.ensures
      (λ bad. c.in-Err.ensures.count.0 (ap Err bad))),
)
