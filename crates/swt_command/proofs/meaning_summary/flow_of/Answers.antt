use Rattle.std.proofs.Common.{sym}
use Rattle.swt_command.specs.Files.{contents}
use Rattle.swt_command.proofs.Refused.{unfit_stops}
use Rattle.swt_command.proofs.meaning_summary.flow_of.Goals as goal

pub returns-in-Err : goal.returns-in-Err
returns-in-Err c =
    (c.at_script.ensures.place, unfit_stops (contents c.args.files.now) c.in_ok-source.source.now c.in-Err.fault c.at_script.result.trouble c.in_ok-source.ensures c.at_script.ensures.trouble c.in-Err.ensures.unfit)

pub returns-in-Ok : goal.returns-in-Ok
returns-in-Ok c =
    let w = c.in-Ok.ensures.flow in
    (c.in_ok-source.source.now, c.in_ok-source.ensures, record { table = w.0; tree = w.1; accepted = w.2; is = sym w.3.core_is })
