use Rattle.swt_command.specs.Files.{contents}
use Rattle.swt_command.proofs.Refused.{unfit_stops}
use Rattle.swt_command.proofs.passes.text_after.Goals as goal

pub returns-in-Err : goal.returns-in-Err
returns-in-Err c =
    (c.at_script.ensures.place, unfit_stops (contents c.args.files.now) c.in_ok-source.source.now c.in-Err.fault c.at_script.result.trouble c.in_ok-source.ensures c.at_script.ensures.trouble c.in-Err.ensures.unfit)
