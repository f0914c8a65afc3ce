use Rattle.swt_status.proofs.Refused.{is_unfit}
use Rattle.swt_status.proofs.verdict.verdict.Goals as goal

pub returns-in-Some : goal.returns-in-Some
returns-in-Some g c = is_unfit c.args.source.now c.in-Err.fault c.in-Some.refusal c.in-Some.ensures c.in-Err.ensures.unfit
