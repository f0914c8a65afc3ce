use Rattle.wait_merge.proofs.Forms.{not_wait}
use Rattle.wait_merge.proofs.statement.is_wait.Goals as goal

pub returns-in_default : goal.returns-in_default
returns-in_default g c = not_wait g.row.A.Denot c.args.action.now c.in_default.not-Wait
