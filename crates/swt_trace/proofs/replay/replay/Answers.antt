use Rattle.std.proofs.Common.{subst, sym}
use Rattle.board_runs.specs.declared.report.Report.{Report}
use Rattle.board_runs.specs.Same.{SameReport}
use Rattle.swt_trace.proofs.replay.replay.Goals as goal

pub returns-in-Ok-clause-again : goal.returns-in-Ok-clause-again
returns-in-Ok-clause-again c = λ r t. subst (λ (s : Report). SameReport r s) (sym c.into_report.ensures) (c.in-Ok.ensures.again r t)
