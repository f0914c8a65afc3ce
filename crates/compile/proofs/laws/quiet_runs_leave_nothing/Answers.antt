use Rattle.compile.proofs.Left.{blocked, no_data, no_items}
use Rattle.compile.proofs.laws.quiet_runs_leave_nothing.Goals as goal

pub returns-clause-blocked : goal.returns-clause-blocked
returns-clause-blocked g = λ src C w events st run quiet i there. blocked src C w events st run quiet i there

pub returns-clause-items : goal.returns-clause-items
returns-clause-items g = λ src C w events st run quiet none. no_items src C w events st run quiet none

pub returns-clause-data : goal.returns-clause-data
returns-clause-data g = λ src C w events st run quiet none tidy. no_data src C w events st run quiet none tidy
