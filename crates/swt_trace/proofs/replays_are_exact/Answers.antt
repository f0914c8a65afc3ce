use Rattle.swt_trace.proofs.Again
use Rattle.swt_trace.proofs.replays_are_exact.Goals as goal

pub returns-clause-no_step : goal.returns-clause-no_step
returns-clause-no_step c = Again.no_step_replayed

pub returns-clause-other_end : goal.returns-clause-other_end
returns-clause-other_end c = Again.wrong_end_replayed

pub returns-clause-steps_first : goal.returns-clause-steps_first
returns-clause-steps_first c = Again.no_step_first
