use Rattle.language_laws.proofs.PassingCores as passing
use Rattle.language_laws.proofs.array_cores.array_cores_keep_the_premises.Goals as goal

pub returns-clause-nobody_writes : goal.returns-clause-nobody_writes
returns-clause-nobody_writes c = passing.nobody_writes_passes

pub returns-clause-waits_for_itself : goal.returns-clause-waits_for_itself
returns-clause-waits_for_itself c = passing.waits_for_itself_passes

pub returns-clause-array_literal : goal.returns-clause-array_literal
returns-clause-array_literal c = passing.array_literal_passes

pub returns-clause-whole_copies : goal.returns-clause-whole_copies
returns-clause-whole_copies c = passing.whole_copies_passes

pub returns-clause-wait_for_array : goal.returns-clause-wait_for_array
returns-clause-wait_for_array c = passing.wait_for_array_passes

pub returns-clause-no_step : goal.returns-clause-no_step
returns-clause-no_step c = passing.no_step_passes

pub returns-clause-headers_without_end : goal.returns-clause-headers_without_end
returns-clause-headers_without_end c = passing.headers_without_end_passes

pub returns-clause-closed_loop : goal.returns-clause-closed_loop
returns-clause-closed_loop c = passing.closed_loop_passes

pub returns-clause-loop_over_array : goal.returns-clause-loop_over_array
returns-clause-loop_over_array c = passing.loop_over_array_passes
