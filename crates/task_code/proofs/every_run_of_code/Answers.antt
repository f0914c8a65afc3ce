use Rattle.std.specs.Prelude.{ℕ, ◌+◌, ◌*◌, ◌≤◌, length}
use Rattle.std.proofs.Common.{subst}
use Rattle.dataflow.specs.Events.{backs}
use Rattle.dataflow.specs.History.{log_of}
use Rattle.dataflow.proofs.Bound.{events_bound}
use Rattle.dataflow.proofs.Steps.{run_follows}
use Rattle.dataflow.proofs.Numbers.{run_numbered}
use Rattle.dataflow.proofs.Headline.{agrees_with, complete, goes_on}
use Rattle.dataflow.proofs.Keeping.{live_bound}
use Rattle.dataflow.proofs.Ends.{same_end}
use Rattle.dataflow.proofs.Possible.{has_steps}
use Rattle.task_code.specs.System.{code_system}
use Rattle.task_code.proofs.Kept.{code_laws}
use Rattle.task_code.proofs.Blocks.{ever_blocked, blocked_here}
use Rattle.task_code.proofs.Faults.{never_memory}
use Rattle.task_code.proofs.Counted.{all_items, live_in, items_counted}
use Rattle.task_code.proofs.every_run_of_code.Goals as goal

pub returns-clause-agrees : goal.returns-clause-agrees
returns-clause-agrees g = λ C I clean es s x. agrees_with (code_system C) (code_laws C I) s (log_of (code_system C) es s x) (run_follows (code_system C) (code_laws C I) es s x) clean

pub returns-clause-complete : goal.returns-clause-complete
returns-clause-complete g = λ C I es s x q. complete (code_system C) (code_laws C I) s (log_of (code_system C) es s x) (run_follows (code_system C) (code_laws C I) es s x) q

pub returns-clause-goes_on : goal.returns-clause-goes_on
returns-clause-goes_on g = λ C I es s x. goes_on (code_system C) (code_laws C I) s (log_of (code_system C) es s x) (run_follows (code_system C) (code_laws C I) es s x) (run_numbered (code_system C) es s x)

pub returns-clause-bound : goal.returns-clause-bound
returns-clause-bound g = λ C es s x. events_bound (code_system C) es s x

pub returns-clause-bound_by_blocks : goal.returns-clause-bound_by_blocks
returns-clause-bound_by_blocks g = λ C I clean blocks loops hb hl es s x.
    subst (λ (n : ℕ). length es ≤ 2 * (n + backs es)) (items_counted C I clean blocks loops hb hl)
    (live_bound (code_system C) (code_laws C I) clean (all_items C I clean blocks loops hb hl) (λ n t l. live_in C I clean blocks loops hb hl n l) es s x)

pub returns-clause-no_memory_fault : goal.returns-clause-no_memory_fault
returns-clause-no_memory_fault g = λ C I es s x t h. never_memory C s (log_of (code_system C) es s x) (run_follows (code_system C) (code_laws C I) es s x) t h

pub returns-clause-blocked : goal.returns-clause-blocked
returns-clause-blocked g = λ C I es s x q at path.
    let full = complete (code_system C) (code_laws C I) s (log_of (code_system C) es s x) (run_follows (code_system C) (code_laws C I) es s x) q in
    (ever_blocked C I s full at path, blocked_here C I s full at path)

pub returns-clause-steps : goal.returns-clause-steps
returns-clause-steps g = λ C I es s x. has_steps (code_system C) (code_laws C I) s (goes_on (code_system C) (code_laws C I) s (log_of (code_system C) es s x) (run_follows (code_system C) (code_laws C I) es s x) (run_numbered (code_system C) es s x))

pub returns-clause-one_end : goal.returns-clause-one_end
returns-clause-one_end g = λ C I es fs s t x y qs qt. same_end (code_system C) (code_laws C I) s t (log_of (code_system C) es s x) (log_of (code_system C) fs t y) (run_follows (code_system C) (code_laws C I) es s x) (run_follows (code_system C) (code_laws C I) fs t y) qs qt
