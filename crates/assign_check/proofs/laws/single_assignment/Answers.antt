use Rattle.assign_check.proofs.Law.{singly_assigned, without_fault}
use Rattle.assign_check.proofs.laws.single_assignment.Goals as goal

pub returns-clause-no_fault : goal.returns-clause-no_fault
returns-clause-no_fault c = singly_assigned

pub returns-clause-single : goal.returns-clause-single
returns-clause-single c = without_fault
