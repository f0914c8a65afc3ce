use Rattle.language_accepted.proofs.Accepted.{values_known, values_meant}
use Rattle.language_accepted.proofs.accepted_values.Goals as goal

pub returns-clause-rounds : goal.returns-clause-rounds
returns-clause-rounds g = λ t tree p w n. values_known t tree p w n

pub returns-clause-ever : goal.returns-clause-ever
returns-clause-ever g = λ t tree p w. values_meant t tree p w
