use Rattle.language_laws.proofs.Stuck.{beside_nothing, beside_blocked}
use Rattle.language_laws.proofs.examples.a_fault_beside_an_unknown_part_is_none.Goals as goal

pub returns : goal.returns
returns c = (beside_nothing, beside_blocked)
