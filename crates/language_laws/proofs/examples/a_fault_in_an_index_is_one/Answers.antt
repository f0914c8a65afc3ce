use Rattle.language_laws.proofs.Scripts.{index_fault}
use Rattle.language_laws.proofs.examples.a_fault_in_an_index_is_one.Goals as goal

pub returns : goal.returns
returns c = (26, (1, index_fault))
