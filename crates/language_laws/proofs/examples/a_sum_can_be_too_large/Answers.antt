use Rattle.language_laws.proofs.Scripts.{sum_fault}
use Rattle.language_laws.proofs.examples.a_sum_can_be_too_large.Goals as goal

pub returns : goal.returns
returns c = (3, (1, sum_fault))
