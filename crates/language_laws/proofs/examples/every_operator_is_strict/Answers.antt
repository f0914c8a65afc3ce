use Rattle.language_laws.proofs.Scripts.{and_fault}
use Rattle.language_laws.proofs.examples.every_operator_is_strict.Goals as goal

pub returns : goal.returns
returns c = (3, (1, and_fault))
