use Rattle.language_laws.proofs.Scripts.{twice_at_first, twice_at_second}
use Rattle.language_laws.proofs.examples.each_of_two_writers_is_at_fault.Goals as goal

pub returns : goal.returns
returns c = ((3, (2, twice_at_first)), (7, (2, twice_at_second)))
