use Rattle.language_laws.proofs.Printed.{four_eight}
use Rattle.language_laws.proofs.examples.the_outputs_of_a_call_are_the_callers_variables.Goals as goal

pub returns : goal.returns
returns c = four_eight
