use Rattle.language_laws.proofs.Printed.{three}
use Rattle.language_laws.proofs.examples.a_cell_is_read_before_its_assignment.Goals as goal

pub returns : goal.returns
returns c = three
