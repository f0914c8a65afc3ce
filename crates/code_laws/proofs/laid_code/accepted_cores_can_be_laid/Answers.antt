use Rattle.code_laws.proofs.Accepted.{accepted_cells}
use Rattle.code_laws.proofs.IndexParts.{reads_stand}
use Rattle.code_laws.proofs.laid_code.accepted_cores_can_be_laid.Goals as goal

pub returns-clause-cells : goal.returns-clause-cells
returns-clause-cells g = accepted_cells

pub returns-clause-reads : goal.returns-clause-reads
returns-clause-reads g = reads_stand
