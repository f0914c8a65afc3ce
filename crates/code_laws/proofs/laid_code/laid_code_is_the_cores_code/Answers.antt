use Rattle.code_laws.proofs.Accepted.{accepted_code, accepted_nodes}
use Rattle.code_laws.proofs.laid_code.laid_code_is_the_cores_code.Goals as goal

pub returns-clause-code : goal.returns-clause-code
returns-clause-code g = accepted_code

pub returns-clause-nodes : goal.returns-clause-nodes
returns-clause-nodes g = accepted_nodes
