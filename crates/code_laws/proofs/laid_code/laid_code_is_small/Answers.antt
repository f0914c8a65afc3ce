use Rattle.code_laws.proofs.Bodies.{few_bodies}
use Rattle.code_laws.proofs.Small.{laid_small}
use Rattle.code_laws.proofs.laid_code.laid_code_is_small.Goals as goal

pub returns-clause-bodies : goal.returns-clause-bodies
returns-clause-bodies g = few_bodies

pub returns-clause-entries : goal.returns-clause-entries
returns-clause-entries g = laid_small
