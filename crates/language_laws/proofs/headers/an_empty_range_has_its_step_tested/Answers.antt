use Rattle.language_laws.proofs.HeaderScripts.{step_fault}
use Rattle.language_laws.proofs.headers.an_empty_range_has_its_step_tested.Goals as goal

pub returns : goal.returns
returns c = (1, (1, step_fault))
