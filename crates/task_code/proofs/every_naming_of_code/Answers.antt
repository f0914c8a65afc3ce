use Rattle.dataflow.specs.History.{log_of}
use Rattle.dataflow.specs.Names.{named_start}
use Rattle.dataflow.proofs.Steps.{run_follows}
use Rattle.dataflow.proofs.Headline.{agrees_with, complete}
use Rattle.dataflow.proofs.Naming.{forget_names, named_step}
use Rattle.task_code.specs.System.{code_system}
use Rattle.task_code.proofs.Kept.{code_laws}
use Rattle.task_code.proofs.every_naming_of_code.Goals as goal

pub returns-clause-agrees : goal.returns-clause-agrees
returns-clause-agrees g c = λ C I clean es s x. agrees_with (code_system C) (code_laws C I) s.state (log_of (code_system C) es s.state (forget_names (code_system C) _ es (named_start (code_system C) _) s x)) (run_follows (code_system C) (code_laws C I) es s.state (forget_names (code_system C) _ es (named_start (code_system C) _) s x)) clean

pub returns-clause-complete : goal.returns-clause-complete
returns-clause-complete g c = λ C I es s x q. complete (code_system C) (code_laws C I) s.state (log_of (code_system C) es s.state (forget_names (code_system C) _ es (named_start (code_system C) _) s x)) (run_follows (code_system C) (code_laws C I) es s.state (forget_names (code_system C) _ es (named_start (code_system C) _) s x)) q

pub returns-clause-found : goal.returns-clause-found
returns-clause-found g c = λ C I fresh is_fresh old was e new x. named_step (code_system C) (code_laws C I) _ fresh is_fresh old was e new x
