use Rattle.dataflow.specs.Names.{named_start}
use Rattle.dataflow.proofs.Naming.{forget_names, named_step}
use Rattle.task_code.specs.System.{code_system}
use Rattle.task_code.proofs.Kept.{code_laws}
use Rattle.compile.proofs.laws.every_naming_of_scripts.Goals as goal

pub returns-clause-agrees : goal.returns-clause-agrees
returns-clause-agrees g c = λ src code w clean es st x. (w.headline).agrees clean es st.state (forget_names (code_system code) _ es (named_start (code_system code) _) st x)

pub returns-clause-all : goal.returns-clause-all
returns-clause-all g c = λ src code w es st x quiet. (w.headline).all es st.state (forget_names (code_system code) _ es (named_start (code_system code) _) st x) quiet

pub returns-clause-found : goal.returns-clause-found
returns-clause-found g c = λ src code w fresh is_fresh old was e new x. named_step (code_system code) (code_laws code w.whole) _ fresh is_fresh old was e new x
