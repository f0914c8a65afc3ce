use Rattle.dataflow.specs.History.{log_of}
use Rattle.dataflow.proofs.Steps.{run_follows}
use Rattle.dataflow.proofs.Known.{answers_are_one}
use Rattle.dataflow.proofs.Keeping.{leads_to, data_kept, data_exact}
use Rattle.dataflow.proofs.Determined.{run_determined}
use Rattle.dataflow.proofs.Counted.{one_newly}
use Rattle.dataflow.proofs.Swept.{step_tidy}
use Rattle.task_code.specs.System.{code_system}
use Rattle.task_code.proofs.Kept.{code_laws}
use Rattle.task_code.proofs.every_state_of_code.Goals as goal

pub returns-clause-answers : goal.returns-clause-answers
returns-clause-answers g = λ C I es s x. answers_are_one (code_system C) (code_laws C I) s (log_of (code_system C) es s x) (run_follows (code_system C) (code_laws C I) es s x)

pub returns-clause-log : goal.returns-clause-log
returns-clause-log g = λ C I es s x. leads_to (code_system C) (code_laws C I) s (log_of (code_system C) es s x) (run_follows (code_system C) (code_laws C I) es s x)

pub returns-clause-determined : goal.returns-clause-determined
returns-clause-determined g = λ C I es s t x y. let r = run_determined (code_system C) (code_laws C I) es s t x y in (r.log_is, r.same)

pub returns-clause-counted : goal.returns-clause-counted
returns-clause-counted g = λ C I es s x. one_newly (code_system C) (code_laws C I) es s x

pub returns-clause-kept : goal.returns-clause-kept
returns-clause-kept g = λ C I es s x. data_kept (code_system C) (code_laws C I) s (log_of (code_system C) es s x) (run_follows (code_system C) (code_laws C I) es s x)

pub returns-clause-exact : goal.returns-clause-exact
returns-clause-exact g = λ C I es s x tidy. data_exact (code_system C) (code_laws C I) s (log_of (code_system C) es s x) (run_follows (code_system C) (code_laws C I) es s x) tidy

pub returns-clause-can_be_tidy : goal.returns-clause-can_be_tidy
returns-clause-can_be_tidy g = λ C I old e new x. step_tidy (code_system C) (code_laws C I) old e new x
