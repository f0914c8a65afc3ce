use Rattle.std.specs.Prelude.{refl}
use Rattle.task_code.specs.Worked.{assigned_twice, loop_without_right, one_output_twice, name_undeclared, assigned_in_loop, loop_variable_assigned, entry_twice, opened_by_another, scalar_filled, calls_without_right}
use Rattle.task_code.proofs.Decided.{not_whole}
use Rattle.task_code.proofs.bad_code.Goals as goal

pub returns-clause-assigned_twice : goal.returns-clause-assigned_twice
returns-clause-assigned_twice g = λ I. not_whole assigned_twice I refl

pub returns-clause-loop_without_right : goal.returns-clause-loop_without_right
returns-clause-loop_without_right g = λ I. not_whole loop_without_right I refl

pub returns-clause-one_output_twice : goal.returns-clause-one_output_twice
returns-clause-one_output_twice g = λ I. not_whole one_output_twice I refl

pub returns-clause-name_undeclared : goal.returns-clause-name_undeclared
returns-clause-name_undeclared g = λ I. not_whole name_undeclared I refl

pub returns-clause-assigned_in_loop : goal.returns-clause-assigned_in_loop
returns-clause-assigned_in_loop g = λ I. not_whole assigned_in_loop I refl

pub returns-clause-loop_variable_assigned : goal.returns-clause-loop_variable_assigned
returns-clause-loop_variable_assigned g = λ I. not_whole loop_variable_assigned I refl

pub returns-clause-entry_twice : goal.returns-clause-entry_twice
returns-clause-entry_twice g = λ I. not_whole entry_twice I refl

pub returns-clause-opened_by_another : goal.returns-clause-opened_by_another
returns-clause-opened_by_another g = λ I. not_whole opened_by_another I refl

pub returns-clause-scalar_filled : goal.returns-clause-scalar_filled
returns-clause-scalar_filled g = λ I. not_whole scalar_filled I refl

pub returns-clause-calls_without_right : goal.returns-clause-calls_without_right
returns-clause-calls_without_right g = λ I. not_whole calls_without_right I refl
