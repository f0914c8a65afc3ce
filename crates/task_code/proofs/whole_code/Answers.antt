use Rattle.std.specs.Prelude.{refl}
use Rattle.task_code.specs.Worked.{hello, used_before_assigned, filled_by_loop, key_written_twice, fibonacci, filled_by_call, filled_without_end, several_outputs, called_everywhere}
use Rattle.task_code.proofs.Checked.{code_checked}
use Rattle.task_code.proofs.Decided.{whole_checked}
use Rattle.task_code.proofs.whole_code.Goals as goal

pub returns-clause-tested : goal.returns-clause-tested
returns-clause-tested g = λ C h. code_checked C h

pub returns-clause-passes : goal.returns-clause-passes
returns-clause-passes g = λ C I. whole_checked C I

pub returns-clause-hello : goal.returns-clause-hello
returns-clause-hello g = code_checked hello refl

pub returns-clause-used_before_assigned : goal.returns-clause-used_before_assigned
returns-clause-used_before_assigned g = code_checked used_before_assigned refl

pub returns-clause-filled_by_loop : goal.returns-clause-filled_by_loop
returns-clause-filled_by_loop g = code_checked filled_by_loop refl

pub returns-clause-key_written_twice : goal.returns-clause-key_written_twice
returns-clause-key_written_twice g = code_checked key_written_twice refl

pub returns-clause-fibonacci : goal.returns-clause-fibonacci
returns-clause-fibonacci g = code_checked fibonacci refl

pub returns-clause-filled_by_call : goal.returns-clause-filled_by_call
returns-clause-filled_by_call g = code_checked filled_by_call refl

pub returns-clause-filled_without_end : goal.returns-clause-filled_without_end
returns-clause-filled_without_end g = code_checked filled_without_end refl

pub returns-clause-several_outputs : goal.returns-clause-several_outputs
returns-clause-several_outputs g = code_checked several_outputs refl

pub returns-clause-called_everywhere : goal.returns-clause-called_everywhere
returns-clause-called_everywhere g = code_checked called_everywhere refl
