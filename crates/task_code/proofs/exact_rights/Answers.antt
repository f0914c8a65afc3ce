use Rattle.std.specs.Prelude.{refl}
use Rattle.task_code.specs.Worked.{hello, used_before_assigned, filled_by_loop, key_written_twice, fibonacci, filled_by_call, filled_without_end, several_outputs, called_everywhere, right_without_use}
use Rattle.task_code.proofs.Checked.{code_checked}
use Rattle.task_code.proofs.Exactly.{reads_led, writes_led, exact_checked, has_no_use}
use Rattle.task_code.proofs.exact_rights.Goals as goal

pub returns-clause-reads : goal.returns-clause-reads
returns-clause-reads g = λ C I i r l. reads_led C I i r l

pub returns-clause-writes : goal.returns-clause-writes
returns-clause-writes g = λ C I i r l. writes_led C I i r l

pub returns-clause-tested : goal.returns-clause-tested
returns-clause-tested g = λ C depth h. exact_checked C depth h

pub returns-clause-hello : goal.returns-clause-hello
returns-clause-hello g = exact_checked hello 2 refl

pub returns-clause-used_before_assigned : goal.returns-clause-used_before_assigned
returns-clause-used_before_assigned g = exact_checked used_before_assigned 2 refl

pub returns-clause-filled_by_loop : goal.returns-clause-filled_by_loop
returns-clause-filled_by_loop g = exact_checked filled_by_loop 2 refl

pub returns-clause-key_written_twice : goal.returns-clause-key_written_twice
returns-clause-key_written_twice g = exact_checked key_written_twice 2 refl

pub returns-clause-fibonacci : goal.returns-clause-fibonacci
returns-clause-fibonacci g = exact_checked fibonacci 2 refl

pub returns-clause-filled_by_call : goal.returns-clause-filled_by_call
returns-clause-filled_by_call g = exact_checked filled_by_call 2 refl

pub returns-clause-right_without_use : goal.returns-clause-right_without_use
returns-clause-right_without_use g = (code_checked right_without_use refl, has_no_use)

pub returns-clause-filled_without_end : goal.returns-clause-filled_without_end
returns-clause-filled_without_end g = exact_checked filled_without_end 3 refl

pub returns-clause-several_outputs : goal.returns-clause-several_outputs
returns-clause-several_outputs g = exact_checked several_outputs 5 refl

pub returns-clause-called_everywhere : goal.returns-clause-called_everywhere
returns-clause-called_everywhere g = exact_checked called_everywhere 4 refl
