use Rattle.language_laws.proofs.Passing as passing
use Rattle.language_laws.proofs.examples.the_examples_keep_the_premises.Goals as goal

pub returns-clause-read_before_assignment : goal.returns-clause-read_before_assignment
returns-clause-read_before_assignment c = passing.read_before_assignment

pub returns-clause-loop_reads_what_it_writes : goal.returns-clause-loop_reads_what_it_writes
returns-clause-loop_reads_what_it_writes c = passing.loop_reads_what_it_writes

pub returns-clause-key_written_twice : goal.returns-clause-key_written_twice
returns-clause-key_written_twice c = passing.key_written_twice

pub returns-clause-missing_element : goal.returns-clause-missing_element
returns-clause-missing_element c = passing.missing_element

pub returns-clause-circle : goal.returns-clause-circle
returns-clause-circle c = passing.circle

pub returns-clause-fault_beside_unknown : goal.returns-clause-fault_beside_unknown
returns-clause-fault_beside_unknown c = passing.fault_beside_unknown

pub returns-clause-fault_in_index : goal.returns-clause-fault_in_index
returns-clause-fault_in_index c = passing.fault_in_index

pub returns-clause-strict_and : goal.returns-clause-strict_and
returns-clause-strict_and c = passing.strict_and

pub returns-clause-too_large : goal.returns-clause-too_large
returns-clause-too_large c = passing.too_large

pub returns-clause-outputs_are_the_callers : goal.returns-clause-outputs_are_the_callers
returns-clause-outputs_are_the_callers c = passing.outputs_are_the_callers

pub returns-clause-calls_without_end : goal.returns-clause-calls_without_end
returns-clause-calls_without_end c = passing.calls_without_end

pub returns-clause-nested_waits : goal.returns-clause-nested_waits
returns-clause-nested_waits c = passing.nested_waits

pub returns-clause-filled_in_a_call : goal.returns-clause-filled_in_a_call
returns-clause-filled_in_a_call c = passing.filled_in_a_call

pub returns-clause-fibonacci : goal.returns-clause-fibonacci
returns-clause-fibonacci c = passing.fibonacci
