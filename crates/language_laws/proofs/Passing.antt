-- The cores of the examples pass both tests.
use Rattle.std.specs.Prelude.{refl}
use Rattle.language_laws.specs.ExampleTrees as tree
use Rattle.language.specs.Resolved.{core}
use Rattle.language.specs.Single.{SinglyAssigned}
use Rattle.language.specs.WellFormed.{WellFormed}
use Rattle.language_laws.proofs.TestedNames.{well_formed}
use Rattle.language_laws.proofs.TestedSingle.{singly_assigned}

pub read_before_assignment : WellFormed (core tree.table_of_read_before_assignment tree.tree_of_read_before_assignment) × SinglyAssigned (core tree.table_of_read_before_assignment tree.tree_of_read_before_assignment)
read_before_assignment = (
  well_formed (core tree.table_of_read_before_assignment tree.tree_of_read_before_assignment) (record { nodes_once = refl; writers_once = refl; offsets_once = refl; targets = refl; named = refl; script_body = refl; headers = refl; waits = refl; functions = refl; calls = refl; hidden = refl; fills = refl }),
  singly_assigned (core tree.table_of_read_before_assignment tree.tree_of_read_before_assignment) (record { declared = refl; outputs = refl; inputs = refl; loops = refl }),
)

pub loop_reads_what_it_writes : WellFormed (core tree.table_of_loop_reads_what_it_writes tree.tree_of_loop_reads_what_it_writes) × SinglyAssigned (core tree.table_of_loop_reads_what_it_writes tree.tree_of_loop_reads_what_it_writes)
loop_reads_what_it_writes = (
  well_formed (core tree.table_of_loop_reads_what_it_writes tree.tree_of_loop_reads_what_it_writes) (record { nodes_once = refl; writers_once = refl; offsets_once = refl; targets = refl; named = refl; script_body = refl; headers = refl; waits = refl; functions = refl; calls = refl; hidden = refl; fills = refl }),
  singly_assigned (core tree.table_of_loop_reads_what_it_writes tree.tree_of_loop_reads_what_it_writes) (record { declared = refl; outputs = refl; inputs = refl; loops = refl }),
)

pub key_written_twice : WellFormed (core tree.table_of_key_written_twice tree.tree_of_key_written_twice) × SinglyAssigned (core tree.table_of_key_written_twice tree.tree_of_key_written_twice)
key_written_twice = (
  well_formed (core tree.table_of_key_written_twice tree.tree_of_key_written_twice) (record { nodes_once = refl; writers_once = refl; offsets_once = refl; targets = refl; named = refl; script_body = refl; headers = refl; waits = refl; functions = refl; calls = refl; hidden = refl; fills = refl }),
  singly_assigned (core tree.table_of_key_written_twice tree.tree_of_key_written_twice) (record { declared = refl; outputs = refl; inputs = refl; loops = refl }),
)

pub missing_element : WellFormed (core tree.table_of_missing_element tree.tree_of_missing_element) × SinglyAssigned (core tree.table_of_missing_element tree.tree_of_missing_element)
missing_element = (
  well_formed (core tree.table_of_missing_element tree.tree_of_missing_element) (record { nodes_once = refl; writers_once = refl; offsets_once = refl; targets = refl; named = refl; script_body = refl; headers = refl; waits = refl; functions = refl; calls = refl; hidden = refl; fills = refl }),
  singly_assigned (core tree.table_of_missing_element tree.tree_of_missing_element) (record { declared = refl; outputs = refl; inputs = refl; loops = refl }),
)

pub circle : WellFormed (core tree.table_of_circle tree.tree_of_circle) × SinglyAssigned (core tree.table_of_circle tree.tree_of_circle)
circle = (
  well_formed (core tree.table_of_circle tree.tree_of_circle) (record { nodes_once = refl; writers_once = refl; offsets_once = refl; targets = refl; named = refl; script_body = refl; headers = refl; waits = refl; functions = refl; calls = refl; hidden = refl; fills = refl }),
  singly_assigned (core tree.table_of_circle tree.tree_of_circle) (record { declared = refl; outputs = refl; inputs = refl; loops = refl }),
)

pub fault_beside_unknown : WellFormed (core tree.table_of_fault_beside_unknown tree.tree_of_fault_beside_unknown) × SinglyAssigned (core tree.table_of_fault_beside_unknown tree.tree_of_fault_beside_unknown)
fault_beside_unknown = (
  well_formed (core tree.table_of_fault_beside_unknown tree.tree_of_fault_beside_unknown) (record { nodes_once = refl; writers_once = refl; offsets_once = refl; targets = refl; named = refl; script_body = refl; headers = refl; waits = refl; functions = refl; calls = refl; hidden = refl; fills = refl }),
  singly_assigned (core tree.table_of_fault_beside_unknown tree.tree_of_fault_beside_unknown) (record { declared = refl; outputs = refl; inputs = refl; loops = refl }),
)

pub fault_in_index : WellFormed (core tree.table_of_fault_in_index tree.tree_of_fault_in_index) × SinglyAssigned (core tree.table_of_fault_in_index tree.tree_of_fault_in_index)
fault_in_index = (
  well_formed (core tree.table_of_fault_in_index tree.tree_of_fault_in_index) (record { nodes_once = refl; writers_once = refl; offsets_once = refl; targets = refl; named = refl; script_body = refl; headers = refl; waits = refl; functions = refl; calls = refl; hidden = refl; fills = refl }),
  singly_assigned (core tree.table_of_fault_in_index tree.tree_of_fault_in_index) (record { declared = refl; outputs = refl; inputs = refl; loops = refl }),
)

pub strict_and : WellFormed (core tree.table_of_strict_and tree.tree_of_strict_and) × SinglyAssigned (core tree.table_of_strict_and tree.tree_of_strict_and)
strict_and = (
  well_formed (core tree.table_of_strict_and tree.tree_of_strict_and) (record { nodes_once = refl; writers_once = refl; offsets_once = refl; targets = refl; named = refl; script_body = refl; headers = refl; waits = refl; functions = refl; calls = refl; hidden = refl; fills = refl }),
  singly_assigned (core tree.table_of_strict_and tree.tree_of_strict_and) (record { declared = refl; outputs = refl; inputs = refl; loops = refl }),
)

pub too_large : WellFormed (core tree.table_of_too_large tree.tree_of_too_large) × SinglyAssigned (core tree.table_of_too_large tree.tree_of_too_large)
too_large = (
  well_formed (core tree.table_of_too_large tree.tree_of_too_large) (record { nodes_once = refl; writers_once = refl; offsets_once = refl; targets = refl; named = refl; script_body = refl; headers = refl; waits = refl; functions = refl; calls = refl; hidden = refl; fills = refl }),
  singly_assigned (core tree.table_of_too_large tree.tree_of_too_large) (record { declared = refl; outputs = refl; inputs = refl; loops = refl }),
)

pub outputs_are_the_callers : WellFormed (core tree.table_of_outputs_are_the_callers tree.tree_of_outputs_are_the_callers) × SinglyAssigned (core tree.table_of_outputs_are_the_callers tree.tree_of_outputs_are_the_callers)
outputs_are_the_callers = (
  well_formed (core tree.table_of_outputs_are_the_callers tree.tree_of_outputs_are_the_callers) (record { nodes_once = refl; writers_once = refl; offsets_once = refl; targets = refl; named = refl; script_body = refl; headers = refl; waits = refl; functions = refl; calls = refl; hidden = refl; fills = refl }),
  singly_assigned (core tree.table_of_outputs_are_the_callers tree.tree_of_outputs_are_the_callers) (record { declared = refl; outputs = refl; inputs = refl; loops = refl }),
)

pub calls_without_end : WellFormed (core tree.table_of_calls_without_end tree.tree_of_calls_without_end) × SinglyAssigned (core tree.table_of_calls_without_end tree.tree_of_calls_without_end)
calls_without_end = (
  well_formed (core tree.table_of_calls_without_end tree.tree_of_calls_without_end) (record { nodes_once = refl; writers_once = refl; offsets_once = refl; targets = refl; named = refl; script_body = refl; headers = refl; waits = refl; functions = refl; calls = refl; hidden = refl; fills = refl }),
  singly_assigned (core tree.table_of_calls_without_end tree.tree_of_calls_without_end) (record { declared = refl; outputs = refl; inputs = refl; loops = refl }),
)

pub nested_waits : WellFormed (core tree.table_of_nested_waits tree.tree_of_nested_waits) × SinglyAssigned (core tree.table_of_nested_waits tree.tree_of_nested_waits)
nested_waits = (
  well_formed (core tree.table_of_nested_waits tree.tree_of_nested_waits) (record { nodes_once = refl; writers_once = refl; offsets_once = refl; targets = refl; named = refl; script_body = refl; headers = refl; waits = refl; functions = refl; calls = refl; hidden = refl; fills = refl }),
  singly_assigned (core tree.table_of_nested_waits tree.tree_of_nested_waits) (record { declared = refl; outputs = refl; inputs = refl; loops = refl }),
)

pub filled_in_a_call : WellFormed (core tree.table_of_filled_in_a_call tree.tree_of_filled_in_a_call) × SinglyAssigned (core tree.table_of_filled_in_a_call tree.tree_of_filled_in_a_call)
filled_in_a_call = (
  well_formed (core tree.table_of_filled_in_a_call tree.tree_of_filled_in_a_call) (record { nodes_once = refl; writers_once = refl; offsets_once = refl; targets = refl; named = refl; script_body = refl; headers = refl; waits = refl; functions = refl; calls = refl; hidden = refl; fills = refl }),
  singly_assigned (core tree.table_of_filled_in_a_call tree.tree_of_filled_in_a_call) (record { declared = refl; outputs = refl; inputs = refl; loops = refl }),
)

pub fibonacci : WellFormed (core tree.table_of_fibonacci tree.tree_of_fibonacci) × SinglyAssigned (core tree.table_of_fibonacci tree.tree_of_fibonacci)
fibonacci = (
  well_formed (core tree.table_of_fibonacci tree.tree_of_fibonacci) (record { nodes_once = refl; writers_once = refl; offsets_once = refl; targets = refl; named = refl; script_body = refl; headers = refl; waits = refl; functions = refl; calls = refl; hidden = refl; fills = refl }),
  singly_assigned (core tree.table_of_fibonacci tree.tree_of_fibonacci) (record { declared = refl; outputs = refl; inputs = refl; loops = refl }),
)
