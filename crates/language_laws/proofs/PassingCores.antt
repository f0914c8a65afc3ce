-- The cores pass both tests.
use Rattle.std.specs.Prelude.{refl}
use Rattle.language_laws.specs.ArrayExamples.{nobody_writes, waits_for_itself, array_literal, whole_copies, wait_for_array}
use Rattle.language_laws.specs.HeaderExamples.{no_step, headers_without_end, closed_loop, loop_over_array}
use Rattle.language.specs.Single.{SinglyAssigned}
use Rattle.language.specs.WellFormed.{WellFormed}
use Rattle.language_laws.proofs.TestedNames.{well_formed}
use Rattle.language_laws.proofs.TestedSingle.{singly_assigned}

pub nobody_writes_passes : WellFormed nobody_writes × SinglyAssigned nobody_writes
nobody_writes_passes = (
  well_formed nobody_writes (record { nodes_once = refl; writers_once = refl; offsets_once = refl; targets = refl; named = refl; script_body = refl; headers = refl; waits = refl; functions = refl; calls = refl; hidden = refl; fills = refl }),
  singly_assigned nobody_writes (record { declared = refl; outputs = refl; inputs = refl; loops = refl }),
)

pub waits_for_itself_passes : WellFormed waits_for_itself × SinglyAssigned waits_for_itself
waits_for_itself_passes = (
  well_formed waits_for_itself (record { nodes_once = refl; writers_once = refl; offsets_once = refl; targets = refl; named = refl; script_body = refl; headers = refl; waits = refl; functions = refl; calls = refl; hidden = refl; fills = refl }),
  singly_assigned waits_for_itself (record { declared = refl; outputs = refl; inputs = refl; loops = refl }),
)

pub array_literal_passes : WellFormed array_literal × SinglyAssigned array_literal
array_literal_passes = (
  well_formed array_literal (record { nodes_once = refl; writers_once = refl; offsets_once = refl; targets = refl; named = refl; script_body = refl; headers = refl; waits = refl; functions = refl; calls = refl; hidden = refl; fills = refl }),
  singly_assigned array_literal (record { declared = refl; outputs = refl; inputs = refl; loops = refl }),
)

pub whole_copies_passes : WellFormed whole_copies × SinglyAssigned whole_copies
whole_copies_passes = (
  well_formed whole_copies (record { nodes_once = refl; writers_once = refl; offsets_once = refl; targets = refl; named = refl; script_body = refl; headers = refl; waits = refl; functions = refl; calls = refl; hidden = refl; fills = refl }),
  singly_assigned whole_copies (record { declared = refl; outputs = refl; inputs = refl; loops = refl }),
)

pub wait_for_array_passes : WellFormed wait_for_array × SinglyAssigned wait_for_array
wait_for_array_passes = (
  well_formed wait_for_array (record { nodes_once = refl; writers_once = refl; offsets_once = refl; targets = refl; named = refl; script_body = refl; headers = refl; waits = refl; functions = refl; calls = refl; hidden = refl; fills = refl }),
  singly_assigned wait_for_array (record { declared = refl; outputs = refl; inputs = refl; loops = refl }),
)

pub no_step_passes : WellFormed no_step × SinglyAssigned no_step
no_step_passes = (
  well_formed no_step (record { nodes_once = refl; writers_once = refl; offsets_once = refl; targets = refl; named = refl; script_body = refl; headers = refl; waits = refl; functions = refl; calls = refl; hidden = refl; fills = refl }),
  singly_assigned no_step (record { declared = refl; outputs = refl; inputs = refl; loops = refl }),
)

pub headers_without_end_passes : WellFormed headers_without_end × SinglyAssigned headers_without_end
headers_without_end_passes = (
  well_formed headers_without_end (record { nodes_once = refl; writers_once = refl; offsets_once = refl; targets = refl; named = refl; script_body = refl; headers = refl; waits = refl; functions = refl; calls = refl; hidden = refl; fills = refl }),
  singly_assigned headers_without_end (record { declared = refl; outputs = refl; inputs = refl; loops = refl }),
)

pub closed_loop_passes : WellFormed closed_loop × SinglyAssigned closed_loop
closed_loop_passes = (
  well_formed closed_loop (record { nodes_once = refl; writers_once = refl; offsets_once = refl; targets = refl; named = refl; script_body = refl; headers = refl; waits = refl; functions = refl; calls = refl; hidden = refl; fills = refl }),
  singly_assigned closed_loop (record { declared = refl; outputs = refl; inputs = refl; loops = refl }),
)

pub loop_over_array_passes : WellFormed loop_over_array × SinglyAssigned loop_over_array
loop_over_array_passes = (
  well_formed loop_over_array (record { nodes_once = refl; writers_once = refl; offsets_once = refl; targets = refl; named = refl; script_body = refl; headers = refl; waits = refl; functions = refl; calls = refl; hidden = refl; fills = refl }),
  singly_assigned loop_over_array (record { declared = refl; outputs = refl; inputs = refl; loops = refl }),
)
