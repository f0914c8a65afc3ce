use Rattle.std.specs.Prelude.{refl}
use Rattle.task_code.specs.Worked.{used_before_assigned, filled_by_loop, fibonacci, filled_by_call, several_outputs, called_everywhere}
use Rattle.code_laws.proofs.TestedSources.{sources_found}
use Rattle.code_laws.proofs.quiet_code.tested_sources.Goals as goal

pub returns-clause-tested : goal.returns-clause-tested
returns-clause-tested g = λ C h. sources_found C h

pub returns-clause-used_before_assigned : goal.returns-clause-used_before_assigned
returns-clause-used_before_assigned g = sources_found used_before_assigned refl

pub returns-clause-filled_by_loop : goal.returns-clause-filled_by_loop
returns-clause-filled_by_loop g = sources_found filled_by_loop refl

pub returns-clause-fibonacci : goal.returns-clause-fibonacci
returns-clause-fibonacci g = sources_found fibonacci refl

pub returns-clause-filled_by_call : goal.returns-clause-filled_by_call
returns-clause-filled_by_call g = sources_found filled_by_call refl

pub returns-clause-several_outputs : goal.returns-clause-several_outputs
returns-clause-several_outputs g = sources_found several_outputs refl

pub returns-clause-called_everywhere : goal.returns-clause-called_everywhere
returns-clause-called_everywhere g = sources_found called_everywhere refl
