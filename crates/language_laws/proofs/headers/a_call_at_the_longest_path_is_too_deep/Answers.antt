use Rattle.std.specs.Prelude.{◌-◌}
use Rattle.language.specs.Places.{max_path_steps}
use Rattle.language_laws.proofs.DeepPaths.{deep_length}
use Rattle.language_laws.proofs.Scripts.{too_deep_at_last}
use Rattle.language_laws.proofs.headers.a_call_at_the_longest_path_is_too_deep.Goals as goal

pub returns-clause-length : goal.returns-clause-length
returns-clause-length c = deep_length 48 23 (max_path_steps - 1)

pub returns-clause-fault : goal.returns-clause-fault
returns-clause-fault c = (5, (1, too_deep_at_last))
