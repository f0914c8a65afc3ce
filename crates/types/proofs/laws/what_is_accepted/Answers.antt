use Rattle.types.proofs.accepted.Accepted.{whole_sound, arguments_sound, elements_sound, builtin_sound}
use Rattle.types.proofs.laws.what_is_accepted.Goals as goal

pub returns-clause-wholes : goal.returns-clause-wholes
returns-clause-wholes c = whole_sound

pub returns-clause-arguments : goal.returns-clause-arguments
returns-clause-arguments c = arguments_sound

pub returns-clause-elements : goal.returns-clause-elements
returns-clause-elements c = elements_sound

pub returns-clause-builtins : goal.returns-clause-builtins
returns-clause-builtins c = builtin_sound
