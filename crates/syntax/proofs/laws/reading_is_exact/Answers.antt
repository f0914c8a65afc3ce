use Rattle.syntax.proofs.scripts.Scripts.{script_sound, script_complete, script_refused}
use Rattle.syntax.proofs.laws.reading_is_exact.Goals as goal

pub returns-clause-sound : goal.returns-clause-sound
returns-clause-sound c = script_sound

pub returns-clause-complete : goal.returns-clause-complete
returns-clause-complete c = script_complete

pub returns-clause-none : goal.returns-clause-none
returns-clause-none c = script_refused
