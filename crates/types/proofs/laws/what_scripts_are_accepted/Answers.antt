use Rattle.types.proofs.accepted.Checked.{script_sound}
use Rattle.types.proofs.answered.UnbrokenScript.{script_refused}
use Rattle.types.proofs.settled.Table.{script_typed}
use Rattle.types.proofs.laws.what_scripts_are_accepted.Goals as goal

pub returns-clause-sound : goal.returns-clause-sound
returns-clause-sound c = script_sound

pub returns-clause-typed : goal.returns-clause-typed
returns-clause-typed c = script_typed

pub returns-clause-refused : goal.returns-clause-refused
returns-clause-refused c = script_refused
