use Rattle.types.proofs.settled.Settling.{refer_sound, call_sound}
use Rattle.types.proofs.laws.what_is_settled.Goals as goal

pub returns-clause-refers : goal.returns-clause-refers
returns-clause-refers c = refer_sound

pub returns-clause-calls : goal.returns-clause-calls
returns-clause-calls c = call_sound
