use Rattle.code_laws.proofs.Offsets.{accepted_calls}
use Rattle.code_laws.proofs.whole_code.accepted_calls_stand_once.Goals as goal

pub returns : goal.returns
returns g = λ t tree place. accepted_calls t tree place
