use Rattle.language_laws.proofs.ArrayScripts.{prints_one}
use Rattle.language_laws.proofs.arrays.a_wait_opens_when_its_array_is_closed.Goals as goal

pub returns : goal.returns
returns c = prints_one
