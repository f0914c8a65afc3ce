use Rattle.language_laws.proofs.SelfSized.{blocked}
use Rattle.language_laws.proofs.arrays.an_array_that_waits_for_itself_is_blocked.Goals as goal

pub returns : goal.returns
returns c = blocked
