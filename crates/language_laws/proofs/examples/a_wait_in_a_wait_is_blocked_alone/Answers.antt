use Rattle.language_laws.proofs.Missing.{inner_blocked}
use Rattle.language_laws.proofs.examples.a_wait_in_a_wait_is_blocked_alone.Goals as goal

pub returns : goal.returns
returns c = inner_blocked
