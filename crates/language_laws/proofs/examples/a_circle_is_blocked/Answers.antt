use Rattle.language_laws.proofs.Stuck.{circle_blocked}
use Rattle.language_laws.proofs.examples.a_circle_is_blocked.Goals as goal

pub returns : goal.returns
returns c = circle_blocked
