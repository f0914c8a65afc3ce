use Rattle.language.specs.Resolved.{core}
use Rattle.language_laws.proofs.Instances as law
use Rattle.language_accepted.proofs.Accepted.{accepted_formed}
use Rattle.language_accepted.proofs.laws.a_scalar_is_at_a_live_block.Goals as goal

pub returns : goal.returns
returns c = λ bytes t tree r w h p v a. law.scalar_live (core t tree) (accepted_formed bytes t tree r w h) h p v a
