use Rattle.language_laws.proofs.Instances as law
use Rattle.language_laws.proofs.laws.a_scalar_is_at_a_live_block.Goals as goal

pub returns : goal.returns
returns c = λ s w h p v a. law.scalar_live s w h p v a
