use Rattle.language_laws.proofs.Whole as law
use Rattle.language_laws.proofs.laws.a_scalar_comes_in_a_round.Goals as goal

pub returns : goal.returns
returns c = λ s w h p v a. law.value_in_round s w h p v a
