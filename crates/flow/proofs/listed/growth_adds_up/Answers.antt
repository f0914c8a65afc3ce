use Rattle.flow.proofs.Growing.{grows_both}
use Rattle.flow.proofs.listed.growth_adds_up.Goals as goal

pub returns : goal.returns
returns c = λ xs ys zs more others g h. grows_both more others g h
