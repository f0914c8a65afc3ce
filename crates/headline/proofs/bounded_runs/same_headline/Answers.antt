use Rattle.headline.proofs.Same.{headline_too}
use Rattle.headline.proofs.bounded_runs.same_headline.Goals as goal

pub returns : goal.returns
returns g = λ c d C same h. headline_too c d same C h
