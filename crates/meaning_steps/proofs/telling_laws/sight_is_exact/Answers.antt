use Rattle.meaning_steps.specs.Taken.{Knows}
use Rattle.meaning_steps.proofs.Sights as law
use Rattle.meaning_steps.proofs.telling_laws.sight_is_exact.Goals as goal

pub returns-clause-expressions : goal.returns-clause-expressions
returns-clause-expressions c = λ s fs path g h e r. (law.worked_so s (Knows fs) path g h e r, λ k. law.worked_is s (Knows fs) path g h k)

pub returns-clause-cells : goal.returns-clause-cells
returns-clause-cells c = λ s fs path g h f r. (law.outcome_so s (Knows fs) path g h f r, λ k. law.outcome_is s (Knows fs) path g h k)
