use Rattle.constant_fold.proofs.Singly.{singly_assigned}
use Rattle.constant_fold.proofs.laws.same_cores_are_singly_assigned.Goals as goal

pub returns : goal.returns
returns g = λ c d h w. singly_assigned c d h w
