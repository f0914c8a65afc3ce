use Rattle.code_laws.proofs.Shapes.{shapes}
use Rattle.code_laws.proofs.whole_code.laid_entries_have_their_shape.Goals as goal

pub returns : goal.returns
returns g = λ s fs ds C l h i. shapes C l h i
