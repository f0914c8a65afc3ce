use Rattle.code_laws.proofs.Standings.{standing}
use Rattle.code_laws.proofs.whole_code.laid_code_stands.Goals as goal

pub returns : goal.returns
returns g = λ s fs ds C l laid rights found scoped. standing C l laid rights found scoped
