use Rattle.code_laws.proofs.CodeOf.{code_of_table}
use Rattle.code_laws.proofs.laid_code.a_table_is_the_cores_code.Goals as goal

pub returns : goal.returns
returns g = λ s fs ds C l h. code_of_table h
