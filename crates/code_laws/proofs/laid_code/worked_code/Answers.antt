use Rattle.code_laws.proofs.Filled.{filled_laid}
use Rattle.code_laws.proofs.Worked.{fibonacci_laid, misplaced}
use Rattle.code_laws.proofs.laid_code.worked_code.Goals as goal

pub returns-clause-laid : goal.returns-clause-laid
returns-clause-laid g = fibonacci_laid

pub returns-clause-filled : goal.returns-clause-filled
returns-clause-filled g = filled_laid

pub returns-clause-misplaced : goal.returns-clause-misplaced
returns-clause-misplaced g = misplaced
