use Rattle.code_laws.proofs.Marks.{laid_marks}
use Rattle.code_laws.proofs.laid_code.calls_are_found.Goals as goal

pub returns : goal.returns
returns g = laid_marks
