use Rattle.language_laws.proofs.FilledInCall.{prints_four_nine}
use Rattle.language_laws.proofs.headers.a_called_function_fills_the_callers_array.Goals as goal

pub returns : goal.returns
returns c = prints_four_nine
