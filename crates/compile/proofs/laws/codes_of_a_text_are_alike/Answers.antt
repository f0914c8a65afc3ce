use Rattle.compile.proofs.Alike.{text_alike}
use Rattle.compile.proofs.laws.codes_of_a_text_are_alike.Goals as goal

pub returns : goal.returns
returns g = text_alike
