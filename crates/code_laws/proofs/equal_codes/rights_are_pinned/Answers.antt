use Rattle.code_laws.proofs.Codes.{alike}
use Rattle.code_laws.proofs.equal_codes.rights_are_pinned.Goals as goal

pub returns : goal.returns
returns g = alike
