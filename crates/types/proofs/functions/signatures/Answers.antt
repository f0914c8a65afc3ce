use Rattle.std.proofs.lemmas.Result.{IfOk-from_err}
use Rattle.types.proofs.functions.signatures.Goals as goal

pub returns-in_err-places : goal.returns-in_err-places
returns-in_err-places g c = IfOk-from_err _ _ c.from_residual-in_err-places.ensures.0
