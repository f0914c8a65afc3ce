use Rattle.language.specs.Resolved.{core}
use Rattle.code_laws.proofs.Accepted.{accepted_laid}
use Rattle.code_laws.proofs.Layouts.{layout_of}
use Rattle.code_laws.proofs.laid_code.laid_code_is_a_table.Goals as goal

pub returns : goal.returns
returns g = λ t tree fs ds C p L. (layout_of (core t tree) ds, accepted_laid t tree fs ds C p L)
