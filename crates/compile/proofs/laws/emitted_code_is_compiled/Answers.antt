use Rattle.compile.proofs.Runs.{of_tree}
use Rattle.compile.proofs.laws.emitted_code_is_compiled.Goals as goal

pub returns : goal.returns
returns g = λ src t tree fs ds code a kinds declared e marks. of_tree src t tree fs ds code a kinds declared e marks
