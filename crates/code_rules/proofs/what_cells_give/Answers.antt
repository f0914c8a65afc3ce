use Rattle.std.proofs.Common.{refl}
use Rattle.code_rules.proofs.Given.{gives_value, true_value}
use Rattle.code_rules.proofs.what_cells_give.Goals as goal

pub returns-clause-values : goal.returns-clause-values
returns-clause-values g = λ s n path e v given. gives_value given refl

pub returns-clause-assertions : goal.returns-clause-assertions
returns-clause-assertions g = λ s n path es v under. true_value under
