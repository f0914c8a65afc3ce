use Rattle.std.specs.Prelude.{refl}
use Rattle.task_code.proofs.worked_items.Goals as goal

pub returns-clause-stores : goal.returns-clause-stores
returns-clause-stores g = refl

pub returns-clause-overflows : goal.returns-clause-overflows
returns-clause-overflows g = refl

pub returns-clause-prints : goal.returns-clause-prints
returns-clause-prints g = refl

pub returns-clause-lacks : goal.returns-clause-lacks
returns-clause-lacks g = refl

pub returns-clause-turns : goal.returns-clause-turns
returns-clause-turns g = refl

pub returns-clause-literal_input : goal.returns-clause-literal_input
returns-clause-literal_input g = refl

pub returns-clause-output : goal.returns-clause-output
returns-clause-output g = refl

pub returns-clause-inner_output : goal.returns-clause-inner_output
returns-clause-inner_output g = refl

pub returns-clause-array_output : goal.returns-clause-array_output
returns-clause-array_output g = refl

pub returns-clause-compares : goal.returns-clause-compares
returns-clause-compares g = refl

pub returns-clause-chunks : goal.returns-clause-chunks
returns-clause-chunks g = (refl, refl, refl)
