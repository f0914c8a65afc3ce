use Rattle.std.proofs.Common.{◌≡◌, drop}
use Rattle.meaning_facts.specs.Store.{variable_in}
use Rattle.meaning_facts.proofs.instances.scalar_of.Given as goal

abbrev pub invariant-loop-variable : goal.invariant-loop-variable
invariant-loop-variable l = variable_in l.variables l.node ≡ variable_in (drop l.variable-index l.variables) l.node
