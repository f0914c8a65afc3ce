use Rattle.std.proofs.Common.{◌≡◌, map, take}
use Rattle.lowering.specs.View.{factor_of}
use Rattle.lowering.proofs.operators.factors.Given as goal

abbrev pub invariant-loop-operator : goal.invariant-loop-operator
invariant-loop-operator g l = l.found.items ≡ map factor_of (take l.operator-index l.operators)
