use Rattle.std.proofs.Common.{◌≡◌, ◌++◌, drop}
use Rattle.language.specs.Resolved as rules
use Rattle.constant_fold.proofs.evaluation.signs.Given as goal

abbrev pub invariant-loop-operator : goal.invariant-loop-operator
invariant-loop-operator l = l.found.items ++ rules.signs (drop l.operator-index l.operators) ≡ rules.signs l.operators
