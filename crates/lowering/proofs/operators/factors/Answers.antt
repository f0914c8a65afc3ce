use Rattle.std.proofs.Common.{map, ap, sym, ◌∙◌, arith}
use Rattle.std.proofs.lemmas.List.{take_all}
use Rattle.lowering.specs.View.{factor_of}
use Rattle.lowering.proofs.Signs.{factors_are}
use Rattle.lowering.proofs.operators.factors.Goals as goal

pub returns : goal.returns
returns g c = c.loop-operator.invariant ∙ ap (map factor_of) (take_all c.loop-operator.operator-index c.args.operators.now (omega arith)) ∙ sym (factors_are c.args.operators.now)
