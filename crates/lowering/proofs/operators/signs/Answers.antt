use Rattle.std.proofs.Common.{map, ap, sym, ◌∙◌, arith}
use Rattle.std.proofs.lemmas.List.{take_all}
use Rattle.lowering.specs.View.{sign_of}
use Rattle.lowering.proofs.Signs.{signs_are}
use Rattle.lowering.proofs.operators.signs.Goals as goal

pub returns : goal.returns
returns g c = c.loop-operator.invariant ∙ ap (map sign_of) (take_all c.loop-operator.operator-index c.args.operators.now (omega arith)) ∙ sym (signs_are c.args.operators.now)
