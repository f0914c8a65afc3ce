use Rattle.std.proofs.Common.{rules, refl}
use Rattle.rules.proofs.Marking.{one_marked}
use Rattle.rules.proofs.many_inputs.InputIndex.mark.Goals as goal

pub returns-then-covers-clause-marks : goal.returns-then-covers-clause-marks
returns-then-covers-clause-marks c =
    one_marked c.args.input.now c.args.inputs.now c.args.self.now _ c.args.place (search rules) (search rules) (search rules) c.requires.size c.requires.left refl (search rules) refl
