use Rattle.std.proofs.Common.{◌<◌, ◌≤◌, length, ◌∙◌, arith}
use Rattle.types.specs.Known.{type_of}
use Rattle.types.proofs.steps.Steps.{types_few}
use Rattle.types.proofs.statements.same_types.Goals as goal

pub returns-in_default : goal.returns-in_default
returns-in_default c =
    let below : c.loop-i.i < length c.args.found.now = omega arith in
    let past : length c.args.wanted.now ≤ c.loop-i.i = c.in_default.ensures.lookup.3 in
    λ settled. c.loop-i.invariant settled ∙ types_few type_of type_of c.args.found.now c.args.wanted.now c.loop-i.i c.args.at settled below past
