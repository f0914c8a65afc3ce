use Rattle.std.proofs.Common.{inr, subst}
use Rattle.flow.specs.declared.script.Flow.{Flow}
use Rattle.compile.specs.Compiled.{IsFoldedFlowOf}
use Rattle.compile.proofs.compile.with_flow.Goals as goal

pub with_rights-requires : goal.with_rights-requires
with_rights-requires g c = record { src = c.args.src.now; is = inr c.in_ok-flow.ensures.flow }

pub returns-in-Ok-clause-flow : goal.returns-in-Ok-clause-flow
returns-in-Ok-clause-flow g c = rw c.in-Ok.ensures.flow c.in_ok-flow.ensures.flow

pub returns-in-Ok-clause-code : goal.returns-in-Ok-clause-code
returns-in-Ok-clause-code g c = c.in-Ok.ensures.code c.args.src.now c.in_ok-flow.ensures.flow
