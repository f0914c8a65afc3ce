use Rattle.std.proofs.Common.{map, ap, refl, ◌∙◌}
use Rattle.task_code.specs.Code as pure
use Rattle.task_code.specs.View as code_view
use Rattle.emit_cells.proofs.Calls.{next_is}
use Rattle.emit_cells.proofs.parts.call_act.Goals as goal

pub returns-clause-calls : goal.returns-clause-calls
returns-clause-calls g c all passed room =
    let ins = map code_view.argument_view c.in_ok-found.found.items in
    let outs = map code_view.name_view c.in_ok-outputs.outputs.items in
    record {
      ins = ins;
      outs = outs;
      is = ap (λ b. pure.Call b ins outs) (c.next-body.ensures room.0 ∙ next_is c.args.call.now.function);
      inputs = c.in_ok-found.ensures all passed room.1.0;
      outputs = c.in_ok-outputs.ensures room.1.1;
    }

pub returns-clause-unmarked : goal.returns-clause-unmarked
returns-clause-unmarked g c = λ node offset. refl
