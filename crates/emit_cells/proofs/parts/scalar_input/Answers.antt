use Rattle.std.proofs.Common.{ap, sym, ◌∙◌}
use Rattle.std.specs.Prelude.{option_map}
use Rattle.flow.specs.View.{name_view}
use Rattle.task_code.specs.Code as pure
use Rattle.task_code.specs.View as code_view
use Rattle.emit_cells.proofs.Calls.{pass_handed, pass_no_cell, far_stands, lost_stands}
use Rattle.emit_cells.proofs.parts.scalar_input.Goals as goal

pub returns-in-None : goal.returns-in-None
returns-in-None c all passed room =
    let x = name_view c.args.name in
    pass_no_cell c.args.inputs all x (pure.Named (code_view.name_view c.named.result)) (ap pure.Named (c.named.ensures room)) (far_stands all x c.in-None.ensures)

pub returns-in-Some-2 : goal.returns-in-Some-2
returns-in-Some-2 c all passed room =
    let a = code_view.argument_view c.in-Some-2.argument in
    pass_handed c.args.inputs all c.in-Some.node (name_view c.args.name) a
    (passed.good c.in-Some.node a (sym (ap (option_map code_view.argument_view) (sym c.in-Some-2.is) ∙ c.in_ok-argument-in-Some.ensures))) c.in-Some.ensures

pub returns-in-None-2 : goal.returns-in-None-2
returns-in-None-2 c all passed room =
    let x = name_view c.args.name in
    pass_no_cell c.args.inputs all x (pure.Named (code_view.name_view c.named-in-None-2.result)) (ap pure.Named (c.named-in-None-2.ensures room))
    (lost_stands c.args.inputs all c.args.passed.now c.in-Some.node x passed c.in-Some.ensures (ap (option_map code_view.argument_view) (sym c.in-None-2.is) ∙ c.in_ok-argument-in-Some.ensures))
