use Rattle.std.proofs.Common.{[], map, refl}
use Rattle.flow.specs.Shapes.{kinds_of_function}
use Rattle.flow.specs.View.{call_view}
use Rattle.task_code.specs.View as code_view
use Rattle.emit_cells.specs.Made.{made}
use Rattle.emit_cells.proofs.Calls.{calls_added}
use Rattle.emit_cells.proofs.Marking.{marked_none}
use Rattle.emit_cells.proofs.parts.add_call.Goals as goal

pub returns-clause-added : goal.returns-clause-added
returns-clause-added g c all passed room there =
    let A = g.row.A.Denot in
    let s = c.args.standing in
    calls_added (map (kinds_of_function {A = A}) c.args.functions.now.items) s.inputs all s (record { node = 0; offset = c.args.call.now.at }) (call_view {A = A} c.args.call.now) (code_view.act_view c.in_ok-act.act)
    c.args.entries.now.items c.put_bare.new.entries.items (c.in_ok-act.ensures.calls all passed room) there refl c.in_ok-put_bare.ensures

pub returns-clause-marks : goal.returns-clause-marks
returns-clause-marks g c =
    let at = c.args.call.now.at in
    marked_none c.args.entries.now.items c.put_bare.new.entries.items (made c.args.standing (record { node = 0; offset = at }) [] (code_view.act_view c.in_ok-act.act))
    c.in_ok-put_bare.ensures (c.in_ok-act.ensures.unmarked 0 at)
