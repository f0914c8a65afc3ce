use Rattle.std.proofs.Common.{None, map, ap, ◌∙◌, ◌++◌, arith}
use Rattle.std.proofs.lemmas.List.{take_all, length-map}
use Rattle.flow.specs.View.{part_view, parts_view}
use Rattle.task_code.specs.View.{variable_view}
use Rattle.code_rules.specs.Laying.{data_in}
use Rattle.emit_cells.proofs.Lasts.{data_more}
use Rattle.emit_cells.proofs.data.add_data.Goals as goal

pub loop-at-preserved : goal.loop-at-preserved
loop-at-preserved g c =
    let A = g.row.A.Denot in
    data_more (parts_view {A = A} c.args.parts.now.items) c.loop-at.at (map variable_view c.args.makes.now.items) (map variable_view c.loop-at.makes.items) (map variable_view c.add_part_data.new.makes.items)
    c.loop-at.invariant c.in_ok-add_part_data.ensures

pub returns : goal.returns
returns g c =
    let A = g.row.A.Denot in
    let ps = parts_view {A = A} c.args.parts.now.items in
    c.loop-at.invariant ∙ ap (λ l. map variable_view c.args.makes.now.items ++ data_in None l) (take_all c.loop-at.at ps (omega (arith, length-map c.args.parts.now.items (part_view {A = A}))))
