use Rattle.std.proofs.Common.{arith, ap, sym, map, [], ◌∷◌, ◌∙◌}
use Rattle.std.proofs.lemmas.Grind.{common_steps}
use Rattle.std.proofs.lemmas.Result.{on_ok_weaker}
use Rattle.flow.specs.View.{part_view, parts_view, cell_view, call_view}
use Rattle.task_code.specs.View.{variable_view}
use Rattle.emit_cells.specs.Before.{before}
use Rattle.emit_cells.specs.Chunk.{part_at}
use Rattle.emit_cells.proofs.Passing.{part_is}
use Rattle.emit_cells.proofs.Lasts.{data_call, data_plain, data_cell}
use Rattle.emit_cells.proofs.data.add_part_data.Goals as goal

pub returns-in-Calls : goal.returns-in-Calls
returns-in-Calls g c =
    let A = g.row.A.Denot in
    let ps = parts_view {A = A} c.args.parts.now.items in
    let is = part_is (part_view {A = A}) c.args.parts.now.items c.args.at c.index.result.now (grind (arith, common_steps)) (grind (arith, common_steps)) ∙ ap (λ x. part_view {A = A} x ∷ []) c.in-Calls.is in
    on_ok_weaker c.add_outputs.result
    (λ e. data_call (before ps c.args.at) (part_at ps c.args.at) (call_view {A = A} c.in-Calls.call) (map variable_view c.args.makes.now.items) (map variable_view c.add_outputs.new.makes.items) is e)
    c.add_outputs.ensures

pub returns-then-plain : goal.returns-then-plain
returns-then-plain g c =
    let A = g.row.A.Denot in
    let ps = parts_view {A = A} c.args.parts.now.items in
    let is = part_is (part_view {A = A}) c.args.parts.now.items c.args.at c.index.result.now (grind (arith, common_steps)) (grind (arith, common_steps)) ∙ ap (λ x. part_view {A = A} x ∷ []) c.in-Inner.is in
    data_plain (before ps c.args.at) (part_at ps c.args.at) (cell_view {A = A} c.in-Inner.cell) (map variable_view c.args.makes.now.items) is (sym (c.is_plain-plain.ensures (omega arith)) ∙ c.if-plain.true)

pub returns-else-plain : goal.returns-else-plain
returns-else-plain g c =
    let A = g.row.A.Denot in
    let ps = parts_view {A = A} c.args.parts.now.items in
    let is = part_is (part_view {A = A}) c.args.parts.now.items c.args.at c.index.result.now (grind (arith, common_steps)) (grind (arith, common_steps)) ∙ ap (λ x. part_view {A = A} x ∷ []) c.in-Inner.is in
    on_ok_weaker c.add_scalar.result
    (λ e. data_cell (before ps c.args.at) (part_at ps c.args.at) (cell_view {A = A} c.in-Inner.cell) (map variable_view c.args.makes.now.items) (map variable_view c.add_scalar.new.makes.items) is (sym (c.is_plain-plain.ensures (omega arith)) ∙ c.if-plain.false) e)
    c.add_scalar.ensures
