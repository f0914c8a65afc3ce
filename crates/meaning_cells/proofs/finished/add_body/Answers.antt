use Rattle.std.proofs.Common.{arith, ◌<◌, ◌++◌, length}
use Rattle.std.proofs.lemmas.Grind.{common_steps}
use Rattle.flow.specs.View.{block_view, names_view, owned_view}
use Rattle.meaning_cells.specs.Ending.{goals_of, output_goals}
use Rattle.meaning_cells.proofs.Ending.{output_next}
use Rattle.meaning_cells.proofs.finished.add_body.Goals as goal

pub loop-i-preserved : goal.loop-i-preserved
loop-i-preserved g c =
    let a = owned_view c.args.what in
    let b = block_view {A = g.row.A.Denot} c.args.block.now in
    let within : c.loop-i.i < length c.args.outputs.now = grind (arith, common_steps) in
    output_next c.args.child a b (goals_of {A = g.row.A.Denot} c.args.tasks.now.items ++ output_goals c.args.child a b 0 (names_view c.args.outputs.now)) (goals_of {A = g.row.A.Denot} c.loop-i.tasks.items) (goals_of {A = g.row.A.Denot} c.add_output.new.tasks.items)
    c.args.outputs.now c.loop-i.i _ within c.loop-i.invariant c.in_ok-add_output.ensures
