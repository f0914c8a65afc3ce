use Rattle.std.proofs.Common.{[], map, arith}
use Rattle.std.proofs.lemmas.Grind.{common_steps}
use Rattle.syntax_trees.specs.View.{part_of}
use Rattle.explain_warnings.specs.Cycles.{tree_plain}
use Rattle.explain_warnings.specs.View.{statements_in}
use Rattle.explain_warnings.proofs.Cycling.{parts_more, parts_all}
use Rattle.explain_warnings.proofs.mistakes.cycles.tree_plain.Goals as goal

pub loop-item-preserved : goal.loop-item-preserved
loop-item-preserved g c =
    parts_more (part_of {A = g.row.A.Denot}) (tree_plain [] (map (part_of {A = g.row.A.Denot}) c.args.script.now.items.items))
    (statements_in c.loop-item.before.items) (statements_in c.part_keep.new.before.items) c.args.script.now.items.items c.loop-item.item-index
    c.item-item.result c.loop-item.invariant (grind (arith, common_steps)) (grind (arith, common_steps)) c.in_ok-part_keep.ensures

pub returns : goal.returns
returns g c =
    parts_all (part_of {A = g.row.A.Denot}) (tree_plain [] (map (part_of {A = g.row.A.Denot}) c.args.script.now.items.items))
    (statements_in c.loop-item.before.items) c.args.script.now.items.items c.loop-item.item-index c.loop-item.invariant (grind (arith, common_steps))
