use Rattle.std.proofs.Common.{◌++◌, [], map, ap, ◌∙◌, arith}
use Rattle.std.proofs.lemmas.Grind.{common_steps}
use Rattle.syntax_trees.specs.View.{part_of}
use Rattle.explain_warnings.specs.Repeats.{part_again, tree_repeats}
use Rattle.explain_warnings.specs.View.{statements_in}
use Rattle.explain_warnings.proofs.Repeated.{tree_more}
use Rattle.explain_warnings.proofs.mistakes.repeats.tree_repeats.Goals as goal

pub loop-item-preserved : goal.loop-item-preserved
loop-item-preserved g c =
    tree_more (part_of {A = g.row.A.Denot}) (tree_repeats [] (map (part_of {A = g.row.A.Denot}) c.args.script.now.items.items))
    c.loop-item.name_uses.items c.part_again.new.name_uses.items (statements_in c.loop-item.before.items) (statements_in c.part_keep.new.before.items)
    c.args.script.now.items.items c.loop-item.item-index c.item-item.result c.loop-item.invariant (grind (arith, common_steps)) (grind (arith, common_steps))
    (c.in_ok-part_again.ensures ∙ ap (λ bs. c.loop-item.name_uses.items ++ part_again (statements_in {A = g.row.A.Denot} bs) (part_of {A = g.row.A.Denot} c.item-item.result)) c.as_slice.ensures.value)
    c.in_ok-part_keep.ensures
