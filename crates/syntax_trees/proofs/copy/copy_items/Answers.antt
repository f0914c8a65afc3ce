use Rattle.std.proofs.Common.{◌≡◌, ◌++◌, ◌∷◌, [], map, ap, ◌∙◌, arith}
use Rattle.std.proofs.lemmas.Grind.{common_steps}
use Rattle.syntax_trees.specs.View.{part_of}
use Rattle.syntax_trees.proofs.Numbering.{copied_more, viewed_all}
use Rattle.syntax_trees.proofs.copy.copy_items.Goals as goal

pub loop-item-preserved : goal.loop-item-preserved
loop-item-preserved g c =
    let more = copied_more (part_of {A = g.row.A.Denot}) (part_of {A = g.row.B.Denot}) c.args.items.now.items c.loop-item.copies.items c.loop-item.item-index c.item-item.result c.in_ok-copy_item.field-0 c.loop-item.invariant (grind (arith, common_steps)) (grind (arith, common_steps)) c.in_ok-copy_item.ensures in
    let after : c.push.new.self.items ≡ c.loop-item.copies.items ++ c.in_ok-copy_item.field-0 ∷ [] = grind (arith, common_steps) in
    ap (map part_of) after ∙ more

pub returns : goal.returns
returns g c = c.loop-item.invariant ∙ viewed_all (part_of {A = g.row.A.Denot}) c.args.items.now.items c.loop-item.item-index (grind (arith, common_steps))
