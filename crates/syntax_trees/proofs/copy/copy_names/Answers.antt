use Rattle.std.proofs.Common.{◌≡◌, ◌++◌, ◌∷◌, [], map, ap, ◌∙◌, arith}
use Rattle.std.proofs.lemmas.Grind.{common_steps}
use Rattle.syntax_trees.specs.View.{word_of}
use Rattle.syntax_trees.proofs.Numbering.{copied_more, viewed_all}
use Rattle.syntax_trees.proofs.copy.copy_names.Goals as goal

pub loop-name-preserved : goal.loop-name-preserved
loop-name-preserved g c =
    let more = copied_more (word_of {A = g.row.A.Denot}) (word_of {A = g.row.B.Denot}) c.args.names.now.items c.loop-name.copies.items c.loop-name.name-index c.name-item.result c.in_ok-copy_name.field-0 c.loop-name.invariant (grind (arith, common_steps)) (grind (arith, common_steps)) c.in_ok-copy_name.ensures in
    let after : c.push.new.self.items ≡ c.loop-name.copies.items ++ c.in_ok-copy_name.field-0 ∷ [] = grind (arith, common_steps) in
    ap (map word_of) after ∙ more

pub returns : goal.returns
returns g c = c.loop-name.invariant ∙ viewed_all (word_of {A = g.row.A.Denot}) c.args.names.now.items c.loop-name.name-index (grind (arith, common_steps))
