use Rattle.std.proofs.Common.{◌≡◌, ◌++◌, ◌∷◌, [], map, ap, ◌∙◌, arith}
use Rattle.std.proofs.lemmas.Grind.{common_steps}
use Rattle.syntax_trees.specs.View.{declaration_of}
use Rattle.syntax_trees.proofs.Numbering.{copied_more, viewed_all}
use Rattle.syntax_trees.proofs.copy.copy_decls.Goals as goal

pub loop-decl-preserved : goal.loop-decl-preserved
loop-decl-preserved g c =
    let more = copied_more (declaration_of {A = g.row.A.Denot}) (declaration_of {A = g.row.B.Denot}) c.args.decls.now.items c.loop-decl.copies.items c.loop-decl.decl-index c.decl-item.result c.in_ok-copy_decl.field-0 c.loop-decl.invariant (grind (arith, common_steps)) (grind (arith, common_steps)) c.in_ok-copy_decl.ensures in
    let after : c.push.new.self.items ≡ c.loop-decl.copies.items ++ c.in_ok-copy_decl.field-0 ∷ [] = grind (arith, common_steps) in
    ap (map declaration_of) after ∙ more

pub returns : goal.returns
returns g c = c.loop-decl.invariant ∙ viewed_all (declaration_of {A = g.row.A.Denot}) c.args.decls.now.items c.loop-decl.decl-index (grind (arith, common_steps))
