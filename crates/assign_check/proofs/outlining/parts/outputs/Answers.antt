use Rattle.std.proofs.Common.{◌++◌, map, refl, arith}
use Rattle.std.proofs.lemmas.Grind.{common_steps}
use Rattle.language.specs.Core.{output}
use Rattle.syntax_trees.specs.View.{declaration_of}
use Rattle.language.proofs.Walks.{walked_all}
use Rattle.assign_check.specs.Outline as outline
use Rattle.assign_check.specs.View.{steps_view}
use Rattle.assign_check.proofs.outlines.Parameters.{parameters_more}
use Rattle.assign_check.proofs.outlining.parts.outputs.Goals as goal

pub loop-i-preserved : goal.loop-i-preserved
loop-i-preserved g c =
    parameters_more outline.result output (declaration_of {A = g.row.A.Denot})
    (steps_view c.args.steps.now.items ++ outline.parameters outline.result output 0 (map (declaration_of {A = g.row.A.Denot}) c.args.decls.now.items))
    (steps_view c.loop-i.steps.items) (steps_view c.add_declared.new.steps.items) c.args.decls.now.items c.loop-i.i c.index.result.now
    c.loop-i.invariant (grind (arith, common_steps)) (grind (arith, common_steps)) c.in_ok-add_declared.ensures

pub returns : goal.returns
returns g c =
    walked_all (declaration_of {A = g.row.A.Denot}) (outline.parameters outline.result output c.loop-i.i) refl
    (steps_view c.args.steps.now.items ++ outline.parameters outline.result output 0 (map (declaration_of {A = g.row.A.Denot}) c.args.decls.now.items))
    (steps_view c.loop-i.steps.items) c.args.decls.now.items c.loop-i.i c.loop-i.invariant (grind (arith, common_steps))
