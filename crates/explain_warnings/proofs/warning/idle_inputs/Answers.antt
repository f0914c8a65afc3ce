use Rattle.std.proofs.Common.{◌++◌, map, refl, ap, ◌∙◌, arith}
use Rattle.std.proofs.lemmas.Grind.{common_steps}
use Rattle.std.specs.Prelude.{Bool}
use Rattle.syntax_trees.specs.View.{declaration_of}
use Rattle.language.proofs.Walks.{walked_all}
use Rattle.explain_warnings.specs.Marks.{is_marked}
use Rattle.explain_warnings.specs.Warnings.{idle, idle_input}
use Rattle.explain_warnings.proofs.Added.{idle_more}
use Rattle.explain_warnings.proofs.warning.idle_inputs.Goals as goal

pub loop-i-preserved : goal.loop-i-preserved
loop-i-preserved g c =
    idle_more (declaration_of {A = g.row.A.Denot}) (is_marked c.args.read.now)
    (c.args.found.now.items ++ idle (is_marked c.args.read.now) 0 (map (declaration_of {A = g.row.A.Denot}) c.args.inputs.now.items))
    c.loop-i.found.items c.idle_input.new.found.items c.args.inputs.now.items c.loop-i.i c.index.result.now
    c.loop-i.invariant (grind (arith, common_steps)) (grind (arith, common_steps))
    (c.in_ok-idle_input.ensures ∙ ap (λ (b : Bool). c.loop-i.found.items ++ idle_input b (declaration_of {A = g.row.A.Denot} c.index.result.now)) c.is_marked.ensures)

pub returns : goal.returns
returns g c =
    walked_all (declaration_of {A = g.row.A.Denot}) (idle (is_marked c.args.read.now) c.loop-i.i) refl
    (c.args.found.now.items ++ idle (is_marked c.args.read.now) 0 (map (declaration_of {A = g.row.A.Denot}) c.args.inputs.now.items))
    c.loop-i.found.items c.args.inputs.now.items c.loop-i.i c.loop-i.invariant (grind (arith, common_steps))
