use Rattle.std.proofs.Common.{[], ◌∷◌, ◌++◌, map, refl, arith}
use Rattle.std.proofs.lemmas.Grind.{common_steps}
use Rattle.language.specs.Tree.{Word}
use Rattle.syntax_trees.specs.View.{word_of}
use Rattle.types.specs.Typed.{table_of}
use Rattle.assign_check.specs.Outline as outline
use Rattle.assign_check.specs.View.{steps_view}
use Rattle.language.proofs.Walks.{walked_more, walked_all}
use Rattle.assign_check.proofs.outlining.blocks.targets.Goals as goal

pub loop-name-preserved : goal.loop-name-preserved
loop-name-preserved g c =
    let use_of = outline.use_of (table_of c.args.typed.now) outline.named in
    walked_more (word_of {A = g.row.A.Denot}) (λ (w : Word). use_of w ∷ []) (map use_of) (λ y ys. refl)
    (steps_view c.args.steps.now.items ++ map use_of (map (word_of {A = g.row.A.Denot}) c.args.names.now.items))
    (steps_view c.loop-name.steps.items) (steps_view c.add_use.new.steps.items) c.args.names.now.items c.loop-name.name-index c.name-item.result
    c.loop-name.invariant (grind (arith, common_steps)) (grind (arith, common_steps)) c.in_ok-add_use.ensures

pub returns : goal.returns
returns g c =
    let use_of = outline.use_of (table_of c.args.typed.now) outline.named in
    walked_all (word_of {A = g.row.A.Denot}) (map use_of) refl
    (steps_view c.args.steps.now.items ++ map use_of (map (word_of {A = g.row.A.Denot}) c.args.names.now.items))
    (steps_view c.loop-name.steps.items) c.args.names.now.items c.loop-name.name-index c.loop-name.invariant (grind (arith, common_steps))
