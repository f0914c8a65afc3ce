use Rattle.std.proofs.Common.{◌≡◌, ◌<◌, ◌++◌, ◌∷◌, [], length, get_or, map, ap, ap₂, ◌∙◌, arith}
use Rattle.std.proofs.lemmas.Grind.{common_steps}
use Rattle.syntax_trees.specs.View.{word_of}
use Rattle.language.specs.Resolved.{refers, awaited, awaited_as}
use Rattle.syntax_trees.proofs.Numbering.{viewed_all}
use Rattle.types.specs.Typed.{table_of}
use Rattle.flow.specs.View.{name_view, names_view, awaited_view}
use Rattle.lowering.proofs.Walks.{found_more}
use Rattle.lowering.proofs.names.all.Goals as goal

pub loop-name-preserved : goal.loop-name-preserved
loop-name-preserved g c =
    let A = g.row.A.Denot in
    let tb = table_of c.args.typed.now in
    let xs = c.args.names.now.items in
    let i = c.loop-name.name-index in
    let x = c.name-item.result in
    let below : i < length xs = grind (arith, common_steps) in
    let is : x ≡ get_or xs i x = grind (arith, common_steps) in
    let after : c.push.new.self.items ≡ c.loop-name.found.items ++ c.refer.result ∷ [] = grind (arith, common_steps) in (
      ap names_view after ∙ found_more (word_of {A = A}) (refers tb) name_view xs c.loop-name.found.items i x c.refer.result c.loop-name.invariant.0 below is c.refer.ensures.name,
      ap (map awaited_view) after ∙ found_more (word_of {A = A}) (awaited tb) awaited_view xs c.loop-name.found.items i x c.refer.result c.loop-name.invariant.1 below is
          (ap₂ awaited_as c.refer.ensures.shape c.refer.ensures.name),
    )

pub returns-clause-names : goal.returns-clause-names
returns-clause-names g c =
    c.loop-name.invariant.0 ∙ ap (map (refers (table_of c.args.typed.now))) (viewed_all (word_of {A = g.row.A.Denot}) c.args.names.now.items c.loop-name.name-index (grind (arith, common_steps)))

pub returns-clause-awaited : goal.returns-clause-awaited
returns-clause-awaited g c =
    c.loop-name.invariant.1 ∙ ap (map (awaited (table_of c.args.typed.now))) (viewed_all (word_of {A = g.row.A.Denot}) c.args.names.now.items c.loop-name.name-index (grind (arith, common_steps)))
