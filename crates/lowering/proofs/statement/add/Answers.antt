use Rattle.std.proofs.Common.{rules, List, [], ◌∷◌, ◌++◌, ap, ◌∙◌}
use Rattle.std.proofs.lemmas.List.{map-append}
use Rattle.flow.specs.Listed.{Listed, statement_listed}
use Rattle.std.specs.List.{flat_map}
use Rattle.flow.specs.Cells.{Anchor, statement_anchors}
use Rattle.flow.proofs.Growing.{grows_by}
use Rattle.lowering.specs.Listed.{listed_by}
use Rattle.flow.specs.declared.statement.Statement.{the_lemmas}
use Rattle.lowering.specs.Shapes.{declared_by}
use Rattle.lowering.proofs.Anchors.{one_more_stands}
use Rattle.lowering.proofs.Declaring.{one_more}
use Rattle.lowering.proofs.statement.add.Goals as goal

pub returns-clause-declared : goal.returns-clause-declared
returns-clause-declared g c =
    ap declared_by c.in_ok-push.ensures.items
    ∙ one_more c.args.found.now.items _
    ∙ ap (λ ds. declared_by c.args.found.now.items ++ ds) (search (rules, the_lemmas))

pub returns-clause-listed : goal.returns-clause-listed
returns-clause-listed g c =
    ap listed_by c.in_ok-push.ensures.items
    ∙ map-append statement_listed c.args.found.now.items _
    ∙ ap (λ (l : Listed). listed_by c.args.found.now.items ++ l ∷ []) (search (rules, the_lemmas))

pub returns-clause-cells : goal.returns-clause-cells
returns-clause-cells g c =
    let A = g.row.A.Denot in
    grows_by _ _ _
    (ap (flat_map (statement_anchors {A = A})) c.in_ok-push.ensures.items
    ∙ one_more_stands c.args.found.now.items _
    ∙ ap (λ (ds : List Anchor). flat_map (statement_anchors {A = A}) c.args.found.now.items ++ ds) (search (rules, the_lemmas)))
