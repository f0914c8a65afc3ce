use Rattle.std.proofs.Common.{◌≡◌, ◌++◌, ◌∷◌, [], sym, subst}
use Rattle.std.specs.Prelude.{IsOkAnd}
use Rattle.std.proofs.lemmas.Result.{on_ok_weaker}
use Rattle.language.specs.Core as core
use Rattle.flow.specs.declared.statement.Action.{Action}
use Rattle.flow.specs.View.{action_view, statements_view}
use Rattle.flow.specs.Shapes.{action_declared}
use Rattle.lowering.specs.Shapes.{declared_by}
use Rattle.flow.specs.Listed.{action_listed}
use Rattle.flow.specs.Cells.{action_anchors}
use Rattle.lowering.specs.Nodes.{StatementsStand}
use Rattle.lowering.specs.Listed.{listed_by}
use Rattle.lowering.proofs.statement.add_made.Goals as goal

pub returns-in-Ok-clause-core : goal.returns-in-Ok-clause-core
returns-in-Ok-clause-core g c =
    let A = g.row.A.Denot in
    on_ok_weaker c.add.result
    (λ adds. subst (λ r. IsOkAnd r (λ (x : Action A). statements_view c.add.new.found.items ≡ statements_view c.args.found.now.items ++ core.stmt c.args.at c.args.node (action_view x) ∷ [])) (sym c.in-Ok.is) adds)
    c.add.ensures.core

pub returns-in-Ok-clause-declared : goal.returns-in-Ok-clause-declared
returns-in-Ok-clause-declared g c =
    let A = g.row.A.Denot in
    on_ok_weaker c.add.result
    (λ adds. subst (λ r. IsOkAnd r (λ (x : Action A). declared_by c.add.new.found.items ≡ declared_by c.args.found.now.items ++ action_declared x)) (sym c.in-Ok.is) adds)
    c.add.ensures.declared

pub returns-in-Ok-clause-listed : goal.returns-in-Ok-clause-listed
returns-in-Ok-clause-listed g c =
    let A = g.row.A.Denot in
    on_ok_weaker c.add.result
    (λ adds. subst (λ r. IsOkAnd r (λ (x : Action A). listed_by c.add.new.found.items ≡ listed_by c.args.found.now.items ++ action_listed x ∷ [])) (sym c.in-Ok.is) adds)
    c.add.ensures.listed

pub returns-in-Ok-clause-cells : goal.returns-in-Ok-clause-cells
returns-in-Ok-clause-cells g c =
    let A = g.row.A.Denot in
    on_ok_weaker c.add.result
    (λ adds. subst (λ r. IsOkAnd r (λ (x : Action A). StatementsStand c.args.found.now.items c.add.new.found.items (action_anchors x))) (sym c.in-Ok.is) adds)
    c.add.ensures.cells
