use Rattle.std.proofs.Common.{◌++◌, List, map, ap, sym, ◌∙◌}
use Rattle.syntax_trees.specs.declared.tree.Block.{out-Block}
use Rattle.syntax_trees.specs.View.{statement_view, body_view}
use Rattle.language.specs.Tree as trees
use Rattle.syntax_trees.proofs.Views.{view-Block}
use Rattle.types.specs.Typed.{table_of}
use Rattle.flow.specs.declared.statement.Statement.{Statement as Added}
use Rattle.flow.specs.View.{statements_view}
use Rattle.lowering.proofs.Statements.{block_found}
use Rattle.language_accepted.specs.Types.{body_declarations}
use Rattle.lowering.specs.Shapes.{among, declared_by, flagged}
use Rattle.flow.specs.Listed as shows
use Rattle.flow.proofs.Growing.{among_as}
use Rattle.lowering.proofs.Anchors.{block_stands}
use Rattle.lowering.specs.Listed.{all_listed, body_listed, listed_by}
use Rattle.lowering.proofs.statement.block.Goals as goal

pub returns-clause-core : goal.returns-clause-core
returns-clause-core g c =
    let A = g.row.A.Denot in
    let b = out-Block A c.args.body.now in
    c.block_at.ensures.core
    ∙ block_found (table_of c.args.typed.now) b.from (map (statement_view {A = A}) b.statements.items) (body_view {A = A} c.args.body.now) (statements_view c.new-statements.result.items)
    (statements_view c.each.new.found.items) (ap (statements_view {A = A}) c.new-statements.ensures.items) c.in_ok-each.ensures.core (view-Block A c.args.body.now)

pub returns-clause-declared : goal.returns-clause-declared
returns-clause-declared g c =
    let A = g.row.A.Denot in
    let b = out-Block A c.args.body.now in
    c.block_at.ensures.declared
    ∙ c.in_ok-each.ensures.declared
    ∙ ap (λ (xs : List (Added A)). declared_by xs ++ flagged (among (map (statement_view {A = A}) b.statements.items))) c.new-statements.ensures.items
    ∙ ap (λ (x : trees.Body). flagged (body_declarations x)) (sym (view-Block A c.args.body.now))

pub returns-clause-listed : goal.returns-clause-listed
returns-clause-listed g c =
    let A = g.row.A.Denot in
    let b = out-Block A c.args.body.now in
    c.block_at.ensures.listed
    ∙ ap (shows.block_of b.from)
    (c.in_ok-each.ensures.listed ∙ ap (λ (xs : List (Added A)). listed_by xs ++ all_listed (map (statement_view {A = A}) b.statements.items)) c.new-statements.ensures.items)
    ∙ ap body_listed (sym (view-Block A c.args.body.now))

pub returns-clause-cells : goal.returns-clause-cells
returns-clause-cells g c =
    let A = g.row.A.Denot in
    let b = out-Block A c.args.body.now in
    among_as c.block_at.ensures.cells
    (block_stands c.new-statements.result.items c.each.new.found.items b.from (map (statement_view {A = A}) b.statements.items) (body_view {A = A} c.args.body.now)
    c.new-statements.ensures.items c.in_ok-each.ensures.cells (view-Block A c.args.body.now))
