use Rattle.std.proofs.Common.{List, ◌++◌, map, ap, subst, ◌∙◌}
use Rattle.std.specs.List.{flat_map}
use Rattle.flow.specs.Cells.{AnchorsGrow, statement_anchors}
use Rattle.flow.proofs.Growing.{among_as}
use Rattle.lowering.specs.Nodes.{own_nodes}
use Rattle.flow.specs.declared.statement.Statement.{Statement as Added}
use Rattle.flow.specs.Listed as shows
use Rattle.lowering.specs.Listed.{listed_by, own_listed}
use Rattle.language.specs.Resolved.{script_block}
use Rattle.syntax_trees.specs.View.{part_of}
use Rattle.types.specs.Typed.{table_of}
use Rattle.flow.specs.View.{statements_view}
use Rattle.lowering.proofs.Statements.{gathered}
use Rattle.lowering.proofs.script.own_block.Goals as goal

pub returns-clause-core : goal.returns-clause-core
returns-clause-core g c =
    let A = g.row.A.Denot in
    c.block_at.ensures.core
    ∙ gathered (script_block (table_of c.args.typed.now) (map (part_of {A = A}) c.args.items.now.items)) (statements_view c.new-statements.result.items)
    (statements_view c.add_statements.new.found.items) (ap (statements_view {A = A}) c.new-statements.ensures.items) c.in_ok-add_statements.ensures.core

pub returns-clause-listed : goal.returns-clause-listed
returns-clause-listed g c =
    let A = g.row.A.Denot in
    c.block_at.ensures.listed
    ∙ ap (shows.block_of 0)
    (c.in_ok-add_statements.ensures.listed ∙ ap (λ (xs : List (Added A)). listed_by xs ++ own_listed (map (part_of {A = A}) c.args.items.now.items)) c.new-statements.ensures.items)

pub returns-clause-cells : goal.returns-clause-cells
returns-clause-cells g c =
    let A = g.row.A.Denot in
    let now = flat_map (statement_anchors {A = A}) c.add_statements.new.found.items in
    among_as c.block_at.ensures.cells
    (subst (λ (xs : List (Added A)). AnchorsGrow (flat_map statement_anchors xs) now (own_nodes (map (part_of {A = A}) c.args.items.now.items))) c.new-statements.ensures.items c.in_ok-add_statements.ensures.cells).each
