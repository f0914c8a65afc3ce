use Rattle.std.proofs.Common.{◌≡◌, ◌+◌, ◌*◌, ◌++◌, map, drop}
use Rattle.std.specs.List.{sum_by}
use Rattle.syntax_trees.specs.View.{statement_view, command_view, body_view}
use Rattle.language.specs.Numbered.{statement_size, command_size, body_size}
use Rattle.types.specs.Typed.{table_of}
use Rattle.flow.specs.View.{statements_view}
use Rattle.lowering.specs.Shapes.{among, declared_by, flagged}
use Rattle.lowering.specs.Listed.{all_listed, listed_by}
use Rattle.lowering.specs.Nodes.{StatementsStand, nodes_among}
use Rattle.lowering.specs.View.{statements_among}
use Rattle.lowering.proofs.statement.+statement.Given as goal

abbrev pub decreases-statement : goal.decreases-statement
decreases-statement g l = 6 * statement_size (statement_view l.stmt.now)

abbrev pub decreases-command : goal.decreases-command
decreases-command g l = 6 * command_size (command_view l.kind.now) + 5

abbrev pub decreases-boxed_block : goal.decreases-boxed_block
decreases-boxed_block g l = 6 * body_size (body_view l.body.now) + 3

abbrev pub decreases-each : goal.decreases-each
decreases-each g l = 6 * sum_by statement_size (map statement_view l.statements.now.items) + 1

abbrev pub invariant-each-loop-stmt : goal.invariant-each-loop-stmt
invariant-each-loop-stmt g l =
    (statements_view l.fn.found.items ++ statements_among (table_of l.typed) (map statement_view l.statements.items)
    ≡ statements_view l.found.items ++ statements_among (table_of l.typed) (map statement_view (drop l.stmt-index l.statements.items)))
    × (declared_by l.fn.found.items ++ flagged (among (map statement_view l.statements.items))
    ≡ declared_by l.found.items ++ flagged (among (map statement_view (drop l.stmt-index l.statements.items))))
    × (listed_by l.fn.found.items ++ all_listed (map statement_view l.statements.items)
    ≡ listed_by l.found.items ++ all_listed (map statement_view (drop l.stmt-index l.statements.items)))
    × StatementsStand l.fn.found.items l.found.items (nodes_among (map statement_view l.statements.items))
