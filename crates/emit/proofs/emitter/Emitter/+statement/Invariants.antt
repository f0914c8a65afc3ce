use Rattle.std.proofs.Common.{◌+◌, ◌*◌, map, drop, max}
use Rattle.std.specs.List.{flat_map}
use denote.Param.Weighed.{most}
use Rattle.flow.proofs.statement.Action.TheLaws.{the_size as action_size}
use Rattle.flow.proofs.statement.Block.TheLaws.{the_size as block_size}
use Rattle.flow.proofs.statement.Statement.TheLaws.{the_size as statement_size}
use Rattle.flow.specs.Shapes.{kinds_of_function}
use Rattle.flow.specs.Cells.{statement_anchors}
use Rattle.emit.specs.Emits.{AddsMarks, roots_of, state_of}
use Rattle.emit.proofs.Emitting.{WalksOn}
use Rattle.emit.proofs.emitter.Emitter.+statement.Given as goal

abbrev pub invariant-each_statement-loop-one : goal.invariant-each_statement-loop-one
invariant-each_statement-loop-one g l =
    WalksOn (map kinds_of_function l.functions.items) (roots_of l.functions.items) l.inputs l.statements.items (drop l.one-index l.statements.items) (state_of l.fn.self) (state_of l.self)
    × AddsMarks l.fn.self l.self (flat_map statement_anchors l.statements.items)

abbrev pub decreases-block : goal.decreases-block
decreases-block g l = 2 * block_size g.row.A g.A.Allocator g.A.laws l.block.now + 0

abbrev pub decreases-each_statement : goal.decreases-each_statement
decreases-each_statement g l = 2 * most (statement_size g.row.A g.A.Allocator g.A.laws) l.statements.now.items + 1

abbrev pub decreases-statement : goal.decreases-statement
decreases-statement g l = 2 * statement_size g.row.A g.A.Allocator g.A.laws l.one.now + 0

abbrev pub decreases-action : goal.decreases-action
decreases-action g l = 2 * action_size g.row.A g.A.Allocator g.A.laws l.action.now + 0

abbrev pub decreases-when : goal.decreases-when
decreases-when g l = 2 * block_size g.row.A g.A.Allocator g.A.laws l.then.now + 1

abbrev pub decreases-choose : goal.decreases-choose
decreases-choose g l = 2 * max (block_size g.row.A g.A.Allocator g.A.laws l.then.now) (block_size g.row.A g.A.Allocator g.A.laws l.other.now) + 1

abbrev pub decreases-range : goal.decreases-range
decreases-range g l = 2 * block_size g.row.A g.A.Allocator g.A.laws l.body.now + 1

abbrev pub decreases-each : goal.decreases-each
decreases-each g l = 2 * block_size g.row.A g.A.Allocator g.A.laws l.body.now + 1

abbrev pub decreases-wait : goal.decreases-wait
decreases-wait g l = 2 * block_size g.row.A g.A.Allocator g.A.laws l.content.now + 1
