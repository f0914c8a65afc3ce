use Rattle.std.proofs.Common.{◌≡◌, ◌++◌, drop}
use Rattle.flow.specs.declared.statement.Block.{out-Block}
use Rattle.flow.specs.View.{block_view}
use Rattle.language.specs.Parts.{stmts_within}
use Rattle.flow_index.specs.Sites.{sites_view}
use Rattle.flow_index.proofs.Walking.{below_of}
use Rattle.flow_index.proofs.walk.+walk.Given as goal

abbrev pub invariant-add_block-loop-statement : goal.invariant-add_block-loop-statement
invariant-add_block-loop-statement g l =
    sites_view {A = g.row.A.Denot} l.fn.sites.items ++ stmts_within (block_view {A = g.row.A.Denot} l.block)
    ≡ sites_view {A = g.row.A.Denot} l.sites.items ++ below_of g.row.A.Denot (drop l.statement-index (out-Block g.row.A.Denot l.block).statements.items)
