use Rattle.std.proofs.Common.{◌≡◌, ◌++◌, drop}
use Rattle.flow.specs.declared.statement.Block.{out-Block}
use Rattle.flow.specs.View.{block_view, statements_view}
use Rattle.language.specs.Parts.{block_list}
use Rattle.flow_index.specs.Sites.{sites_view}
use Rattle.flow_index.proofs.walk.add_statements.Given as goal

abbrev pub invariant-loop-statement : goal.invariant-loop-statement
invariant-loop-statement g l =
    sites_view {A = g.row.A.Denot} l.initial.sites.items ++ block_list (block_view {A = g.row.A.Denot} l.block)
    ≡ sites_view {A = g.row.A.Denot} l.sites.items ++ statements_view {A = g.row.A.Denot} (drop l.statement-index (out-Block g.row.A.Denot l.block).statements.items)
