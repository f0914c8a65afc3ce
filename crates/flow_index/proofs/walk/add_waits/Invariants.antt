use Rattle.std.proofs.Common.{◌≡◌, ◌++◌, drop}
use Rattle.flow.specs.View.{block_view}
use Rattle.flow_index.specs.Sites.{sites_view}
use Rattle.flow_index.specs.Waits.{waits_inside}
use Rattle.flow_index.proofs.walk.add_waits.Given as goal

abbrev pub invariant-loop-i : goal.invariant-loop-i
invariant-loop-i g l =
    sites_view {A = g.row.A.Denot} l.initial.sites.items ++ waits_inside {A = g.row.A.Denot} l.waits (block_view {A = g.row.A.Denot} l.content)
    ≡ sites_view {A = g.row.A.Denot} l.sites.items ++ waits_inside {A = g.row.A.Denot} (drop l.i l.waits) (block_view {A = g.row.A.Denot} l.content)
