use Rattle.std.proofs.Common.{◌≡◌, ◌++◌, drop}
use Rattle.flow_index.specs.Sites.{sites_view}
use Rattle.flow_index.proofs.Walking.{functions_of}
use Rattle.flow_index.proofs.walk.add_functions.Given as goal

abbrev pub invariant-loop-i : goal.invariant-loop-i
invariant-loop-i g l =
    sites_view {A = g.row.A.Denot} l.initial.sites.items ++ functions_of g.row.A.Denot l.functions
    ≡ sites_view {A = g.row.A.Denot} l.sites.items ++ functions_of g.row.A.Denot (drop l.i l.functions)
