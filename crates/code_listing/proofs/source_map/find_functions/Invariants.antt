use Rattle.std.proofs.Common.{◌+◌, drop}
use Rattle.code_listing.specs.Blocks.{functions_inner, functions_names, functions_roots}
use Rattle.code_listing.proofs.Finding.{Lacks}
use Rattle.code_listing.proofs.source_map.find_functions.Given as goal

abbrev pub invariant-loop-i : goal.invariant-loop-i
invariant-loop-i g l =
    let fs = l.functions in
    let rest = drop l.i fs in
    Lacks l.fn.found l.found (functions_roots {A = g.row.A.Denot} 1 fs) (functions_inner {A = g.row.A.Denot} 1 fs) (functions_roots {A = g.row.A.Denot} (l.i + 1) rest) (functions_inner {A = g.row.A.Denot} (l.i + 1) rest)
    (functions_names {A = g.row.A.Denot} fs) (functions_names {A = g.row.A.Denot} rest)
