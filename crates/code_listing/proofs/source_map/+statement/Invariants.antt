use Rattle.std.proofs.Common.{[], drop, map}
use Rattle.code_listing.specs.Blocks.{blocks_among, in_statement, names_among}
use Rattle.code_listing.proofs.Finding.{Lacks}
use Rattle.code_listing.proofs.source_map.+statement.Given as goal

abbrev pub invariant-find_statements-loop-one : goal.invariant-find_statements-loop-one
invariant-find_statements-loop-one g l =
    let all = map (in_statement {A = g.row.A.Denot}) l.statements.items in
    let rest = map (in_statement {A = g.row.A.Denot}) (drop l.one-index l.statements.items) in
    Lacks l.fn.found l.found [] (blocks_among all l.function) [] (blocks_among rest l.function) (names_among all) (names_among rest)
