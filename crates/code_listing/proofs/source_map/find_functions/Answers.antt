use Rattle.std.proofs.Common.{rules, arith, ◌≡◌, ◌+◌, ◌<◌, [], List, length, get_or, drop}
use Rattle.std.proofs.lemmas.Grind.{common_steps}
use Rattle.flow.specs.declared.script.Function.{Function}
use Rattle.code_listing.specs.Blocks.{functions_inner, functions_names, functions_roots}
use Rattle.code_listing.proofs.Finding.{functions_end, functions_step}
use Rattle.code_listing.proofs.source_map.find_functions.Goals as goal

pub loop-i-preserved : goal.loop-i-preserved
loop-i-preserved g c =
    let A = g.row.A.Denot in
    let fs : List (Function A) = c.args.functions.now in
    let within : c.loop-i.i < length fs = grind (arith, common_steps) in
    let item : get_or fs c.loop-i.i c.index-functions-i.result ≡ c.index-functions-i.result = search rules in
    functions_step A c.args.found.now c.loop-i.found c.find_function.new.found (functions_roots {A = A} 1 fs) (functions_inner {A = A} 1 fs) (functions_names {A = A} fs) fs c.loop-i.i c.index-functions-i.result within item c.loop-i.invariant c.find_function.ensures

pub returns : goal.returns
returns g c =
    let A = g.row.A.Denot in
    let fs : List (Function A) = c.args.functions.now in
    let behind : drop c.loop-i.i fs ≡ [] = grind (arith, common_steps) in
    functions_end A c.args.found.now c.loop-i.found (c.loop-i.i + 1) (functions_roots {A = A} 1 fs) (functions_inner {A = A} 1 fs) (functions_names {A = A} fs) (drop c.loop-i.i fs) behind c.loop-i.invariant
