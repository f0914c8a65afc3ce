use Rattle.std.proofs.Common.{rules, ◌≡◌, ◌∷◌, [], List, ap}
use Rattle.flow.specs.declared.script.Function.{Function}
use Rattle.code_listing.specs.declared.source_map.BodyKind.TheVariants as Of
use Rattle.code_listing.specs.Blocks.{functions_inner, functions_names, functions_roots, in_block, info}
use Rattle.code_listing.proofs.Finding.{gains_more, gains_same}
use Rattle.code_listing.proofs.source_map.find_script.Goals as goal

pub returns : goal.returns
returns g c =
    let A = g.row.A.Denot in
    let fs : List (Function A) = c.args.flow.now.functions.items in
    let own = in_block {A = A} c.args.flow.now.body in
    let slice : c.as_slice.result.now ≡ fs = search rules in
    let functions = gains_same c.find_block.new.found c.find_functions.new.found (functions_roots {A = A} 1 c.as_slice.result.now) (functions_roots {A = A} 1 fs) (functions_inner {A = A} 1 c.as_slice.result.now) (functions_inner {A = A} 1 fs)
    (functions_names {A = A} c.as_slice.result.now) (functions_names {A = A} fs) (ap (λ (z : List (Function A)). functions_roots {A = A} 1 z) slice) (ap (λ (z : List (Function A)). functions_inner {A = A} 1 z) slice) (ap (λ (z : List (Function A)). functions_names {A = A} z) slice) c.find_functions.ensures in
    gains_more c.args.found.now c.find_block.new.found c.find_functions.new.found (info Of.Script 0 0 ∷ []) (functions_roots {A = A} 1 fs) (own.blocks 0) (functions_inner {A = A} 1 fs) own.names (functions_names {A = A} fs)
    (gains_more c.args.found.now c.add_root.new.self c.find_block.new.found (info Of.Script 0 0 ∷ []) [] [] (own.blocks 0) [] own.names c.add_root.ensures c.find_block.ensures) functions
