use Rattle.std.proofs.Common.{rules, ◌≡◌, ◌++◌, [], List, map, sym, ap, ◌∙◌}
use Rattle.flow.specs.declared.script.Function.{Function}
use Rattle.flow.specs.View.{block_view, function_view}
use Rattle.language.specs.Core.{Stmt}
use Rattle.language.specs.Parts.{blocks_of, function_blocks, stmts_within}
use Rattle.flow_index.specs.declared.site.Site.{Site}
use Rattle.flow_index.specs.Sites.{sites_view}
use Rattle.flow_index.proofs.Walking.{among_joins, functions_of}
use Rattle.flow_index.proofs.walk.sites_of.Goals as goal

pub returns : goal.returns
returns g c =
    let A = g.row.A.Denot in
    let b = block_view {A = A} c.args.flow.now.body in
    let fs = c.args.flow.now.functions.items in
    let nothing : c.new-sites.result.items ≡ [] = search rules in
    let slice : c.as_slice.result.now ≡ c.args.flow.now.functions.items = search rules in
    let own = c.in_ok-add_block.ensures ∙ ap (λ (z : List (Site A)). sites_view {A = A} z ++ stmts_within b) nothing in
    c.in_ok-add_functions.ensures
    ∙ ap (λ (z : List (Function A)). sites_view {A = A} c.add_block.new.sites.items ++ functions_of A z) slice
    ∙ ap (λ (z : List Stmt). z ++ functions_of A fs) own
    ∙ sym (among_joins (blocks_of b) (function_blocks (map (function_view {A = A}) fs)))
