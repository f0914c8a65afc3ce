use Rattle.std.proofs.Common.{arith, ◌<◌, ◌++◌, List, length, get_or}
use Rattle.std.proofs.lemmas.Grind.{common_steps}
use Rattle.flow.specs.declared.script.Function.{Function}
use Rattle.flow.specs.View.{block_view}
use Rattle.language.specs.Parts.{stmts_within}
use Rattle.flow_index.specs.Sites.{sites_view}
use Rattle.flow_index.proofs.Adding.{one_more}
use Rattle.flow_index.proofs.Walking.{functions_more, functions_of, got_again}
use Rattle.flow_index.proofs.walk.add_functions.Goals as goal

pub loop-i-preserved : goal.loop-i-preserved
loop-i-preserved g c =
    let A = g.row.A.Denot in
    let fs = c.args.functions.now in
    let f = get_or c.args.functions.now c.loop-i.i c.index-functions-i.result in
    let within : c.loop-i.i < length c.args.functions.now = grind (arith, common_steps) in
    let item = got_again c.args.functions.now c.loop-i.i c.index-functions-i.result within in
    one_more (λ (z : List (Function A)). functions_of A z) (λ (z : Function A). stmts_within (block_view {A = A} z.body)) (λ x ys. functions_more A x ys)
    (sites_view {A = A} c.args.sites.now.items ++ functions_of A fs) (sites_view {A = A} c.loop-i.sites.items) (sites_view {A = A} c.add_block.new.sites.items)
    fs c.loop-i.i f within item c.loop-i.invariant c.in_ok-add_block.ensures
