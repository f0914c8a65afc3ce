use Rattle.std.proofs.Common.{rules, refl, List, length, map, ap, arith}
use Rattle.flow.specs.Cells.{function_anchors}
use Rattle.flow.specs.Listed.{Listed, Shown, declared, function_of, function_shown}
use Rattle.std.proofs.lemmas.Grind.{common_steps}
use Rattle.flow.specs.declared.script.Function.{Function}
use Rattle.flow.specs.View.{function_view}
use Rattle.flow.specs.Shapes.{block_declared, kinds_of_function}
use Rattle.language.specs.Core as core
use Rattle.wait_merge.specs.Merged.{block_seen}
use Rattle.wait_merge.proofs.Lists.{kept_at, merged_more}
use Rattle.wait_merge.proofs.script.each.Goals as goal

pub loop-i-preserved : goal.loop-i-preserved
loop-i-preserved g c =
    let A = g.row.A.Denot in
    let xs = c.loop-i.functions.items in
    let olds = c.args.functions.now.items in
    let i = c.loop-i.i in
    let f = c.index_mut-function.result.now in
    let here = c.index_mut-function.ensures.value in
    let listed : Listed → List Shown = λ b. function_of f.at f.name.items (map declared f.inputs.items) (map declared f.outputs.items) b in
    let changed : core.Block → core.Function = λ b. record { inputs = length f.inputs.items; outputs = length f.outputs.items; body = b } in (
      search rules,
      kept_at (function_view {A = A}) xs olds i f _ c.loop-i.invariant.1 here (ap changed c.in_ok-merge_block.ensures.core),
      kept_at (λ (f : Function A). block_declared f.body) xs olds i f _ c.loop-i.invariant.2 here c.in_ok-merge_block.ensures.declared,
      kept_at (kinds_of_function {A = A}) xs olds i f _ c.loop-i.invariant.3 here refl,
      kept_at (function_shown {A = A}) xs olds i f _ c.loop-i.invariant.4 here (ap listed c.in_ok-merge_block.ensures.listed),
      kept_at (function_anchors {A = A}) xs olds i f _ c.loop-i.invariant.5 here c.in_ok-merge_block.ensures.cells,
      merged_more (λ (f : Function A). block_seen f.body) xs i _ c.loop-i.invariant.6 (grind (arith, common_steps)) c.in_ok-merge_block.ensures.merged,
    )
